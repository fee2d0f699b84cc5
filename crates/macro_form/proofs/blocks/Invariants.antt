-- `macro_form::blocks` meets its contract: the loop's invariant: what is wrong so far, with the blocks from here on, is what is wrong with all of them;
-- no more decimals are counted than bytes were passed.
-- Assumes nothing.
use Rattle.macro_form.specs.Blocks.{gathered, block_form, blocks_form}
use Rattle.text.specs.Pieces.{pieces}
use lib.ListN.{length, drop}
use mathlib.Core.Path.{◌≡◌}
use Prim.Native.Char.{code}
use Prim.Native.Nat.{◌-◌, ◌≤◌}
use Rattle.macro_form.proofs.blocks.Given as goal

abbrev pub invariant-loop-at : goal.invariant-loop-at
invariant-loop-at l = (gathered block_form l.f (pieces (code "*") (drop l.at l.s)) ≡ blocks_form (drop l.from l.s)) × (l.f.rounded ≤ l.at)

abbrev pub decreases-loop-at : goal.decreases-loop-at
decreases-loop-at l = length l.s - l.at
