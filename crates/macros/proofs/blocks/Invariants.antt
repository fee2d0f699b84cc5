-- `macros::blocks` meets its contract: the loop's invariant: what the blocks from here on do, after what was done so far, is what all of them do.
-- Assumes nothing.
use Rattle.macros.specs.Work.{worked_out, blocks_in}
use Rattle.macros.proofs.Working.{Working}
use lib.ListN.{length, drop}
use Prim.Native.Nat.{◌-◌}
use Rattle.macros.proofs.blocks.Given as goal

abbrev pub invariant-loop-at : goal.invariant-loop-at
invariant-loop-at l = Working (worked_out l.initial.d.variables.values (blocks_in (drop l.from l.s))) (worked_out l.d.variables.values (blocks_in (drop l.at l.s))) l.initial.numbers l.numbers l.initial.d.pen l.d

abbrev pub decreases-loop-at : goal.decreases-loop-at
decreases-loop-at l = length l.s - l.at
