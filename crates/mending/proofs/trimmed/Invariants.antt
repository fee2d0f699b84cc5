-- `mending::trimmed` meets its contract: what is left are the first bytes, and dropping CR and LF first makes no difference.
-- Assumes nothing.
use mathlib.Core.Path.{◌≡◌}
use Prim.Native.Nat.{◌≤◌}
use lib.ListN.{length, take}
use Rattle.base.specs.Breaks.{is_break}
use Rattle.base.specs.Trimmed.{drop_trailing}
use Rattle.mending.proofs.trimmed.Given as goal

abbrev pub invariant-loop-rest : goal.invariant-loop-rest
invariant-loop-rest l = record {
  front : l.rest ≡ take (length l.rest) l.s;
  short : length l.rest ≤ length l.s;
  same : drop_trailing is_break l.rest ≡ drop_trailing is_break l.s;
}

abbrev pub decreases-loop-rest : goal.decreases-loop-rest
decreases-loop-rest l = length l.rest
