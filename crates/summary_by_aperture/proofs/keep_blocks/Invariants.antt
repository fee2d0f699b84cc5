-- `summary_by_aperture::keep_blocks` meets its contract. The loop's invariant: the rows of the first i blocks of the list are kept.
use Prim.Native.Nat.{◌≤◌}
use mathlib.Core.Path.{◌≡◌}
use lib.ListN.{length}
use Rattle.sheet.specs.Containers.{apertures_used}
use Rattle.summary_by_aperture.specs.Blocks.{Done}
use Rattle.summary_by_aperture.proofs.keep_blocks.Given as goal

abbrev pub invariant-loop-i : goal.invariant-loop-i
invariant-loop-i l = (l.i ≤ l.m) × (l.n ≡ apertures_used l.head) × (length l.s ≡ length l.initial.s) × Done l.head l.e l.a l.q l.m l.i l.s
