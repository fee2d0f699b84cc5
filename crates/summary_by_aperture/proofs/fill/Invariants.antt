-- `summary_by_aperture::fill` meets its contract. The loop's invariant: the rows of b aperture records are put, and the rest is 0.
use Rattle.summary_by_aperture.specs.Blocks.{Ready}
use Rattle.summary_by_aperture.proofs.Answers.{rows_put}
use Rattle.sheet.specs.Containers.{apertures_used}
use Rattle.sheet.specs.Meaning.{sheet_items}
use lib.ListN.{length}
use mathlib.Core.Path.{◌≡◌}
use Prim.Native.Nat.{◌≤◌}
use Rattle.summary_by_aperture.proofs.fill.Given as goal

abbrev pub invariant-loop-b : goal.invariant-loop-b
invariant-loop-b l = (l.b ≤ l.n) × (l.n ≡ apertures_used l.head) × (length l.s ≡ length l.initial.s) × (length l.out ≡ length l.initial.out) × (l.out ≡ rows_put (sheet_items l.head l.e l.a) l.a (length l.initial.out) l.b) × Ready l.head l.e l.a l.s l.m
