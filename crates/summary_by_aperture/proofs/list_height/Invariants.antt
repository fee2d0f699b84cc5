-- `summary_by_aperture::list_height` meets its contract. The loop's invariant: the lower blocks, and those of this height below record b, are listed.
use Prim.Native.Nat.{◌≤◌}
use mathlib.Core.Path.{◌≡◌}
use lib.ListN.{length}
use Rattle.summary_by_aperture.specs.Listed.{Listed}
use Rattle.summary_by_aperture.proofs.list_height.Given as goal

abbrev pub invariant-loop-b : goal.invariant-loop-b
invariant-loop-b l = (l.b ≤ l.n) × (length l.s ≡ length l.initial.s) × Listed l.a l.s l.n l.h l.b l.r
