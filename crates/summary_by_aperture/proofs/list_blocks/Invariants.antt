-- `summary_by_aperture::list_blocks` meets its contract. The loop's invariant: the blocks lower than h are listed.
use Prim.Native.Nat.{◌≤◌}
use mathlib.Core.Path.{◌≡◌}
use lib.ListN.{length}
use Rattle.summary_by_aperture.specs.Listed.{Listed}
use Rattle.summary_by_aperture.proofs.list_blocks.Given as goal

abbrev pub invariant-loop-h : goal.invariant-loop-h
invariant-loop-h l = (l.h ≤ 9) × (length l.s ≡ length l.initial.s) × Listed l.a l.s l.n l.h 0 l.r
