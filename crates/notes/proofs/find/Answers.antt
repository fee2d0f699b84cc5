use Prim.Native.Nat.{ℕ}
use Rattle.notes.specs.Notes.{note_of}
use mathlib.Core.Path.{sym, ap, ◌∙◌}
use Rattle.notes.proofs.Notes.{from_here, before_here}
use native.Mathlib.Omega.{arith}
use mathlib.Core.Path.{◌≡◌}
use Prim.Native.Nat.{◌-◌}
use Rattle.notes.proofs.find.Goals as goal

pub loop-low-init : goal.loop-low-init
loop-low-init c = let w = c.requires in (w, omega arith, w.inside, omega arith)

pub overflow_add-low : goal.overflow_add-low
overflow_add-low c = let w = c.loop-low.invariant.0.ordered.inside in omega arith

pub overflow_sub-middle : goal.overflow_sub-middle
overflow_sub-middle c = omega arith

pub overflow_add-middle : goal.overflow_add-middle
overflow_add-middle c = omega arith

pub place_at-requires : goal.place_at-requires
place_at-requires c = let w = c.loop-low.invariant.0.ordered.inside in omega arith

pub loop-low-smaller-then-place_at-place : goal.loop-low-smaller-then-place_at-place
loop-low-smaller-then-place_at-place c = omega arith

pub loop-low-preserved-then-place_at-place : goal.loop-low-preserved-then-place_at-place
loop-low-preserved-then-place_at-place c = let i = c.loop-low.invariant in
    let p = c.place_at.ensures in
    (i.0, from_here i.0 _ (omega arith) (rw p at c.if-place_at-place.true), i.2, i.3)

pub loop-low-smaller : goal.loop-low-smaller
loop-low-smaller c = omega arith

pub loop-low-preserved : goal.loop-low-preserved
loop-low-preserved c = let i = c.loop-low.invariant in
    let p = c.place_at.ensures in
    (i.0, i.1, before_here i.0 _ (omega arith) (rw p at c.if-place_at-place.false), omega arith)

pub returns : goal.returns
returns c = let i = c.loop-low.invariant in
    let q : i.0.at ≡ c.loop-low.low = omega arith in
    record { inside = omega arith; is = sym (ap (λ (j : ℕ). (note_of c.args.s.now j).place) q) ∙ i.0.is }
