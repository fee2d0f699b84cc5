use Prim.Native.Nat.{◌-◌}
use mathlib.Core.Path.{sym, ◌∙◌, ap}
use native.Mathlib.Omega.{arith}
use Rattle.attribute_call.proofs.Left.{outcome, pass_starts, pass_more, pass_stops}
use Rattle.sequence.proofs.Walk.{walk_fault, walk_last, walk_more, more_onward}
use Rattle.attribute_call.proofs.pass.Goals as goal

pub loop-f-init : goal.loop-f-init
loop-f-init c = (omega arith, rw (c.nothing-heard.ensures, c.no_format-format.ensures) (pass_starts _ _ _ _ _ _))

pub returns-in-Fault : goal.returns-in-Fault
returns-in-Fault c =
    let l = c.loop-f in
    let e = sym c.turn_at-t.ensures ∙ c.in-Fault.is in
    c.judged.ensures ∙ sym (pass_stops _ _ _ _ _ _ l.heard _) ∙ sym (ap (outcome _ _ _ _ _ _ _) (walk_fault _ l.format _ l.at e)) ∙ l.invariant.1

pub returns-in-Last : goal.returns-in-Last
returns-in-Last c =
    let l = c.loop-f in
    let e = sym c.turn_at-t.ensures ∙ c.in-Last.is in
    simp (c.judged-in-Last.ensures, c.met.ensures, c.tail_fault-f.ensures)
    (sym (pass_stops _ _ _ _ _ _ _ _) ∙ sym (pass_more _ _ _ _ _ l.found l.heard _ _) ∙ sym (ap (outcome _ _ _ _ _ _ _) (walk_last _ l.format _ l.at e)) ∙ l.invariant.1)

pub loop-f-smaller : goal.loop-f-smaller
loop-f-smaller c =
    let l = c.loop-f in
    let e = sym c.turn_at-t.ensures ∙ c.in-More.is in
    omega (arith, (more_onward _ l.format _ l.at l.invariant.0 e).0, (more_onward _ l.format _ l.at l.invariant.0 e).1)

pub loop-f-preserved : goal.loop-f-preserved
loop-f-preserved c =
    let l = c.loop-f in
    let e = sym c.turn_at-t.ensures ∙ c.in-More.is in (
      (more_onward _ l.format _ l.at l.invariant.0 e).1,
      simp (c.heard_with-heard.ensures, c.met-found.ensures)
          (sym (pass_more _ _ _ _ _ l.found l.heard _ _) ∙ sym (ap (outcome _ _ _ _ _ _ _) (walk_more _ l.format _ l.at l.invariant.0 e)) ∙ l.invariant.1),
    )
