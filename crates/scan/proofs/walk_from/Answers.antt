use mathlib.Core.Path.{refl, sym, ◌∙◌}
use native.Mathlib.Omega.{arith}
use Rattle.scan.proofs.Run.{at_end_lem, at_between, at_inside, at_complete, at_bad}
use Rattle.scan.proofs.Walk.{walk}
use Rattle.scan.proofs.walk_from.Goals as goal

pub loop-at-init : goal.loop-at-init
loop-at-init c = (omega arith, walk _ _ _ _ refl)

pub bounds-file-at : goal.bounds-file-at
bounds-file-at c = omega arith

pub overflow_add-at : goal.overflow_add-at
overflow_add-at c = omega arith

pub loop-at-smaller-in-Between : goal.loop-at-smaller-in-Between
loop-at-smaller-in-Between c = omega arith

pub loop-at-preserved-in-Between : goal.loop-at-preserved-in-Between
loop-at-preserved-in-Between c =
    let l = c.loop-at in
    let a = c.args in
    (omega arith, sym (at_between a.book a.file.now l.place l.way l.at c.loop-at-test.true (sym c.way_after-next.ensures ∙ c.in-Between.is)) ∙ l.invariant.1)

pub overflow_add-at-in-Inside : goal.overflow_add-at-in-Inside
overflow_add-at-in-Inside c = omega arith

pub loop-at-smaller : goal.loop-at-smaller
loop-at-smaller c =
    omega (arith, c.leap-l.ensures.on, c.loop-at-test.true)

pub loop-at-preserved : goal.loop-at-preserved
loop-at-preserved c =
    let l = c.loop-at in
    let a = c.args in (
      omega (arith, c.leap-l.ensures.on, l.invariant.0),
      c.leap-l.ensures.same a.book l.place
          ∙ sym (at_inside a.book a.file.now l.place l.way l.at c.loop-at-test.true (sym c.way_after-next.ensures ∙ c.in-Inside.is))
          ∙ l.invariant.1,
    )

pub to_command-requires : goal.to_command-requires
to_command-requires c = (omega arith, omega arith)

pub returns-in-Complete : goal.returns-in-Complete
returns-in-Complete c =
    let l = c.loop-at in
    let a = c.args in
    c.to_command.ensures ∙ sym (at_complete a.book a.file.now l.place l.way l.at c.loop-at-test.true (sym c.way_after-next.ensures ∙ c.in-Complete.is)) ∙ l.invariant.1

pub returns-in-Bad : goal.returns-in-Bad
returns-in-Bad c =
    let l = c.loop-at in
    let a = c.args in
    sym (at_bad a.book a.file.now l.place l.way l.at c.loop-at-test.true (sym c.way_after-next.ensures ∙ c.in-Bad.is)) ∙ l.invariant.1

pub returns : goal.returns
returns c =
    let l = c.loop-at in
    let a = c.args in
    c.way_ended.ensures ∙ sym (at_end_lem a.book a.file.now l.place l.way l.at c.loop-at-test.false) ∙ l.invariant.1
