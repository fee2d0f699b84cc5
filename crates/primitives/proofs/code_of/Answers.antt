-- `primitives::code_of` meets its contract: each test is that of a row of `code_of`.
-- Assumes nothing.
use Rattle.primitives.specs.Rules.{code_of}
use Rattle.base.proofs.Choose.{row_holds, row_fails}
use mathlib.Core.Path.{refl, sym, ◌∙◌}
use Rattle.primitives.proofs.code_of.Goals as goal

pub returns-then-is : goal.returns-then-is
unfolding code_of
returns-then-is c = (row_holds _ (sym c.is.ensures ∙ c.if-is.true) refl)

pub returns-then-is-2 : goal.returns-then-is-2
unfolding code_of
returns-then-is-2 c =
    (row_fails _ (sym c.is.ensures ∙ c.if-is.false)
    (row_holds _ (sym c.is-2.ensures ∙ c.if-is-2.true) refl))

pub returns-then-is-3 : goal.returns-then-is-3
unfolding code_of
returns-then-is-3 c =
    (row_fails _ (sym c.is.ensures ∙ c.if-is.false)
    (row_fails _ (sym c.is-2.ensures ∙ c.if-is-2.false)
    (row_holds _ (sym c.is-3.ensures ∙ c.if-is-3.true) refl)))

pub returns-then-is-4 : goal.returns-then-is-4
unfolding code_of
returns-then-is-4 c =
    (row_fails _ (sym c.is.ensures ∙ c.if-is.false)
    (row_fails _ (sym c.is-2.ensures ∙ c.if-is-2.false)
    (row_fails _ (sym c.is-3.ensures ∙ c.if-is-3.false)
    (row_holds _ (sym c.is-4.ensures ∙ c.if-is-4.true) refl))))

pub returns-then-is-5 : goal.returns-then-is-5
unfolding code_of
returns-then-is-5 c =
    (row_fails _ (sym c.is.ensures ∙ c.if-is.false)
    (row_fails _ (sym c.is-2.ensures ∙ c.if-is-2.false)
    (row_fails _ (sym c.is-3.ensures ∙ c.if-is-3.false)
    (row_fails _ (sym c.is-4.ensures ∙ c.if-is-4.false)
    (row_holds _ (sym c.is-5.ensures ∙ c.if-is-5.true) refl)))))

pub returns-then-is-6 : goal.returns-then-is-6
unfolding code_of
returns-then-is-6 c =
    (row_fails _ (sym c.is.ensures ∙ c.if-is.false)
    (row_fails _ (sym c.is-2.ensures ∙ c.if-is-2.false)
    (row_fails _ (sym c.is-3.ensures ∙ c.if-is-3.false)
    (row_fails _ (sym c.is-4.ensures ∙ c.if-is-4.false)
    (row_fails _ (sym c.is-5.ensures ∙ c.if-is-5.false)
    (row_holds _ (sym c.is-6.ensures ∙ c.if-is-6.true) refl))))))

pub returns : goal.returns
unfolding code_of
returns c =
    (row_fails _ (sym c.is.ensures ∙ c.if-is.false)
    (row_fails _ (sym c.is-2.ensures ∙ c.if-is-2.false)
    (row_fails _ (sym c.is-3.ensures ∙ c.if-is-3.false)
    (row_fails _ (sym c.is-4.ensures ∙ c.if-is-4.false)
    (row_fails _ (sym c.is-5.ensures ∙ c.if-is-5.false)
    (row_fails _ (sym c.is-6.ensures ∙ c.if-is-6.false)
    refl))))))
