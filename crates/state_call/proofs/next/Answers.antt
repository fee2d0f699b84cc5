-- `state_call::next` meets its contract: a rule that is broken refuses, and without one the covered change is made.
-- Assumes nothing.
use mathlib.Core.Path.{◌≡◌, refl, sym, ◌∙◌}
use borrow.Author.Tests.{eq-eqb, ne_eqb}
use Rattle.faults.proofs.Rules.{broken, kept, some_rule}
use Rattle.state_call.specs.Stepped.{fault_of, stepped_of}
use Rattle.state_call.proofs.Reached.{reached}
use Rattle.state_call.proofs.next.Goals as goal

pub returns-in-Err : goal.returns-in-Err
unfolding stepped_of
returns-in-Err c =
    let a = c.args in
    let e = broken c.in-Err.is ∙ c.fault_of.ensures in
    let same : a.g ≡ (stepped_of a.g a.l a.c a.k).graphics =
    rw (ne_eqb (fault_of a.g a.l a.c a.k) 0 (λ z. some_rule _ (e ∙ z))) refl in
    λ i. record { number = (c.from.ensures ∙ e) i; graphics = same i }

pub behind-after-requires : goal.behind-after-requires
behind-after-requires c =
    let a = c.args in
    reached a.g a.l a.c a.k (sym c.fault_of.ensures ∙ kept c.in_default.is)

pub returns : goal.returns
unfolding stepped_of
returns c =
    let a = c.args in
    let none = sym (kept c.in_default.is) ∙ c.fault_of.ensures in
    let changed : c.behind-after.result ≡ (stepped_of a.g a.l a.c a.k).graphics =
    rw (eq-eqb (fault_of a.g a.l a.c a.k) 0 (sym none)) c.behind-after.ensures in
    λ i. record { number = none i; graphics = changed i }
