-- `fields::part_after` meets its contract: what the part and the byte are picks the case of `part_after`.
-- Assumes nothing.
use Rattle.std.proofs.Common.{arith}
use Rattle.base.proofs.Tests.{tests}
use Rattle.base.specs.And.{◌and◌}
use Rattle.base.specs.Or.{◌or◌}
use mathlib.Core.Path.{sym}
use mathlib.Core.Logic.{inl, inr}
use borrow.Author.Tests.{ne_eqb}
use Rattle.base.proofs.And.{and_false}
use Rattle.fields.specs.Parts.{part_after}
use Rattle.fields.proofs.part_after.Goals as goal

pub returns-in-CodeG-eq52 : goal.returns-in-CodeG-eq52
unfolding part_after ◌and◌
returns-in-CodeG-eq52 c =
    let p = c.in-CodeG-eq52.is-0 in
    let q = c.in-CodeG-eq52.is-1 in
    let e = sym c.is_old.ensures in
    let t = c.if-is_old.true in
    simp (tests, p, q, e, t)

pub returns-in-MarkT-eq70 : goal.returns-in-MarkT-eq70
unfolding part_after ◌or◌
returns-in-MarkT-eq70 c =
    let p = c.in-MarkT-eq70.is-0 in
    elim c.in-MarkT-eq70.is-1 [
      | inl q ↦ simp (p, q)
      | inr r ↦ elim r [ inl q ↦ simp (p, q) | inr q ↦ simp (p, q) ]
    ]

pub returns-in_default-2 : goal.returns-in_default-2
unfolding part_after ◌and◌
returns-in_default-2 c = grind (arith, tests)

pub returns-in_default-3 : goal.returns-in_default-3
unfolding part_after ◌and◌
returns-in_default-3 c =
    let p = c.in_default.is-0 in
    let q = ne_eqb _ _ c.in_default.is-1.0.1 in
    let r = ne_eqb _ _ c.in_default.is-1.1 in
    simp (p, q, r, and_false)

pub returns-in_default-7 : goal.returns-in_default-7
unfolding part_after ◌or◌
returns-in_default-7 c =
    let p = c.in_default.is-0 in
    let n = c.in_default.is-1.1 in
    let a = ne_eqb _ _ (λ q. n (inl q)) in
    let f = ne_eqb _ _ (λ q. n (inr (inl q))) in
    let o = ne_eqb _ _ (λ q. n (inr (inr q))) in
    simp (p, a, f, o)
