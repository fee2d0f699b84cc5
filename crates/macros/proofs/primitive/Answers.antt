-- `macros::primitive` meets its contract: its parameters are written first, and the number before them last; `primitive_does` joins the two.
-- Assumes nothing.
use native.Mathlib.Omega.{arith}
use Prim.Native.Nat.{◌^◌, ◌<◌}
use lib.IntN.{nat_abs}
use mathlib.Core.Path.{refl, ap, ◌∙◌}
use Rattle.macros.proofs.Working.{primitive_does, code_small, signed_plain}
use Rattle.macros.specs.Work.{verdict}
use Rattle.primitives.proofs.Headings.{heading_small}
use Rattle.primitives.specs.Rules.{code_of}
use Rattle.expression.proofs.Sizes.{stored_small}
use Rattle.macros.proofs.primitive.Goals as goal

pub heading-n-requires : goal.heading-n-requires
heading-n-requires c =
    let h = code_small c.up_to.result.now in omega (arith, c.code_of-code.ensures)

pub with_sign-requires : goal.with_sign-requires
with_sign-requires c =
    let s = heading_small c.code_of-code.result c.values-g.result.asked.count (let h = code_small c.up_to.result.now in omega (arith, c.code_of-code.ensures)) in omega (arith, c.heading-n.ensures)

pub returns : goal.returns
returns c =
    let a = c.args in let r = c.with_sign in let k : c.code_of-code.result < 100 = let h = code_small c.up_to.result.now in omega (arith, c.code_of-code.ensures) in let s = heading_small c.code_of-code.result c.values-g.result.asked.count k in let h : nat_abs r.result < 10 ^ 12 = omega (arith, r.ensures.1, c.heading-n.ensures) in let e = stored_small r.result h ∙ r.ensures.0 ∙ signed_plain c.heading-n.result in primitive_does a.v.values a.t.now c.find-comma.result c.code_of-code.result c.heading-n.result a.numbers.now _ _ _ a.p c.write-pen.result c.values-g.result _ c.find-comma.ensures (c.code_of-code.ensures ∙ ap code_of c.up_to.ensures) c.write-pen.ensures.0 c.write-pen.ensures.1 c.values-g.ensures c.requires c.heading-n.ensures c.write.ensures.0 e (c.verdict.ensures ∙ ap (verdict c.values-g.result.fine) c.keeps_rule.ensures) refl refl
