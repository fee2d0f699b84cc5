use Rattle.macro_form.specs.Expression.{start, finished, expression_form}
use Rattle.macro_form.proofs.Few.{one_more}
use Rattle.macro_form.proofs.Walked.{walk_next, walk_end, open_after}
use Rattle.macro_tokens.proofs.Tokens.{lexed_further}
use native.Mathlib.Omega.{arith}
use mathlib.Core.Path.{refl, sym, ap, ◌∙◌}
use Prim.Native.Nat.{◌-◌}
use Rattle.macro_form.proofs.expression.Goals as goal

pub loop-at-init : goal.loop-at-init
unfolding start
loop-at-init c = (refl, omega arith, omega arith)

pub step-w-requires : goal.step-w-requires
step-w-requires c = let i = c.loop-at.invariant in (omega (arith, i.1), omega (arith, i.2))

pub loop-at-smaller : goal.loop-at-smaller
loop-at-smaller c =
    let l = c.loop-at in
    omega (arith, lexed_further c.args.t.now l.at c.loop-at-test.true, ap (λ x. x.next) c.token_at-l.ensures)

pub loop-at-preserved : goal.loop-at-preserved
loop-at-preserved c =
    let l = c.loop-at in
    let s = c.args.t.now in
    let further = lexed_further s l.at c.loop-at-test.true in
    let next = ap (λ x. x.next) c.token_at-l.ensures in
    let token = c.token_at-l.result.token in (
      rw (c.step-w.ensures, c.token_at-l.ensures) (sym (walk_next s l.at l.w c.loop-at-test.true) ∙ l.invariant.0),
      omega (arith, open_after l.w token, further, next, ap (λ x. x.depth) c.step-w.ensures, l.invariant.1),
      omega (arith, one_more l.w token, further, next, ap (λ x. x.rounded) c.step-w.ensures, l.invariant.2),
    )

pub returns : goal.returns
unfolding expression_form
returns c =
    let l = c.loop-at in
    c.finish.ensures ∙ ap finished (sym (walk_end _ l.at l.w c.loop-at-test.false) ∙ l.invariant.0)
