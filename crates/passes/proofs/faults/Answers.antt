use Rattle.seeing.proofs.Sights.{few_items}
use lib.Dec.{eqb}
use Prim.Native.Nat.{ℕ, ◌-◌}
use mathlib.Core.Path.{refl, ap, ◌∙◌}
use native.Mathlib.Omega.{arith}
use Rattle.passes.proofs.Mains.{passing_start, passing_out, passing_on, passing_end}
use Rattle.passes.proofs.Words.{met_is}
use Rattle.passes.specs.Words.{word_of, with_word}
use Rattle.passes.proofs.faults.Goals as goal

pub loop-k-init : goal.loop-k-init
loop-k-init c = (refl, λ l g. rw c.no_outline-o.ensures (passing_start l g))

pub see-s-requires : goal.see-s-requires
see-s-requires c = (c.requires, c.loop-k-test.true)

pub word_of-requires : goal.word_of-requires
word_of-requires c = omega arith

pub shape_of-names-then-f-ne0 : goal.shape_of-names-then-f-ne0
shape_of-names-then-f-ne0 c = c.loop-k.invariant.0

pub returns-then-f-ne0 : goal.returns-then-f-ne0
returns-then-f-ne0 c =
    λ l g. passing_out l (c.loop-k.invariant.1 l g) c.loop-k-test.true (c.see-s.ensures l) (c.met-m.ensures ∙ met_is (c.see-s.ensures l)) (ap (λ (x : ℕ). eqb x 1) (c.word_of.ensures ∙ ap (λ (d : ℕ). word_of c.loop-k.names d 2) c.main_of-d.ensures)) c.step_fault-f.ensures c.if-f-ne0.true

pub set_word-requires : goal.set_word-requires
set_word-requires c = omega arith

pub loop-k-preserved : goal.loop-k-preserved
loop-k-preserved c =
    let t = c.loop-k-test.true in let i = c.loop-k.invariant in (c.set_word.auto.names ∙ i.0, λ l g. passing_on l (i.1 l g) t (c.see-s.ensures l) (c.met-m.ensures ∙ met_is (c.see-s.ensures l)) (ap (λ (x : ℕ). eqb x 1) (c.word_of.ensures ∙ ap (λ (d : ℕ). word_of c.loop-k.names d 2) c.main_of-d.ensures)) c.step_fault-f.ensures c.if-f-ne0.false (c.set_word.ensures ∙ ap (λ (d : ℕ). with_word c.loop-k.names d 2 1) c.main_of-d.ensures) c.outline_after-o.ensures)

pub shape_of-names : goal.shape_of-names
shape_of-names c = c.loop-k.invariant.0

pub returns : goal.returns
returns c = λ l g. passing_end l (c.loop-k.invariant.1 l g) c.loop-k-test.false (omega arith) c.end_fault.ensures
