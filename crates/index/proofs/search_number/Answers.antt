use Rattle.std.specs.Prelude.{Err, ℕ}
use mathlib.Core.Path.{◌≡◌, sym, ap, ◌∙◌}
use mathlib.Core.Bool.{false}
use native.Mathlib.Omega.{arith}
use borrow.Author.Tests.{eq-eqb, ne_eqb, eqb-true}
use lib.Dec.{eqb}
use Rattle.index.specs.First.{first_of}
use Rattle.index.specs.Tree.{last_link}
use Rattle.index.specs.Numbers.{number_of, numbered}
use Rattle.index.proofs.Seek.{seek_start, first_at_lem, led_later, led_on, led_nowhere}
use Rattle.index.proofs.search_number.Goals as goal

pub returns-then-used-eq0 : goal.returns-then-used-eq0
unfolding numbered first_of last_link
returns-then-used-eq0 c = rw c.if-used-eq0.true (ap Err c.link_word-link.ensures)

pub loop-to-init : goal.loop-to-init
loop-to-init c =
    record { seeking = seek_start c.requires.tree _ _ (omega arith) (λ j e. eqb-true _ _ e); leading = c.link_word-link.ensures }

pub overflow_mul-at : goal.overflow_mul-at
overflow_mul-at c = omega (arith, c.loop-to.invariant.seeking.standing, c.requires.tree.inside)

-- the record that the search stands at has another number
other : (n m w : ℕ) → w ≡ n → (w ≡ m → ⊥) → eqb n m ≡ false
other n m w e h = ne_eqb n m (λ f. h (e ∙ f))

pub returns-then-to-eq0 : goal.returns-then-to-eq0
unfolding numbered
returns-then-to-eq0 c = led_nowhere c.requires.tree c.loop-to.invariant c.word_at-to.ensures (other _ _ _ c.word_at.ensures c.loop-to-test.true) c.if-to-eq0.true

pub link_word-link-requires-in-loop-to : goal.link_word-link-requires-in-loop-to
link_word-link-requires-in-loop-to c =
    omega (arith, led_later c.requires.tree c.loop-to.invariant c.word_at-to.ensures c.if-to-eq0.false, c.requires.tree.inside)

pub loop-to-smaller : goal.loop-to-smaller
loop-to-smaller c = omega (arith, led_later c.requires.tree c.loop-to.invariant c.word_at-to.ensures c.if-to-eq0.false)

pub loop-to-preserved : goal.loop-to-preserved
loop-to-preserved c =
    record {
      seeking = led_on c.requires.tree c.loop-to.invariant c.word_at-to.ensures (other _ _ _ c.word_at.ensures c.loop-to-test.true) c.if-to-eq0.false;
      leading = c.link_word-link-in-loop-to.ensures;
    }

pub returns : goal.returns
unfolding numbered
returns c =
    let a = c.args in
    let t = c.requires in
    let k = c.loop-to.invariant.seeking in
    let at = c.loop-to.at in
    let e : number_of a.s.now at ≡ a.number = sym c.word_at.ensures ∙ c.loop-to-test.false in
    sym (first_at_lem (λ i. eqb (number_of a.s.now i) a.number) _ 0 a.used at (omega arith) (omega (arith, k.standing)) (eq-eqb _ _ e)
    (λ m h f. t.distinct m at (omega arith) k.standing (eqb-true _ _ f ∙ sym e)))
