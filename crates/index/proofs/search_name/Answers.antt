use Rattle.std.specs.Prelude.{Err}
use mathlib.Core.Path.{◌≡◌, sym, ap, ◌∙◌}
use mathlib.Core.Bool.{true}
use native.Mathlib.Omega.{arith}
use native.Mathlib.Nat.{div-one}
use lib.Pow.{shr-shr}
use lib.Seq.{slice}
use Rattle.base.specs.Bytes.{same_bytes}
use Rattle.base.proofs.Lists.{same_is}
use Rattle.index.specs.First.{first_of}
use Rattle.index.specs.Tree.{link_word, link_of, last_link}
use Rattle.index.specs.Names.{name_of, key_of, named}
use Rattle.index.proofs.Seek.{seek_start, first_at_lem, led_later, led_on, led_nowhere}
use Rattle.index.proofs.search_name.Goals as goal

pub name_bit-requires : goal.name_bit-requires
name_bit-requires c = (c.requires.1, c.requires.2)

pub returns-then-used-eq0 : goal.returns-then-used-eq0
unfolding named first_of last_link
returns-then-used-eq0 c =
    let k = key_of (slice c.args.from c.args.to c.args.file.now) in
    rw c.if-used-eq0.true (ap Err (c.link_word-link.ensures ∙ ap (link_word 0) c.name_bit.ensures ∙ ap (link_of 0) (div-one k)))

pub loop-next-init : goal.loop-next-init
loop-next-init c =
    let a = c.args in
    let k = key_of (slice a.from a.to a.file.now) in
    record {
      stands = record {
        seeking = rw (div-one k) (seek_start c.requires.0.tree _ _ (omega arith) (λ j e. ap key_of (same_is _ _ e)));
        leading = c.link_word-link.ensures ∙ ap (link_word 0) c.name_bit.ensures;
      };
      few = omega arith;
    }

pub has_name-requires : goal.has_name-requires
has_name-requires c = omega (arith, c.loop-next.invariant.stands.seeking.standing, c.requires.0.tree.inside)

pub returns-then-next-eq0 : goal.returns-then-next-eq0
unfolding named
returns-then-next-eq0 c =
    led_nowhere c.requires.0.tree c.loop-next.invariant.stands c.word_at-next.ensures (sym c.has_name.ensures ∙ c.loop-next-test.true) c.if-next-eq0.true

pub overflow_add-d : goal.overflow_add-d
overflow_add-d c =
    let v = c.loop-next.invariant in
    let t = c.requires.0.tree in
    omega (arith, led_later t v.stands c.word_at-next.ensures c.if-next-eq0.false, v.few, t.inside)

pub name_bit-requires-in-loop-next : goal.name_bit-requires-in-loop-next
name_bit-requires-in-loop-next c = (c.requires.1, c.requires.2)

pub link_word-link-requires-in-loop-next : goal.link_word-link-requires-in-loop-next
link_word-link-requires-in-loop-next c =
    let t = c.requires.0.tree in
    omega (arith, led_later t c.loop-next.invariant.stands c.word_at-next.ensures c.if-next-eq0.false, t.inside)

pub loop-next-smaller : goal.loop-next-smaller
loop-next-smaller c = omega (arith, led_later c.requires.0.tree c.loop-next.invariant.stands c.word_at-next.ensures c.if-next-eq0.false)

pub loop-next-preserved : goal.loop-next-preserved
loop-next-preserved c =
    let a = c.args in
    let t = c.requires.0.tree in
    let v = c.loop-next.invariant in
    let on = led_later t v.stands c.word_at-next.ensures c.if-next-eq0.false in
    let s = led_on t v.stands c.word_at-next.ensures (sym c.has_name.ensures ∙ c.loop-next-test.true) c.if-next-eq0.false in
    record {
      stands = record {
        seeking = rw (← shr-shr (key_of (slice a.from a.to a.file.now)) c.loop-next.d 1) s;
        leading = c.link_word-link-in-loop-next.ensures ∙ ap (link_word c.word_at-next.result) c.name_bit-in-loop-next.ensures;
      };
      few = omega (arith, on, v.few);
    }

pub returns : goal.returns
unfolding named
returns c =
    let a = c.args in
    let t = c.requires.0 in
    let k = c.loop-next.invariant.stands.seeking in
    let at = c.loop-next.at in
    let e : same_bytes (name_of a.file.now a.s.now at) (slice a.from a.to a.file.now) ≡ true = sym c.has_name.ensures ∙ c.loop-next-test.false in
    sym (first_at_lem (λ i. same_bytes (name_of a.file.now a.s.now i) (slice a.from a.to a.file.now)) _ 0 a.used at (omega arith) (omega (arith, k.standing)) e
    (λ m h f. t.distinct m at (omega arith) k.standing (rw (same_is _ _ e) f)))
