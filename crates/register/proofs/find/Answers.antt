use Rattle.std.specs.Prelude.{Err}
use Prim.Native.Nat.{◌/◌, ◌^◌, ◌<◌}
use mathlib.Core.Path.{◌≡◌, sym, ap, ◌∙◌}
use mathlib.Core.Bool.{false, true}
use native.Mathlib.Nat.{div-one}
use native.Mathlib.Omega.{arith}
use lib.ListN.{get_or}
use lib.Pow.{shr-shr}
use lib.Seq.{slice}
use Rattle.base.specs.Bytes.{same_bytes}
use Rattle.base.proofs.Lists.{same_is}
use Rattle.index.specs.First.{first_of}
use Rattle.index.specs.Tree.{is_high, link_word, next, last_link}
use Rattle.index.specs.Names.{name_of, key_of, named}
use Rattle.index.proofs.Seek.{seek_start, seek_on, seek_none, seek_end, first_at_lem}
use Rattle.register.specs.Wide.{wide, search_of, record_of}
use Rattle.register.proofs.Wide.{inside}
use Rattle.register.proofs.find.Goals as goal

pub name_bit-high-requires : goal.name_bit-high-requires
name_bit-high-requires c = (c.requires.1, c.requires.2)

pub returns-then-used-eq0 : goal.returns-then-used-eq0
unfolding named first_of last_link search_of record_of
returns-then-used-eq0 c =
    let A = c.args in
    let k = key_of (slice A.from A.to A.file.now) in
    (rw c.if-used-eq0.true (ap (λ h. Err (link_word 0 h)) (c.name_bit-high.ensures ∙ ap is_high (div-one k))), omega arith)

pub loop-next-init : goal.loop-next-init
loop-next-init c =
    let A = c.args in
    let k = key_of (slice A.from A.to A.file.now) in
    record {
      seeking = rw (div-one k) (seek_start c.requires.0.tree _ _ (omega arith) (λ j e. ap key_of (same_is _ _ e)));
      leading = c.name_bit-high.ensures;
      few = omega arith;
    }

pub has_name-requires : goal.has_name-requires
has_name-requires c = omega (arith, c.loop-next.invariant.seeking.standing, inside _ _ c.requires.0.tree.inside)

pub led-next-requires : goal.led-next-requires
led-next-requires c =
    omega (arith, c.loop-next.invariant.seeking.standing, inside _ _ c.requires.0.tree.inside)

pub returns-then-next-eq0 : goal.returns-then-next-eq0
unfolding named search_of record_of
returns-then-next-eq0 c =
    let onto : let A = c.args in let b = c.loop-next in
    c.led-next.result ≡ next (wide A.s.now) b.at (key_of (slice A.from A.to A.file.now) / 2 ^ b.d) =
    c.led-next.ensures ∙ ap (λ h. get_or (wide c.args.s.now) (link_word c.loop-next.at h) 0) c.loop-next.invariant.leading in
    let other : let A = c.args in
    same_bytes (name_of A.file.now (wide A.s.now) c.loop-next.at) (slice A.from A.to A.file.now) ≡ false =
    sym c.has_name.ensures ∙ c.loop-next-test.true in
    let t = c.requires.0.tree in
    let k = c.loop-next.invariant in
    let z = sym onto ∙ c.if-next-eq0.true in
    (ap Err (ap (link_word c.loop-next.at) k.leading ∙ seek_end t k.seeking other z) ∙ sym (seek_none t k.seeking other _ z), omega (arith, k.seeking.standing))

pub overflow_add-d : goal.overflow_add-d
overflow_add-d c =
    let onto : let A = c.args in let b = c.loop-next in
    c.led-next.result ≡ next (wide A.s.now) b.at (key_of (slice A.from A.to A.file.now) / 2 ^ b.d) =
    c.led-next.ensures ∙ ap (λ h. get_or (wide c.args.s.now) (link_word c.loop-next.at h) 0) c.loop-next.invariant.leading in
    let onward : (c.loop-next.at < c.led-next.result) × (c.led-next.result < c.args.used) =
    let t = c.requires.0.tree in
    let A = c.args in
    let b = c.loop-next in
    let e = onto in
    let z = c.if-next-eq0.false in
    let some : 0 < c.led-next.result = omega arith in
    rw (← e) at (t.later b.at (key_of (slice A.from A.to A.file.now) / 2 ^ b.d) b.invariant.seeking.standing (rw (← e) some)) in
    let w = onward in
    omega (arith, c.loop-next.invariant.few, inside _ _ c.requires.0.tree.inside)

pub name_bit-high-requires-in-loop-next : goal.name_bit-high-requires-in-loop-next
name_bit-high-requires-in-loop-next c =
    (c.requires.1, c.requires.2)

pub loop-next-smaller : goal.loop-next-smaller
loop-next-smaller c =
    let onto : let A = c.args in let b = c.loop-next in
    c.led-next.result ≡ next (wide A.s.now) b.at (key_of (slice A.from A.to A.file.now) / 2 ^ b.d) =
    c.led-next.ensures ∙ ap (λ h. get_or (wide c.args.s.now) (link_word c.loop-next.at h) 0) c.loop-next.invariant.leading in
    let onward : (c.loop-next.at < c.led-next.result) × (c.led-next.result < c.args.used) =
    let t = c.requires.0.tree in
    let A = c.args in
    let b = c.loop-next in
    let e = onto in
    let z = c.if-next-eq0.false in
    let some : 0 < c.led-next.result = omega arith in
    rw (← e) at (t.later b.at (key_of (slice A.from A.to A.file.now) / 2 ^ b.d) b.invariant.seeking.standing (rw (← e) some)) in
    let w = onward in
    omega arith

pub loop-next-preserved : goal.loop-next-preserved
loop-next-preserved c =
    let onto : let A = c.args in let b = c.loop-next in
    c.led-next.result ≡ next (wide A.s.now) b.at (key_of (slice A.from A.to A.file.now) / 2 ^ b.d) =
    c.led-next.ensures ∙ ap (λ h. get_or (wide c.args.s.now) (link_word c.loop-next.at h) 0) c.loop-next.invariant.leading in
    let other : let A = c.args in
    same_bytes (name_of A.file.now (wide A.s.now) c.loop-next.at) (slice A.from A.to A.file.now) ≡ false =
    sym c.has_name.ensures ∙ c.loop-next-test.true in
    let onward : (c.loop-next.at < c.led-next.result) × (c.led-next.result < c.args.used) =
    let t = c.requires.0.tree in
    let A = c.args in
    let b = c.loop-next in
    let e = onto in
    let z = c.if-next-eq0.false in
    let some : 0 < c.led-next.result = omega arith in
    rw (← e) at (t.later b.at (key_of (slice A.from A.to A.file.now) / 2 ^ b.d) b.invariant.seeking.standing (rw (← e) some)) in
    let A = c.args in
    let k = key_of (slice A.from A.to A.file.now) in
    let v = c.loop-next.invariant in
    let w = onward in
    let e = onto in
    let s = seek_on c.requires.0.tree v.seeking other (rw (← e) (let w : 0 < c.led-next.result = omega arith in w)) in
    record {
      seeking = rw (e, ← shr-shr k c.loop-next.d 1) s;
      leading = c.name_bit-high-in-loop-next.ensures;
      few = omega (arith, v.few);
    }

pub returns : goal.returns
unfolding named search_of record_of
returns c =
    let A = c.args in
    let t = c.requires.0 in
    let k = c.loop-next.invariant.seeking in
    let at = c.loop-next.at in
    let n = wide A.s.now in
    let e : same_bytes (name_of A.file.now n at) (slice A.from A.to A.file.now) ≡ true = sym c.has_name.ensures ∙ c.loop-next-test.false in (
      sym (first_at_lem (λ i. same_bytes (name_of A.file.now n i) (slice A.from A.to A.file.now)) _ 0 A.used at (omega arith) (omega (arith, k.standing)) e
          (λ m h f. t.distinct m at (omega arith) k.standing (rw (same_is _ _ e) f))),
      omega (arith, k.standing),
    )
