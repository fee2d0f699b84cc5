use Rattle.std.proofs.Common.{◌≡◌, ◌+◌, ◌-◌, ◌^◌, ◌<◌, not, length, sym, refl, ap, ◌∙◌, arith, le-ltb, lt-ltb}
use Rattle.text.proofs.First.{first_from_lem}
use lib.Seq.{slice_empty}
use Rattle.digits.specs.Digits.{is_digit, value_of}
use Rattle.digits.proofs.Strings.{bound_on, bound_at}
use Rattle.digits.proofs.Past.{past_digit, past_other, value_next, digits_are}
use Rattle.digits.proofs.digits_in.Goals as goal

pub loop-next-init : goal.loop-next-init
unfolding value_of
loop-next-init c =
    let n : c.args.from - c.args.from ≡ 0 = omega arith in
    record { small = rw n (omega arith); passed = refl; worth = sym (ap value_of (slice_empty c.args.from c.args.s.now)) }

pub returns-then-d-ge10 : goal.returns-then-d-ge10
returns-then-d-ge10 c =
    let l = c.loop-next in
    let inside : l.next < length c.args.s.now = omega arith in
    let e = sym l.invariant.passed ∙ past_other _ _ inside (c.digit-d.ensures.digit ∙ le-ltb _ 10 c.if-d-ge10.true) in
    digits_are _ _ _ _ (omega (arith, e)) l.invariant.worth

pub overflow_mul-value : goal.overflow_mul-value
overflow_mul-value c =
    let l = c.loop-next in
    let so_far : l.value < 10 ^ 11 = bound_at _ (l.next - c.args.from) 11 l.invariant.small (omega arith) in
    omega (arith, so_far)

pub overflow_add-value : goal.overflow_add-value
overflow_add-value c =
    let l = c.loop-next in
    let so_far : l.value < 10 ^ 11 = bound_at _ (l.next - c.args.from) 11 l.invariant.small (omega arith) in
    omega (arith, so_far)

pub loop-next-preserved : goal.loop-next-preserved
loop-next-preserved c =
    let l = c.loop-next in
    let inside : l.next < length c.args.s.now = omega arith in
    let n : l.next + 1 - c.args.from ≡ l.next - c.args.from + 1 = omega arith in
    let w = c.digit-d.ensures.worth c.if-d-ge10.false in
    record {
      small = rw n (bound_on l.value _ _ l.invariant.small (omega arith));
      passed = sym (past_digit _ _ inside (c.digit-d.ensures.digit ∙ lt-ltb _ 10 c.if-d-ge10.false)) ∙ l.invariant.passed;
      worth = cc (value_next c.args.s.now c.args.from l.next (omega arith) inside);
    }

pub returns : goal.returns
returns c =
    let l = c.loop-next in
    let n : l.next ≡ c.args.to = omega arith in
    digits_are _ _ _ _ (omega (arith, l.invariant.passed, first_from_lem (λ b. not (is_digit b)) c.args.s.now l.next)) (rw n at l.invariant.worth)
