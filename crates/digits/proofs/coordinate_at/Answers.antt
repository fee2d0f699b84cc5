-- `digits::coordinate_at` meets its contract: each way out is one law of the definition.
-- Assumes nothing.
use Rattle.std.proofs.Common.{◌^◌, ◌<◌, eqb, ap, ◌∙◌, arith}
use Rattle.ints.specs.Ints.{signed}
use Rattle.ints.proofs.Bounded.{back}
use Rattle.digits.proofs.Sign.{past_sign_to}
use Rattle.digits.proofs.Coordinates.{read_none, read_long, read_small, read_value}
use Rattle.digits.proofs.coordinate_at.Goals as goal

pub overflow_add-from : goal.overflow_add-from
overflow_add-from c =
    let h = rw (← c.past_sign-from.ensures) at (past_sign_to c.args.s.now c.args.at c.requires.0) in
    omega (arith, h)

pub digits_in-digits-requires : goal.digits_in-digits-requires
digits_in-digits-requires c =
    let h = rw (← c.past_sign-from.ensures) at (past_sign_to c.args.s.now c.args.at c.requires.0) in
    (omega arith, omega arith, omega arith)

pub returns-then-next-from : goal.returns-then-next-from
returns-then-next-from c =
    read_none _ _ _ _ _ _ _ c.requires.0 c.requires.1 c.past_sign-from.ensures c.min.ensures c.digits_in-digits.ensures c.past_digits-next.ensures c.if-next-from.true

pub returns-then-digits-next : goal.returns-then-digits-next
returns-then-digits-next c =
    read_long _ _ _ _ _ _ _ c.requires.0 c.requires.1 c.past_sign-from.ensures c.min.ensures c.digits_in-digits.ensures c.past_digits-next.ensures c.if-digits-next.true

pub with_sign-requires : goal.with_sign-requires
with_sign-requires c =
    let small : c.digits_in-digits.result.value < 10 ^ 12 =
    read_small _ _ _ _ _ _ _ c.requires.0 c.requires.1 c.past_sign-from.ensures c.min.ensures c.digits_in-digits.ensures c.past_digits-next.ensures c.if-digits-next.false in
    omega (arith, small)

pub returns : goal.returns
returns c =
    let small : c.digits_in-digits.result.value < 10 ^ 12 =
    read_small _ _ _ _ _ _ _ c.requires.0 c.requires.1 c.past_sign-from.ensures c.min.ensures c.digits_in-digits.ensures c.past_digits-next.ensures c.if-digits-next.false in
    let h = small in
    read_value _ _ _ _ _ _ _ c.requires.0 c.requires.1 c.past_sign-from.ensures c.min.ensures c.digits_in-digits.ensures c.past_digits-next.ensures c.if-digits-next.false _ c.if-next-from.false
    (back _ (omega arith) ∙ c.with_sign.ensures.0 ∙ ap (λ b. signed (eqb b 45) c.digits_in-digits.result.value) c.byte_at-minus.ensures)
