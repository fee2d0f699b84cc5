-- `digits::natural` meets its contract: without its leading zeros a number is told by how many digits are left.
use Rattle.std.proofs.Common.{◌≡◌, true, sym, ap, ◌∙◌, arith}
use Rattle.digits.specs.Digits.{is_number}
use Rattle.digits.specs.Natural.{natural_of}
use Rattle.digits.proofs.Ways.{natural_other, natural_digits, natural_large, natural_value}
use Rattle.digits.proofs.natural.Goals as goal

pub returns-then-not-is_number : goal.returns-then-not-is_number
returns-then-not-is_number c = natural_other _ (sym c.is_number.ensures ∙ c.if-not-is_number.true) ∙ ap natural_of c.part-text.ensures

pub returns-then-digits-gt12 : goal.returns-then-digits-gt12
returns-then-digits-gt12 c =
    let number : is_number c.part-text.result.now ≡ true =
    sym c.is_number.ensures ∙ c.if-not-is_number.false in
    natural_large _ _ c.without_leading_zeros-digits.ensures number (omega arith) ∙ ap natural_of c.part-text.ensures

pub value-requires : goal.value-requires
value-requires c =
    let number : is_number c.part-text.result.now ≡ true =
    sym c.is_number.ensures ∙ c.if-not-is_number.false in
    (natural_digits _ _ c.without_leading_zeros-digits.ensures number, omega arith)

pub returns : goal.returns
returns c =
    let number : is_number c.part-text.result.now ≡ true =
    sym c.is_number.ensures ∙ c.if-not-is_number.false in
    natural_value _ _ c.without_leading_zeros-digits.ensures number _ (omega arith) c.value.ensures ∙ ap natural_of c.part-text.ensures
