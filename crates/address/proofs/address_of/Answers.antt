-- `address::address_of` meets its contract: in a valid store the descent from the top level writes the address.
use Rattle.address.proofs.AddressedAnswers.{answer_is, answer_past, answer_not}
use mathlib.Core.Path.{refl, sym, ◌∙◌}
use Rattle.address.proofs.address_of.Goals as goal

pub returns-then-not-is_sheet : goal.returns-then-not-is_sheet
returns-then-not-is_sheet c = answer_not _ _ _ _ (sym c.is_sheet.ensures ∙ c.if-not-is_sheet.true)

pub returns-then-k-top_of : goal.returns-then-k-top_of
returns-then-k-top_of c = answer_past _ _ _ _ (sym c.is_sheet.ensures ∙ c.if-not-is_sheet.false) (rw c.top_of.ensures at c.if-k-top_of.true)

pub write_top-requires : goal.write_top-requires
write_top-requires c = (record { ok = (sym c.is_sheet.ensures ∙ c.if-not-is_sheet.false); inside = rw c.top_of.ensures at c.if-k-top_of.false }, refl)

pub returns : goal.returns
returns c =
    answer_is _ _ _ _ (sym c.is_sheet.ensures ∙ c.if-not-is_sheet.false) (rw c.top_of.ensures at c.if-k-top_of.false) _ c.write_top.ensures
