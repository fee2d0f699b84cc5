-- `address::item_of` meets its contract: in a sheet the search finds the place of the address among the addresses.
use Rattle.std.specs.Prelude.{None, Some}
use Rattle.address.specs.Answers.{reply_as}
use Rattle.address.proofs.Tops.{reply_is, reply_not}
use mathlib.Core.Path.{sym, ◌∙◌}
use borrow.Author.Rules.{rules}
use Rattle.address.proofs.item_of.Goals as goal

pub seek_top-requires : goal.seek_top-requires
seek_top-requires c = (sym c.is_sheet.ensures ∙ c.if-not-is_sheet.false, search rules)

pub returns-in-Some : goal.returns-in-Some
unfolding reply_as
returns-in-Some c =
    reply_is _ _ _ _ (sym c.is_sheet.ensures ∙ c.if-not-is_sheet.false) (search rules) (Some _) (sym c.in-Some.is ∙ c.seek_top.ensures)

pub returns-in-None : goal.returns-in-None
unfolding reply_as
returns-in-None c = reply_is _ _ _ _ (sym c.is_sheet.ensures ∙ c.if-not-is_sheet.false) (search rules) None (sym c.in-None.is ∙ c.seek_top.ensures)

pub returns-then-not-is_sheet : goal.returns-then-not-is_sheet
returns-then-not-is_sheet c = reply_not _ _ _ _ (sym c.is_sheet.ensures ∙ c.if-not-is_sheet.true)
