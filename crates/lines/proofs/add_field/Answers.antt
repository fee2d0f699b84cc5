-- `lines::add_field` meets its contract: a tab, and one of four forms after it.
use borrow.Author.Rules.{rules}
use Rattle.lines.proofs.Laws.{behind, is_also, kind_field, dark_field, clear_field, number_field}
use Rattle.lines.proofs.add_field.Goals as goal

pub returns-in-0 : goal.returns-in-0
returns-in-0 c = is_also (kind_field c.args.i c.args.w c.in-0.is) (behind c.add-from.ensures c.add_kind.ensures)

pub returns-in-2 : goal.returns-in-2
returns-in-2 c = is_also (dark_field c.args.i c.args.w c.in-2.is c.if-w-eq0.true) (behind c.add-from.ensures c.add.ensures)

pub returns-in-2-2 : goal.returns-in-2-2
returns-in-2-2 c = is_also (clear_field c.args.i c.args.w c.in-2.is c.if-w-eq0.false) (behind c.add-from.ensures c.add-in-2-2.ensures)

pub returns-in_default : goal.returns-in_default
returns-in_default c = is_also (number_field c.args.i c.args.w (search rules) (search rules)) (behind c.add-from.ensures c.add_signed.ensures)
