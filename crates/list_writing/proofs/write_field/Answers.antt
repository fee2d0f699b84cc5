-- `list_writing::write_field` meets its contract: a tab, and the text after it.
-- Assumes nothing.
use Rattle.law_components.proofs.Written.{behind}
use Rattle.list_writing.proofs.write_field.Goals as goal

pub returns : goal.returns
returns c =
    behind c.write-next.ensures c.write.ensures
