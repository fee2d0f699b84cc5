-- `list_writing::put_entry` meets its contract: the main's record, and its pins' after it.
-- Assumes nothing.
use Rattle.list_writing.proofs.Putting.{penned}
use Rattle.law_components.proofs.Written.{behind}
use Rattle.list_writing.proofs.put_entry.Goals as goal

pub put_pins-requires : goal.put_pins-requires
put_pins-requires c =
    (c.requires.0, rw c.word_of-first.ensures c.requires.1, penned c.put_main-next.ensures)

pub returns : goal.returns
returns c =
    λ l of ks w. behind c.put_main-next.ensures (c.put_pins.ensures l of ks (rw c.word_of-first.ensures w))
