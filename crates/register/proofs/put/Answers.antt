-- `register::put` meets its contract: the words of the record are put, and the link leads to it.
use Rattle.register.specs.Wide.{wide}
use Rattle.register.proofs.Wide.{has_room_lem, wide_added, wide_full}
use borrow.Author.Tests.{lt-ltb, le-ltb}
use mathlib.Core.Path.{sym, ap, ◌∙◌}
use Rattle.register.proofs.put.Goals as goal

pub returns-then-used-s : goal.returns-then-used-s
returns-then-used-s c =
    let room = c.if-used-s.true in
    let w = c.requires in
    let stores = rw (c.put-then-used-s.ensures, c.put.ensures, c.halves.ensures) at c.relink.ensures in
    (sym (has_room_lem _ _ ∙ lt-ltb _ _ room), ap wide stores ∙ wide_added _ _ _ _ _ _ room w.0 w.1 w.3)

pub returns : goal.returns
returns c = let full = c.if-used-s.false in (sym (has_room_lem _ _ ∙ le-ltb _ _ full), wide_full _ _ _ _ full)
