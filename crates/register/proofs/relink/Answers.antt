-- `register::relink` meets its contract: one half is new, the other as it was.
use Rattle.register.specs.Wide.{relinked}
use Rattle.register.proofs.relink.Goals as goal

pub returns-then-high : goal.returns-then-high
unfolding relinked
returns-then-high c =
    rw c.if-high.true (rw (c.halves.ensures, c.upper.ensures, c.word_at-links.ensures) at c.put.ensures)

pub returns : goal.returns
unfolding relinked
returns c =
    rw c.if-high.false (rw (c.halves-2.ensures, c.lower.ensures, c.word_at-links.ensures) at c.put-2.ensures)
