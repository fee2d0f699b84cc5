-- `expression::close` meets its contract: the token there picks the case of `closed`.
-- Assumes nothing.
use Rattle.expression.proofs.Seen.{lexed_onward}
use Rattle.expression.proofs.Told.{close_says}
use mathlib.Core.Path.{refl}
use Rattle.expression.proofs.close.Goals as goal

pub returns : goal.returns
returns c =
    let a = c.args in
    let s = a.s.now in
    rw (c.both.ensures, c.is_close.ensures, c.token_at-l.ensures)
    (record { says = close_says s a.w _ _ refl refl; further = lexed_onward s a.w.next; small = c.requires })
