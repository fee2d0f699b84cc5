-- `inspect::is_sheet` meets its contract: where the head is in order the rooms hold what it says is used.
use Rattle.sheet.proofs.Sound.{head_rooms}
use Rattle.sheet.specs.Valid.{valid}
use Rattle.base.proofs.And.{ands}
use Rattle.std.proofs.Common.{sym, ◌∙◌}
use Rattle.inspect.proofs.is_sheet.Goals as goal

pub containers_ok-requires : goal.containers_ok-requires
containers_ok-requires c =
    let r = head_rooms _ _ _ (sym c.head_ok.ensures ∙ c.if-not-head_ok.false) in
    (rw c.index-used.ensures r.0, rw c.index-n.ensures r.1)

pub returns-then-not-head_ok : goal.returns-then-not-head_ok
unfolding valid
returns-then-not-head_ok c = let h = sym c.head_ok.ensures ∙ c.if-not-head_ok.true in simp (h, ands)

pub returns : goal.returns
unfolding valid
returns c =
    let h = sym c.head_ok.ensures ∙ c.if-not-head_ok.false in
    simp (h, ands) cc
