-- `address::stand_of` meets its contract: the entry found holds the item, and its role says how its chain goes on.
use Rattle.sheet.proofs.Sound.{rooms}
use Rattle.descend.proofs.Searched.{searched}
use Rattle.address.proofs.Stands.{begins, spans_to, draws_is, uses_is, uses_known, repeats_not, defines_not, unknown_not}
use native.Mathlib.Omega.{arith}
use mathlib.Core.Path.{sym, ◌∙◌}
use Rattle.address.proofs.stand_of.Goals as goal

pub find-q-requires : goal.find-q-requires
find-q-requires c = searched _ _ _ _ c.requires.0

pub entry_at-r-requires : goal.entry_at-r-requires
entry_at-r-requires c = let h = c.requires.0 in let q = c.find-q.ensures in omega (arith, q.high, h.sound.ok.inside, (rooms _ _ _ h.ok).0)

pub spans-p-requires : goal.spans-p-requires
spans-p-requires c = spans_to _ _ _ _ _ c.requires.0 c.requires.1 c.find-q.ensures

pub overflow_add-p : goal.overflow_add-p
overflow_add-p c =
    omega (arith, c.spans-p.ensures, (spans_to _ _ _ _ _ c.requires.0 c.requires.1 c.find-q.ensures).fits)

pub block_at-requires : goal.block_at-requires
block_at-requires c =
    rw (c.index.ensures, c.entry_at-r.ensures) (uses_known _ _ _ _ _ c.requires.0 c.requires.1 c.find-q.ensures (sym (rw c.entry_at-r.ensures at c.role_of.ensures) ∙ c.in-Uses.is))

pub overflow_sub-result : goal.overflow_sub-result
overflow_sub-result c =
    rw c.entry_at-r.ensures (begins _ _ _ _ _ c.requires.0 c.requires.1 c.find-q.ensures)

pub returns-in-Uses : goal.returns-in-Uses
returns-in-Uses c =
    rw (c.block_at.ensures, c.index.ensures, c.spans-p.ensures, c.entry_at-r.ensures)
    (uses_is _ _ _ _ _ c.requires.0 c.requires.1 c.find-q.ensures (sym (rw c.entry_at-r.ensures at c.role_of.ensures) ∙ c.in-Uses.is))

pub returns-in-Draws : goal.returns-in-Draws
returns-in-Draws c =
    rw c.spans-p.ensures (draws_is _ _ _ _ _ c.requires.0 c.requires.1 c.find-q.ensures (sym (rw c.entry_at-r.ensures at c.role_of.ensures) ∙ c.in-Draws.is))

pub returns-in-Repeats : goal.returns-in-Repeats
returns-in-Repeats c =
    absurd (repeats_not _ _ _ _ _ c.requires.0 c.requires.1 c.find-q.ensures (sym (rw c.entry_at-r.ensures at c.role_of.ensures) ∙ c.in-Repeats.is))

pub returns-in-Defines : goal.returns-in-Defines
returns-in-Defines c =
    absurd (defines_not _ _ _ _ _ c.requires.0 c.requires.1 c.find-q.ensures (sym (rw c.entry_at-r.ensures at c.role_of.ensures) ∙ c.in-Defines.is))

pub returns-in-Unknown : goal.returns-in-Unknown
returns-in-Unknown c =
    absurd (unknown_not _ _ _ _ _ c.requires.0 c.requires.1 c.find-q.ensures (sym (rw c.entry_at-r.ensures at c.role_of.ensures) ∙ c.in-Unknown.is))
