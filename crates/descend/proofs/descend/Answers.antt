-- `descend::descend` meets its contract: the entry found holds the item, and its role says how.
use Rattle.descend.proofs.Located.{Located, located, fine, use_is, splits, repeat_is, here_is, not_defines, not_unknown}
use Rattle.descend.proofs.Searched.{searched}
use Rattle.sheet.proofs.Sound.{rooms}
use Rattle.sheet.proofs.Conditions.{entry_use}
use Rattle.sheet.specs.Records.{role_of}
use Rattle.sheet.specs.declared.Role.TheVariants.{Draws}
use mathlib.Core.Logic.{inl, inr}
use native.Mathlib.Omega.{arith}
use mathlib.Core.Path.{◌≡◌, sym, ◌∙◌}
use Rattle.descend.proofs.descend.Goals as goal

pub find-requires : goal.find-requires
find-requires c = searched _ _ _ _ c.requires

pub whole_entry-r-requires : goal.whole_entry-r-requires
whole_entry-r-requires c = let h = c.requires in let q = c.find.ensures in omega (arith, q.high, h.sound.ok.inside, (rooms _ _ _ h.ok).0)

pub overflow_sub-j : goal.overflow_sub-j
overflow_sub-j c =
    let found : let A = c.args in
    Located c.requires.head A.e.now A.a.now A.k A.n c.whole_entry-r.result =
    rw c.whole_entry-r.ensures (located _ _ _ _ _ c.requires c.find.ensures) in
    found.begins

pub block_at-requires : goal.block_at-requires
block_at-requires c =
    let found : let A = c.args in
    Located c.requires.head A.e.now A.a.now A.k A.n c.whole_entry-r.result =
    rw c.whole_entry-r.ensures (located _ _ _ _ _ c.requires c.find.ensures) in
    let h = c.requires in
    let u = entry_use _ _ _ _ (fine _ _ _ h.ok _ h.sound _ _ found) (sym c.role_of.ensures ∙ c.in-Uses.is) in
    omega (arith, c.index.ensures, u.who_in, (rooms _ _ _ h.ok).1)

pub copy_of-requires : goal.copy_of-requires
copy_of-requires c =
    let found : let A = c.args in
    Located c.requires.head A.e.now A.a.now A.k A.n c.whole_entry-r.result =
    rw c.whole_entry-r.ensures (located _ _ _ _ _ c.requires c.find.ensures) in
    let h = c.requires in splits _ _ _ h.ok _ h.sound _ _ found (sym c.role_of.ensures ∙ c.in-Repeats.is)

pub returns-in-Uses : goal.returns-in-Uses
returns-in-Uses c =
    let found : let A = c.args in
    Located c.requires.head A.e.now A.a.now A.k A.n c.whole_entry-r.result =
    rw c.whole_entry-r.ensures (located _ _ _ _ _ c.requires c.find.ensures) in
    let h = c.requires in
    rw (c.pose_of.ensures, c.block_at.ensures, c.index.ensures)
    (use_is _ _ _ h.ok _ h.sound _ _ found (sym c.role_of.ensures ∙ c.in-Uses.is))

pub returns-in-Repeats : goal.returns-in-Repeats
returns-in-Repeats c =
    let found : let A = c.args in
    Located c.requires.head A.e.now A.a.now A.k A.n c.whole_entry-r.result =
    rw c.whole_entry-r.ensures (located _ _ _ _ _ c.requires c.find.ensures) in
    let h = c.requires in
    rw c.copy_of.ensures
    (repeat_is _ _ _ h.ok _ h.sound _ _ found (sym c.role_of.ensures ∙ c.in-Repeats.is))

pub returns-in-Draws : goal.returns-in-Draws
returns-in-Draws c =
    let found : let A = c.args in
    Located c.requires.head A.e.now A.a.now A.k A.n c.whole_entry-r.result =
    rw c.whole_entry-r.ensures (located _ _ _ _ _ c.requires c.find.ensures) in
    let h = c.requires in
    let drawn : role_of c.whole_entry-r.result.kind ≡ Draws =
    elim c.in-Draws.is [
      | inl q ↦ sym c.role_of.ensures ∙ q
      | inr s ↦ elim s [
        | inl q ↦ absurd (not_defines _ _ _ h.ok _ h.sound _ _ found (sym c.role_of.ensures ∙ q))
        | inr q ↦ absurd (not_unknown _ _ _ h.ok _ h.sound _ _ found (sym c.role_of.ensures ∙ q))
      ]
    ] in
    rw c.draw.ensures
    (here_is _ _ _ h.ok _ h.sound _ _ found drawn)
