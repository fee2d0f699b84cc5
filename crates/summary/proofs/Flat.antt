-- Where no block is flashed, the rows of a walk that keeps none of blocks are those of the items.
-- Assumes nothing.
use Prim.Native.Nat.{ℕ, suc, ◌+◌, ◌≤◌, ◌<◌}
use mathlib.Core.Path.{◌≡◌, refl, sym, ap, ◌∙◌}
use mathlib.Core.Bool.{Bool, true, false, cond, true≢false}
use mathlib.Core.List.{List, []}
use native.Mathlib.Omega.{arith}
use lib.Dec.{eqb, leb, lit≤}
use borrow.Author.Tests.{eqb-true}
use Rattle.place.specs.declared.Item.{Item}
use Rattle.sheet.specs.Records.{entry_of, role_of}
use Rattle.sheet.specs.Containers.{body_of, top_of}
use Rattle.sheet.specs.Meaning.{drawn, repeat_of, puts, entry_items, items, sheet_items}
use Rattle.sheet.specs.Valid.{valid}
use Rattle.sheet.specs.declared.Entry.{Entry}
use Rattle.sheet.specs.declared.Container.{Container}
use Rattle.sheet.specs.declared.Role.{Role}
use Rattle.sheet.specs.declared.Role.TheVariants.{Draws, Uses, Repeats, Defines, Unknown}
use Rattle.sheet.proofs.Conditions.{entry_repeat, repeat_kind}
use Rattle.sheet.proofs.Sound.{top_sound, repeat_under}
use Rattle.sheet.specs.Sound.{Sound}
use Rattle.summary_rows.specs.Rows.{copied_row}
use Rattle.summary_rows.specs.Summed.{row_of}
use Rattle.summary_rows.specs.declared.Asked.{Asked}
use Rattle.summary_rows.proofs.Laws.{row_one, row_copies}
use Rattle.summary_by_aperture.specs.Walk.{row_as, entry_row, entry_row_at, run_row, top_entry_row, top_row_at, top_row}
use Rattle.summary_by_aperture.proofs.Walk.{row_as_lem}
use Rattle.summary_by_aperture.proofs.Rows.{repeat_steps, repeat_role, items_as, merges_run}
use Rattle.summary.specs.Adds.{NoFlash, RunFree, TopFree}

use_kind : (k : ℕ) → role_of k ≡ Uses → k ≡ 9
unfolding role_of
use_kind k z = eqb-true k 9 (go (eqb k 0) (leb k 8) (eqb k 9) (eqb k 10) (eqb k 11) z)
  where
    go : (z d u r f : Bool) → cond z Unknown (cond d Draws (cond u Uses (cond r Repeats (cond f Defines Unknown)))) ≡ Uses → u ≡ true
    go true d u r f q = cc
    go false true u r f q = cc
    go false false true r f q = refl
    go false false false true f q = cc
    go false false false false true q = cc
    go false false false false false q = cc

module _ (head e a : List ℕ) (v : valid head e a ≡ true) (q : Asked) where
  -- an entry that neither flashes nor repeats
  entry_flat : (below : Container → List Item) (r : Entry) → NoFlash r → (role_of r.kind ≡ Repeats → ⊥) → entry_row [] q r ≡ row_of q (entry_items a below r)
  unfolding puts row_as row_of
  entry_flat below r clean single = go (role_of r.kind) refl
    where
      go : (role : Role) → role_of r.kind ≡ role → entry_row [] q r ≡ row_of q (entry_items a below r)
      go Draws z = row_as_lem [] q r z ∙ sym (ap (row_of q) (items_as a below r z) ∙ row_one q (drawn r))
      go Uses z = absurd (clean.none (use_kind r.kind z))
      go Repeats z = absurd (single z)
      go Defines z = row_as_lem [] q r z ∙ sym (ap (row_of q) (items_as a below r z))
      go Unknown z = row_as_lem [] q r z ∙ sym (ap (row_of q) (items_as a below r z))

  body_flat : (k : Container) → Sound head e a k → k.height ≤ 9 → RunFree e k → (f : ℕ) → run_row e [] q k ≡ row_of q (items e a (suc f) k)
  unfolding run_row items
  body_flat k s low free f = merges_run q (entry_row_at e [] q) (λ i. entry_items a (items e a f) (entry_of e i)) k.first k.len
      (λ i l. entry_flat (items e a f) (entry_of e (k.first + i)) (free.each i l)
      (λ z. let ten = (entry_repeat a _ _ (entry_of e (k.first + i)) (s.ok.each_ok i l) z).at_top in omega arith))

  body_low : (r : Entry) → (body_of r).height ≤ 9
  unfolding body_of
  body_low r = lit≤ tt

  module _ (free : TopFree e (top_of head)) where
    top_entry_flat : (i : ℕ) → i < (top_of head).len → top_row_at e [] q ((top_of head).first + i) ≡ row_of q (entry_items a (items e a 9) (entry_of e ((top_of head).first + i)))
    unfolding top_entry_row puts
    top_entry_flat i l = go (eqb r.kind 10) refl
      where
        r : Entry
        r = entry_of e ((top_of head).first + i)

        go : (b : Bool) → eqb r.kind 10 ≡ b → cond b (copied_row (repeat_of r) (run_row e [] q (body_of r))) (entry_row [] q r) ≡ row_of q (entry_items a (items e a 9) r)
        go true z =
            let role = repeat_role r.kind z in
            let s = top_sound head e a v in
            let w = repeat_steps (top_of head).height r (entry_repeat a _ _ r (s.ok.each_ok i l) role) in
            ap (copied_row (repeat_of r)) (body_flat (body_of r) (repeat_under head e a v (top_of head) s i l role).sound (body_low r) ((free.each i l).body z) 8)
            ∙ sym (ap (row_of q) (items_as a (items e a 9) r role) ∙ row_copies q (repeat_of r) (items e a 9 (body_of r)) w.nx_low w.ny_low)
        go false z = entry_flat (items e a 9) r (free.each i l).itself (λ role. true≢false (sym (repeat_kind r.kind role) ∙ z))

    pub top_flat : top_row e [] q (top_of head) ≡ row_of q (sheet_items head e a)
    unfolding top_row sheet_items items
    top_flat = merges_run q (top_row_at e [] q) (λ i. entry_items a (items e a 9) (entry_of e i)) (top_of head).first (top_of head).len top_entry_flat
