-- Rows merged one after the other, and an entry's row by its role.
-- Assumes nothing.
use Prim.Native.Nat.{ℕ, zero, suc, ◌+◌, ◌*◌}
use mathlib.Core.Path.{◌≡◌, refl, sym, ap, ◌∙◌}
use mathlib.Core.Bool.{Bool, true, false, cond, not}
use mathlib.Core.List.{List}
use native.Mathlib.Nat.{add-zero}
use native.Mathlib.Numerals.{add-one}
use native.Mathlib.Omega.{arith}
use lib.Dec.{eqb, leb}
use lib.ListN.{get_or}
use lib.Seq.{get_or-drop}
use borrow.Author.Tests.{not-true, leb-true, leb-false, ne_eqb}
use Rattle.base.specs.And.{◌and◌}
use Rattle.base.proofs.And.{and_l, and_r}
use Rattle.place.specs.Item.{is_oriented}
use Rattle.sheet.specs.Records.{entry_of, entry_in, role_of}
use Rattle.sheet.specs.Meaning.{drawn}
use Rattle.sheet.specs.declared.Entry.{Entry}
use Rattle.sheet.specs.declared.Role.{Role}
use Rattle.sheet.specs.declared.Role.TheVariants.{Draws, Unknown}
use Rattle.summary_rows.specs.Rows.{no_row, merged}
use Rattle.summary_rows.specs.declared.Row.{Row}
use Rattle.summary_rows.specs.declared.Asked.{Asked}
use Rattle.summary_rows.specs.declared.Asked.TheVariants.{Aperture, Regions}
use Rattle.summary_rows.specs.Summed.{asks, item_row}
use Rattle.summary_rows.proofs.Rows.{none_merged, merged_none, merged_assoc}
use Rattle.summary_by_aperture.specs.Walk.{merges, row_as, entry_row, is_idle, top_entry_row}

-- one row more
pub merges_snoc : (F : ℕ → Row) (p n : ℕ) → merges F p (suc n) ≡ merged (merges F p n) (F (p + n))
unfolding merges
merges_snoc F p zero = rw (add-zero p) (merged_none (F p) ∙ sym (none_merged (F p)))
merges_snoc F p (suc n) =
    let e : p + suc n ≡ suc p + n = omega arith in
    rw e (ap (merged (F p)) (merges_snoc F (suc p) n) ∙ sym (merged_assoc (F p) (merges F (suc p) n) (F (suc p + n))))

module _ (F : ℕ → Row) (p : ℕ) where
  pub merges_none : merges F p 0 ≡ no_row
  unfolding merges
  merges_none = refl

  pub merges_more : (n : ℕ) → merged (merges F p n) (F (p + n)) ≡ merges F p (n + 1)
  merges_more n = rw (add-one n) (sym (merges_snoc F p n))

-- the entry's row, by its role
pub row_as_lem : (s : List ℕ) (q : Asked) (r : Entry) {role : Role} → role_of r.kind ≡ role → entry_row s q r ≡ row_as role s q r
unfolding entry_row
row_as_lem s q r e = ap (λ role. row_as role s q r) e

-- ---- entries whose items are not asked for

low_role : (k : ℕ) → leb k 8 ≡ true → role_of k ≡ cond (eqb k 0) Unknown Draws
unfolding role_of
low_role k z = rw z

module _ (s : List ℕ) (q : Asked) (r : Entry) (z : is_idle q r ≡ true) where
  pub idle_none : entry_row s q r ≡ no_row
  unfolding row_as item_row is_idle
  idle_none = go (eqb r.kind 0) refl
    where
      low : leb r.kind 8 ≡ true
      low = and_l _ _ z

      unasked : asks q (drawn r) ≡ false
      unasked = not-true _ (and_r _ _ z)

      go : (t : Bool) → eqb r.kind 0 ≡ t → entry_row s q r ≡ no_row
      go true e = row_as_lem s q r (low_role r.kind low ∙ ap (λ t. cond t Unknown Draws) e)
      go false e = row_as_lem s q r (low_role r.kind low ∙ ap (λ t. cond t Unknown Draws) e) ∙ rw unasked

  pub idle_top : (e : List ℕ) → top_entry_row e s q r ≡ no_row
  unfolding top_entry_row is_idle
  idle_top e =
      let low = leb-true r.kind 8 (and_l _ _ z) in
      let other : eqb r.kind 10 ≡ false = ne_eqb _ _ (λ (x : r.kind ≡ 10). omega arith) in
      rw other idle_none

-- an edge is one of the kinds to 8
low_twice : (k : ℕ) → leb k 8 and not (not (leb k 4)) ≡ leb k 4
unfolding ◌and◌
low_twice k = go (leb k 4) (leb k 8) refl refl
  where
    go : (t u : Bool) → leb k 4 ≡ t → leb k 8 ≡ u → u and not (not t) ≡ t
    go true true a b = refl
    go true false a b = let x = leb-true k 4 a in let y = leb-false k 8 b in absurd (omega arith)
    go false true a b = refl
    go false false a b = refl

module _ (e : List ℕ) (i : ℕ) where
  kind_at : (entry_of e i).kind ≡ get_or e (i * 15) 0
  unfolding entry_of entry_in
  kind_at = ap (λ k. k) (get_or-drop (i * 15) e 0 0) ∙ ap (λ k. get_or e k 0) (add-zero (i * 15))

  who_at : (entry_of e i).who ≡ get_or e (i * 15 + 2) 0
  unfolding entry_of entry_in
  who_at = get_or-drop (i * 15) e 2 0

  pub idle_aperture : (n : ℕ) → is_idle (Aperture n) (entry_of e i) ≡ (leb (get_or e (i * 15) 0) 8 and not (leb (get_or e (i * 15) 0) 4 and eqb (get_or e (i * 15 + 2) 0) n))
  unfolding is_idle asks drawn is_oriented
  idle_aperture n = rw (kind_at, who_at)

  pub idle_regions : is_idle Regions (entry_of e i) ≡ leb (get_or e (i * 15) 0) 4
  unfolding is_idle asks drawn is_oriented
  idle_regions = rw kind_at (low_twice (get_or e (i * 15) 0))

-- a row that is none changes nothing
pub merges_idle : (F : ℕ → Row) (p n : ℕ) → F (p + n) ≡ no_row → merges F p n ≡ merges F p (n + 1)
merges_idle F p n z = sym (merged_none (merges F p n)) ∙ ap (merged (merges F p n)) (sym z) ∙ merges_more F p n
