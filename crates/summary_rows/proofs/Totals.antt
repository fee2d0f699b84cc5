-- The counts add up to the total, where each item that is of no region has the aperture of one record and of no other.
-- Assumes nothing.
use Prim.Native.Nat.{ℕ, zero, suc, ◌+◌}
use mathlib.Core.Path.{◌≡◌, refl, ◌∙◌}
use mathlib.Core.Bool.{Bool, true, false, cond}
use mathlib.Core.List.{List, [], ◌∷◌}
use native.Mathlib.Omega.{arith}
use lib.Dec.{eqb}
use lib.ListN.{length}
use Rattle.base.specs.Run.{sums}
use Rattle.base.proofs.And.{true_and, false_and}
use Rattle.base.proofs.Run.{sums_cong, sums_const}
use Rattle.place.specs.declared.Item.{Item}
use Rattle.place.specs.Item.{is_oriented}
use Rattle.summary_rows.specs.Rows.{row, no_row, merged}
use Rattle.summary_rows.specs.Summed.{asks, points_of, extent_of, item_row, row_of}
use Rattle.summary_rows.specs.declared.Asked.{Asked}
use Rattle.summary_rows.specs.declared.Asked.TheVariants.{Aperture, Regions}

sums_add : (F G : ℕ → ℕ) (p n : ℕ) → sums (λ b. F b + G b) p n ≡ sums F p n + sums G p n
unfolding sums
sums_add F G p zero = refl
sums_add F G p (suc n) = let ih = sums_add F G (suc p) n in omega arith

-- one item counts one where it is asked for, and nothing elsewhere
item_count : (q : Asked) (t : Item) → (item_row q t).count ≡ cond (asks q t) 1 0
unfolding item_row no_row
item_count q t = go (asks q t)
  where
    go : (b : Bool) → (cond b (row 1 (extent_of (points_of t))) no_row).count ≡ cond b 1 0
    go true = refl
    go false = refl

-- records p to p + n have the numbers N p, N (p + 1), ..: how many of them have the number k
abbrev pub records : (ℕ → ℕ) → ℕ → ℕ → ℕ → ℕ
records N p n k = sums (λ b. cond (eqb k (N b)) 1 0) p n

-- each item that is of no region has the number of just one record
pub data Named (N : ℕ → ℕ) (p n : ℕ) : List Item → Type 0 where
  none : Named N p n []
  more : {t : Item} {ts : List Item} → (is_oriented t.kind ≡ true → records N p n t.aperture ≡ 1) → Named N p n ts → Named N p n (t ∷ ts)

module _ (N : ℕ → ℕ) (p n : ℕ) where
  item_counts : (t : Item) → (is_oriented t.kind ≡ true → records N p n t.aperture ≡ 1) →
      sums (λ b. (item_row (Aperture (N b)) t).count) p n + (item_row Regions t).count ≡ 1
  unfolding asks
  item_counts t h = go (is_oriented t.kind) refl
    where
      go : (b : Bool) → is_oriented t.kind ≡ b → sums (λ b. (item_row (Aperture (N b)) t).count) p n + (item_row Regions t).count ≡ 1
      go true e =
          let one = h e in
          let each = sums_cong (λ b. (item_row (Aperture (N b)) t).count) (λ b. cond (eqb t.aperture (N b)) 1 0) p n
          (λ i l. item_count (Aperture (N (p + i))) t ∙ rw (e, true_and (eqb t.aperture (N (p + i))))) in
          let rest : (item_row Regions t).count ≡ 0 = item_count Regions t ∙ rw e in
          omega arith
      go false e =
          let each = sums_cong (λ b. (item_row (Aperture (N b)) t).count) (λ b. 0) p n
          (λ i l. item_count (Aperture (N (p + i))) t ∙ rw (e, false_and (eqb t.aperture (N (p + i))))) in
          let zeros = sums_const 0 p n in
          let rest : (item_row Regions t).count ≡ 1 = item_count Regions t ∙ rw e in
          omega arith

  pub counts_add_up : {ts : List Item} → Named N p n ts → sums (λ b. (row_of (Aperture (N b)) ts).count) p n + (row_of Regions ts).count ≡ length ts
  unfolding row_of merged no_row
  counts_add_up none = let z = sums_const 0 p n in omega arith
  counts_add_up (more {t} {ts} h w) =
      let ih = counts_add_up w in
      let one = item_counts t h in
      let add = sums_add (λ b. (item_row (Aperture (N b)) t).count) (λ b. (row_of (Aperture (N b)) ts).count) p n in
      omega arith
