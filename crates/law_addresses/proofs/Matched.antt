-- An address stands once among the addresses, at the item that it names: the k below the total and the addresses match one to one.
-- Assumes nothing.
use Rattle.std.specs.Prelude.{None, Option, Some, ℕ}
use Prim.Native.Nat.{ℕ, zero, suc, ◌<◌}
use mathlib.Core.Path.{◌≡◌, refl, sym, ap, subst, ◌∙◌}
use mathlib.Core.Bool.{Bool, true, false, cond}
use mathlib.Core.List.{List, [], ◌∷◌}
use native.Mathlib.Nat.{not-suc-le-zero, le_of_suc-le-suc}
use native.Mathlib.Omega.{arith}
use lib.ListN.{length, get_or}
use borrow.Author.Tests.{eqb-true, eq-eqb}
use Rattle.base.proofs.And.{and_l, and_r, and_i}
use Rattle.sheet.specs.Containers.{top_of}
use Rattle.sheet.specs.Meaning.{sheet_items}
use Rattle.sheet.specs.Valid.{valid}
use Rattle.sheet.proofs.Expand.{length_sheet}
use Rattle.law_addresses.specs.Addresses.{sheet_addresses, same_words, later, place_of}
use Rattle.law_addresses.specs.Sought.{sought_top}
use Rattle.law_addresses.proofs.Length.{length_addresses}
use Rattle.law_addresses.proofs.Lies.{at_same}
use Rattle.law_addresses.proofs.Top.{top_back, top_forth}

same_true : (x y : List ℕ) → same_words x y ≡ true → x ≡ y
unfolding same_words
same_true [] [] t = refl
same_true [] (y ∷ ys) t = let z : ◌≡◌ {A = ℕ} 0 1 = cc in absurd (omega arith)
same_true (x ∷ xs) [] t = let z : ◌≡◌ {A = ℕ} 0 1 = cc in absurd (omega arith)
same_true (x ∷ xs) (y ∷ ys) t = λ i. eqb-true x y (and_l _ _ t) i ∷ same_true xs ys (and_r _ _ t) i

same_refl : (x : List ℕ) → same_words x x ≡ true
unfolding same_words
same_refl [] = refl
same_refl (x ∷ xs) = and_i _ _ (eq-eqb x x refl) (same_refl xs)

-- what the place of an address says
abbrev Placed : List ℕ → List (List ℕ) → Option ℕ → Type 0
Placed w l (Some n) = (n < length l) × (get_or l n [] ≡ w)
Placed w l None = (n : ℕ) → n < length l → get_or l n [] ≡ w → ⊥

placed_later : (w v : List ℕ) (l : List (List ℕ)) → (same_words w v ≡ false) → (x : Option ℕ) → Placed w l x → Placed w (v ∷ l) (later x)
unfolding later
placed_later w v l f (Some n) p = let m = p.0 in (omega arith, p.1)
placed_later w v l f None p = none
  where
    none : (n : ℕ) → n < length (v ∷ l) → get_or (v ∷ l) n [] ≡ w → ⊥
    none zero m q = let s = same_refl w in let t : same_words w v ≡ true = ap (same_words w) q ∙ s in let z : ◌≡◌ {A = ℕ} 0 1 = cc in omega arith
    none (suc n) m q = p n (le_of_suc-le-suc m) q

place_step : (w v : List ℕ) (l : List (List ℕ)) → Placed w l (place_of w l) → (t : Bool) → same_words w v ≡ t → Placed w (v ∷ l) (cond t (Some 0) (later (place_of w l)))
place_step w v l p true e = (omega arith, sym (same_true w v e))
place_step w v l p false e = placed_later w v l e (place_of w l) p

place_told : (w : List ℕ) (l : List (List ℕ)) → Placed w l (place_of w l)
unfolding place_of
place_told w [] = λ n m q. not-suc-le-zero m
place_told w (v ∷ l) = place_step w v l (place_told w l) (same_words w v) refl

module _ (head e a : List ℕ) (v : valid head e a ≡ true) where
  -- as many addresses as items
  pub as_many : length (sheet_addresses head e a) ≡ length (sheet_items head e a)
  as_many = length_addresses head e a v ∙ sym (length_sheet head e a v)

  -- no two items have one address
  pub address_once : (m n : ℕ) → m < length (sheet_items head e a) → n < length (sheet_items head e a) →
      get_or (sheet_addresses head e a) m [] ≡ get_or (sheet_addresses head e a) n [] → m ≡ n
  address_once m n l k q =
      let long = length_sheet head e a v in
      at_same (sym (top_back head e a v m (omega arith)) ∙ ap (sought_top e a (top_of head)) q ∙ top_back head e a v n (omega arith))

  by_place : (w : List ℕ) → length w ≡ 10 → (x : Option ℕ) → Placed w (sheet_addresses head e a) x → x ≡ sought_top e a (top_of head) w
  by_place w ten (Some n) p =
      let long = length_addresses head e a v in
      let l = p.0 in
      sym (top_back head e a v n (omega arith)) ∙ ap (sought_top e a (top_of head)) p.1
  by_place w ten None p = go (sought_top e a (top_of head) w) refl
    where
      go : (x : Option ℕ) → sought_top e a (top_of head) w ≡ x → None ≡ sought_top e a (top_of head) w
      go (Some n) q =
          let f = top_forth head e a v w n ten q in
          let long = length_addresses head e a v in
          let l = f.0 in
          absurd (p n (omega arith) f.1)
      go None q = sym q

  -- the search by descent finds the place of an address among the addresses
  pub place_is_sought : (w : List ℕ) → length w ≡ 10 → place_of w (sheet_addresses head e a) ≡ sought_top e a (top_of head) w
  place_is_sought w ten = by_place w ten (place_of w (sheet_addresses head e a)) (place_told w (sheet_addresses head e a))

  -- the two calls undo each other: the place of the address of item n is n, and the address at the place of one is that address
  pub place_of_address : (n : ℕ) → n < length (sheet_items head e a) →
      place_of (get_or (sheet_addresses head e a) n []) (sheet_addresses head e a) ≡ Some n
  place_of_address n l = go (place_of (get_or (sheet_addresses head e a) n []) (sheet_addresses head e a)) (place_told _ _)
    where
      go : (x : Option ℕ) → Placed (get_or (sheet_addresses head e a) n []) (sheet_addresses head e a) x → x ≡ Some n
      go (Some m) p = let all = as_many in let k = p.0 in ap Some (address_once m n (omega arith) l p.1)
      go None p = let all = as_many in absurd (p n (omega arith) refl)

  pub address_at_place : (w : List ℕ) (n : ℕ) → place_of w (sheet_addresses head e a) ≡ Some n →
      (n < length (sheet_items head e a)) × (get_or (sheet_addresses head e a) n [] ≡ w)
  address_at_place w n q =
      let p = subst (Placed w (sheet_addresses head e a)) q (place_told w (sheet_addresses head e a)) in
      let all = as_many in
      let k = p.0 in
      (omega arith, p.1)
