-- A list whose slots are set one after the other, from slot 0 on.
--     upto f i ys      the first i slots of ys are f 0, f 1, …
--     tab f n          the list f 0, …, f (n - 1)
-- Only `filled_is` speaks of items. Assumes nothing.
use Prim.Native.Nat.{ℕ, zero, suc, ◌+◌, ◌-◌, ◌≤◌}
use native.Mathlib.Omega.{arith}
use native.Mathlib.Nat.{add-zero, add-suc, suc-add}
use mathlib.Core.Path.{◌≡◌, refl, sym, ◌∙◌, ap}
use mathlib.Core.List.{List, [], ◌∷◌, ◌++◌}
use lib.ListN.{length, set, length-set, take, drop, replicate, length-replicate, replicate-append-replicate}
use lib.Seq.{drop_at}
use Rattle.std.proofs.lemmas.List.{length-take-le}
use Rattle.base.specs.Run.{run}
use Rattle.place.specs.declared.Item.{Item}
use Rattle.place.specs.Item.{zero_item}
use Rattle.lists.specs.Lists.{slot_of, held, listed, filled}

pub one_more : (i : ℕ) → i + 1 ≡ suc i
one_more i = add-suc i zero ∙ ap suc (add-zero i)

module _ {X : Type 0} where
  abbrev pub upto : (ℕ → X) → ℕ → List X → List X
  upto f zero ys = ys
  upto f (suc i) ys = set (upto f i ys) i (f i)

  abbrev pub tab : (ℕ → X) → ℕ → List X
  tab f zero = []
  tab f (suc n) = f zero ∷ tab (λ (i : ℕ). f (suc i)) n

  pub length_upto : (f : ℕ → X) (i : ℕ) (ys : List X) → length (upto f i ys) ≡ length ys
  length_upto f zero ys = refl
  length_upto f (suc i) ys = length-set (upto f i ys) i (f i) ∙ length_upto f i ys

  shifts : (f : ℕ → X) (i : ℕ) (y : X) (ys : List X) → upto f (suc i) (y ∷ ys) ≡ f zero ∷ upto (λ (j : ℕ). f (suc j)) i ys
  shifts f zero y ys = refl
  shifts f (suc i) y ys = ap (λ (l : List X). set l (suc i) (f (suc i))) (shifts f i y ys)

  pub all_set : (f : ℕ → X) (ys : List X) → upto f (length ys) ys ≡ tab f (length ys)
  all_set f [] = refl
  all_set f (y ∷ ys) = shifts f (length ys) y ys ∙ ap (λ (l : List X). f zero ∷ l) (all_set (λ (i : ℕ). f (suc i)) ys)

  -- one more slot is set
  pub set_next : (f : ℕ → X) (i : ℕ) (ys : List X) (r : X) → r ≡ f i → set (upto f i ys) i r ≡ upto f (i + 1) ys
  set_next f i ys r e = ap (λ (x : X). set (upto f i ys) i x) e ∙ ap (λ (j : ℕ). upto f j ys) (sym (one_more i))

  pub tab_same : (f g : ℕ → X) → ((i : ℕ) → f i ≡ g i) → (n : ℕ) → tab f n ≡ tab g n
  tab_same f g e zero = refl
  tab_same f g e (suc n) = λ j. e zero j ∷ tab_same (λ (i : ℕ). f (suc i)) (λ (i : ℕ). g (suc i)) (λ i. e (suc i)) n j

listed_is : (ts : List Item) (k n : ℕ) → tab (λ (i : ℕ). slot_of ts (k + i)) n ≡ listed ts k n
unfolding listed run
listed_is ts k zero = refl
listed_is ts k (suc n) =
    (λ j. slot_of ts (add-zero k j) ∷ tab_same (λ (i : ℕ). slot_of ts (k + suc i)) (λ (i : ℕ). slot_of ts (suc k + i)) (λ i. ap (slot_of ts) (add-suc k i ∙ sym (suc-add k i))) n j)
    ∙ ap (λ (l : List Item). slot_of ts k ∷ l) (listed_is ts (suc k) n)

-- a list whose slot i is item k + i
pub filled_is : (head e a : List ℕ) (k n : ℕ) → tab (λ (i : ℕ). slot_of (held head e a) (k + i)) n ≡ filled head e a k n
unfolding filled
filled_is head e a k n = listed_is (held head e a) k n

pub rest_zeros : (m : ℕ) → m ≤ 8 → drop m (replicate 8 zero_item) ≡ replicate (8 - m) zero_item
rest_zeros m l =
    let q : 8 ≡ m + (8 - m) = omega arith in
    ap (λ (j : ℕ). drop m (replicate j zero_item)) q ∙ ap (drop m) (sym (replicate-append-replicate m (8 - m) zero_item)) ∙ drop_at (replicate m zero_item) (replicate (8 - m) zero_item) m (length-replicate m zero_item)

-- the first m slots of an array of zero items are filled, and the others are not
pub front_filled : (head e a : List ℕ) (k m : ℕ) (zs ys : List Item) → m ≤ 8 → zs ≡ replicate 8 zero_item → ys ≡ filled head e a k (length (take m zs)) →
    ys ++ drop m zs ≡ filled head e a k m ++ replicate (8 - m) zero_item
front_filled head e a k m zs ys le z q =
    let eight : length zs ≡ 8 = ap length z ∙ length-replicate 8 zero_item in
    let long : length (take m zs) ≡ m = length-take-le m zs (omega arith) in
    ap (λ (l : List Item). l ++ drop m zs) (q ∙ ap (filled head e a k) long)
    ∙ ap (λ (l : List Item). filled head e a k m ++ l) (ap (drop m) z ∙ rest_zeros m le)
