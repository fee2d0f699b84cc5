-- Small laws: which piece a number falls into, words that are all 0, words apart, and what a name says.
-- Assumes nothing.
use Rattle.std.specs.Prelude.{None, Option, Some, ℕ}
use Prim.Native.Nat.{ℕ, zero, suc, ◌+◌, ◌-◌, ◌≤◌, ◌<◌}
use mathlib.Core.Path.{◌≡◌, refl, sym}
use mathlib.Core.Bool.{Bool, true, false, cond}
use mathlib.Core.List.{List, [], ◌∷◌}
use native.Mathlib.Nat.{zero-add, add-zero, not-suc-le-zero}
use native.Mathlib.Omega.{arith}
use lib.Dec.{eqb, ltb}
use lib.ListN.{length, get_or, drop, replicate}
use borrow.Author.Tests.{ltb-true, ltb-false, eqb-true, eqb-false, ne_eqb}
use Rattle.base.specs.Or.{◌or◌}
use Rattle.base.specs.Run.{sums}
use Rattle.base.proofs.And.{and_l, and_r, and_i}
use Rattle.base.proofs.Run.{sums_snoc}
use Rattle.sheet.proofs.Every.{sums_grow}
use Rattle.sheet.specs.declared.Container.{Container}
use Rattle.law_addresses.specs.declared.Spot.{Spot}
use Rattle.law_addresses.specs.Sought.{further, all_zero, misses}

-- a number below a sum falls into one of its parts
pub record Lies (F : ℕ → ℕ) (p len n : ℕ) : Type 0 where
  pub i : ℕ
  pub i_in : i < len
  pub j : ℕ
  pub j_in : j < F (p + i)
  pub is : n ≡ sums F p i + j

lies_later : (F : ℕ → ℕ) (p len n : ℕ) → F p ≤ n → Lies F (suc p) len (n - F p) → Lies F p (suc len) n
unfolding sums
lies_later F p len n l t =
    let i_in = t.i_in in
    let is = t.is in
    let q : suc p + t.i ≡ p + suc t.i = omega arith in
    record { i = suc t.i; i_in = omega arith; j = t.j; j_in = rw (← q) t.j_in; is = omega arith }

lies_step : (F : ℕ → ℕ) (p len n : ℕ) → (F p ≤ n → Lies F (suc p) len (n - F p)) → (t : Bool) → ltb n (F p) ≡ t → Lies F p (suc len) n
unfolding sums
lies_step F p len n on true e = record { i = 0; i_in = omega arith; j = n; j_in = rw (add-zero p) (ltb-true n (F p) e); is = sym (zero-add n) }
lies_step F p len n on false e = let m = ltb-false n (F p) e in lies_later F p len n m (on m)

pub lies : (F : ℕ → ℕ) (p len n : ℕ) → n < sums F p len → Lies F p len n
unfolding sums
lies F p zero n l = absurd (not-suc-le-zero l)
lies F p (suc len) n l = lies_step F p len n (λ m. lies F (suc p) len (n - F p) (omega arith)) (ltb n (F p)) refl

-- and what falls into a part is below the sum
pub below_sum : (F : ℕ → ℕ) (p len i j : ℕ) → i < len → j < F (p + i) → sums F p i + j < sums F p len
below_sum F p len i j l m = let g = sums_grow F p (suc i) len l in let t = sums_snoc F p i in omega arith

-- zeros
pub zeros_are : (h : ℕ) → all_zero (replicate h 0) ≡ true
unfolding all_zero
zeros_are zero = refl
zeros_are (suc h) = and_i _ _ refl (zeros_are h)

pub are_zeros : (w : List ℕ) → all_zero w ≡ true → w ≡ replicate (length w) 0
unfolding all_zero
are_zeros [] t = refl
are_zeros (x ∷ xs) t = λ i. eqb-true x 0 (and_l _ _ t) i ∷ are_zeros xs (and_r _ _ t) i

-- words that there are, and those after them
pub first_rest : (w : List ℕ) → 1 ≤ length w → w ≡ get_or w 0 0 ∷ drop 1 w
first_rest [] l = absurd (not-suc-le-zero l)
first_rest (x ∷ xs) l = refl

pub length_rest : (w : List ℕ) → 1 ≤ length w → suc (length (drop 1 w)) ≡ length w
length_rest [] l = absurd (not-suc-le-zero l)
length_rest (x ∷ xs) l = refl

pub two_rest : (w : List ℕ) → 2 ≤ length w → w ≡ get_or w 0 0 ∷ get_or w 1 0 ∷ drop 2 w
two_rest [] l = absurd (not-suc-le-zero l)
two_rest (x ∷ []) l = absurd (omega arith)
two_rest (x ∷ y ∷ ys) l = refl

pub length_two : (w : List ℕ) → 2 ≤ length w → suc (suc (length (drop 2 w))) ≡ length w
length_two [] l = absurd (not-suc-le-zero l)
length_two (x ∷ []) l = absurd (omega arith)
length_two (x ∷ y ∷ ys) l = refl

-- what names say
pub not_named : {n : ℕ} → ◌≡◌ {A = Option ℕ} None (Some n) → ⊥
not_named q = let z : ◌≡◌ {A = ℕ} 0 1 = cc in omega arith

pub at_same : {m n : ℕ} → ◌≡◌ {A = Option ℕ} (Some m) (Some n) → m ≡ n
at_same q = cc

pub further_told : (b n : ℕ) (x : Option ℕ) → further b x ≡ Some n → (j : ℕ) × (x ≡ Some j) × (n ≡ b + j)
unfolding further
further_told b n (Some j) q = (j, refl, sym (at_same q))
further_told b n None q = absurd (not_named q)

pub further_at : (b j : ℕ) (x : Option ℕ) → x ≡ Some j → further b x ≡ Some (b + j)
unfolding further
further_at b j x q = rw q

pub cond_told : (t : Bool) (n : ℕ) (x : Option ℕ) → cond t x None ≡ Some n → (t ≡ true) × (x ≡ Some n)
cond_told true n x q = (refl, q)
cond_told false n x q = absurd (not_named q)

pub cond_not : (t : Bool) (n : ℕ) (x : Option ℕ) → cond t None x ≡ Some n → (t ≡ false) × (x ≡ Some n)
cond_not true n x q = absurd (not_named q)
cond_not false n x q = (refl, q)

-- where a search meets an entry
pub misses_not : (k : Container) (q i l : ℕ) → 1 ≤ q → i < k.len → misses k q (record { entry = k.first + i; left = l }) ≡ false
unfolding misses ◌or◌
misses_not k q i l some inside =
    rw (ne_eqb q 0 (λ z. omega arith), ne_eqb (k.first + i) (k.first + k.len) (λ z. omega arith))

positive : (q : ℕ) → (q ≡ 0 → ⊥) → 1 ≤ q
positive zero n = absurd (n refl)
positive (suc q) n = omega arith

pub misses_told : (k : Container) (q : ℕ) (s : Spot) → misses k q s ≡ false → (1 ≤ q) × (s.entry ≡ k.first + k.len → ⊥)
unfolding misses ◌or◌
misses_told k q s m = go (eqb q 0) (eqb s.entry (k.first + k.len)) refl refl m
  where
    go : (x y : Bool) → eqb q 0 ≡ x → eqb s.entry (k.first + k.len) ≡ y → (x or y) ≡ false → (1 ≤ q) × (s.entry ≡ k.first + k.len → ⊥)
    go true y e f m = let z : ◌≡◌ {A = ℕ} 0 1 = cc in absurd (omega arith)
    go false true e f m = let z : ◌≡◌ {A = ℕ} 0 1 = cc in absurd (omega arith)
    go false false e f m = let n = eqb-false q 0 e in (positive q n, eqb-false _ _ f)
