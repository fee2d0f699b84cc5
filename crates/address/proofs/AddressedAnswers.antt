-- The answers, from what the counts of a valid store and the descent say.
-- Assumes nothing.
use Prim.Native.Nat.{ℕ, zero, suc, ◌≤◌, ◌<◌}
use mathlib.Core.Path.{◌≡◌, refl, sym, ◌∙◌}
use mathlib.Core.Bool.{true, false}
use mathlib.Core.List.{List, [], ◌∷◌}
use native.Mathlib.Nat.{not-suc-le-zero, le_of_suc-le-suc}
use native.Mathlib.Omega.{arith}
use lib.ListN.{length, get_or, replicate}
use borrow.Author.Tests.{lt-ltb, le-ltb}
use Rattle.sheet.specs.Containers.{top_of}
use Rattle.sheet.specs.Valid.{valid}
use Rattle.sheet.proofs.Expand.{length_sheet}
use Rattle.law_addresses.specs.Addresses.{sheet_addresses}
use Rattle.law_addresses.proofs.Length.{length_addresses}
use Rattle.address.specs.Addressed.{address_number, address_words}

-- what there is does not depend on what stands for nothing, and past the end there is nothing
pub there : {A : Type 0} (l : List A) (k : ℕ) (x y : A) → k < length l → get_or l k x ≡ get_or l k y
there [] k x y l = absurd (not-suc-le-zero l)
there (z ∷ zs) zero x y l = refl
there (z ∷ zs) (suc k) x y l = there zs k x y (le_of_suc-le-suc l)

past : {A : Type 0} (l : List A) (k : ℕ) (x : A) → length l ≤ k → get_or l k x ≡ x
past [] k x l = refl
past (z ∷ zs) zero x l = absurd (not-suc-le-zero l)
past (z ∷ zs) (suc k) x l = past zs k x (le_of_suc-le-suc l)

module _ (head e a : List ℕ) (k : ℕ) where
  pub answer_is : valid head e a ≡ true → k < (top_of head).items → (w : List ℕ) → w ≡ get_or (sheet_addresses head e a) k [] →
      (0 ≡ address_number head e a k) × (w ≡ address_words head e a k)
  unfolding address_number address_words
  answer_is v l w q =
      let long = length_addresses head e a v in
      (simp (v, length_sheet head e a v, lt-ltb _ _ l), q ∙ there (sheet_addresses head e a) k [] (replicate 10 0) (omega arith) ∙ rw v)

  pub answer_past : valid head e a ≡ true → (top_of head).items ≤ k → (20 ≡ address_number head e a k) × (replicate 10 0 ≡ address_words head e a k)
  unfolding address_number address_words
  answer_past v l =
      let long = length_addresses head e a v in
      (simp (v, length_sheet head e a v, le-ltb _ _ l), rw v (sym (past (sheet_addresses head e a) k (replicate 10 0) (omega arith))))

  pub answer_not : valid head e a ≡ false → (21 ≡ address_number head e a k) × (replicate 10 0 ≡ address_words head e a k)
  unfolding address_number address_words
  answer_not v = (simp v, rw v)
