-- Where no item is at fault none lacks the attribute that it must have.
-- Assumes nothing.
use Prim.Native.Nat.{ℕ, zero, suc, ◌+◌, ◌≤◌, ◌<◌}
use mathlib.Core.Path.{◌≡◌, refl, ap, ◌∙◌}
use mathlib.Core.Bool.{Bool, true, false, cond}
use mathlib.Core.List.{List}
use native.Mathlib.Omega.{arith}
use borrow.Author.Tests.{eqb-true, eqb-false}
use lib.Dec.{eqb}
use lib.ListN.{length}
use Rattle.law_components.specs.Parts.{Part}
use Rattle.law_components.specs.Outlines.{at, ends_open}
use Rattle.law_components.specs.Faults.{lacks, repeats, fault_at, fault, fault_from, fault_of}
use Rattle.law_components.specs.declared.Fault.{Fault}

module _ (ps : List Part) where
  none_from : (n k i : ℕ) → (fault_from ps k n).number ≡ 0 → k ≤ i → i < k + n → fault_at ps i ≡ 0
  unfolding fault_from
  none_from zero k i e h g = absurd (omega arith)
  none_from (suc n) k i e h g = go (eqb (fault_at ps k) 0) refl e (eqb i k) refl (λ z l. none_from n (suc k) i z l (omega arith))
    where
      step : Bool → Fault
      step t = elim t [ true ↦ fault_from ps (suc k) n | false ↦ fault (fault_at ps k) (at ps k).place ]

      go : (t : Bool) → eqb (fault_at ps k) 0 ≡ t → (step t).number ≡ 0 → (u : Bool) → eqb i k ≡ u →
          ((fault_from ps (suc k) n).number ≡ 0 → suc k ≤ i → fault_at ps i ≡ 0) → fault_at ps i ≡ 0
      go true f z true q ih = ap (fault_at ps) (eqb-true i k q) ∙ eqb-true (fault_at ps k) 0 f
      go true f z false q ih = let ne = eqb-false i k q in ih z (omega (arith, ne))
      go false f z u q ih = absurd (eqb-false (fault_at ps k) 0 f z)

  held_at : (k : ℕ) → fault_at ps k ≡ 0 → lacks (at ps k) ≡ false
  unfolding fault_at
  held_at k e = go (lacks (at ps k)) e
    where
      go : (t : Bool) → ◌≡◌ {A = ℕ} (cond t 26 (cond (repeats ps k) 27 (cond (ends_open ps k) 28 0))) 0 → t ≡ false
      go true z = absurd (omega arith)
      go false z = refl

  pub none_lacks : (fault_of ps).number ≡ 0 → (k : ℕ) → k < length ps → lacks (at ps k) ≡ false
  unfolding fault_of
  none_lacks e k h = held_at k (none_from (length ps) 0 k e (omega arith) (omega arith))
