-- What a search that found nothing says: no record is the one sought, and the link is where the search ended.
-- Assumes nothing.
use Rattle.std.specs.Prelude.{Result, Err, Ok}
use Prim.Native.Nat.{ℕ, zero, suc, ◌+◌, ◌≤◌, ◌<◌}
use mathlib.Core.Path.{◌≡◌, refl, sym, ap, ◌∙◌}
use mathlib.Core.Bool.{Bool, true, false}
use mathlib.Core.Logic.{⊎_elim}
use native.Mathlib.Nat.{eq-or-lt_of_le}
use native.Mathlib.Omega.{arith}
use Rattle.index.specs.First.{first_of}

free_link : (x y : ℕ) → ◌≡◌ {A = Result ℕ ℕ} (Err x) (Err y) → x ≡ y
free_link x y e = cc

pub first_free : (is : ℕ → Bool) (i n x y : ℕ) → first_of is i n (Err x) ≡ Err y → (x ≡ y) × ((j : ℕ) → i ≤ j → j < i + n → is j ≡ true → ⊥)
unfolding first_of
first_free is i zero x y e = (free_link x y e, λ j l h p. absurd (omega arith))
first_free is i (suc n) x y e = go (is i) refl e (first_free is (suc i) n x y)
  where
    go : (b : Bool) → is i ≡ b → ◌≡◌ {A = Result ℕ ℕ} (elim b [ true ↦ Ok i | false ↦ first_of is (suc i) n (Err x) ]) (Err y)
        → (first_of is (suc i) n (Err x) ≡ Err y → (x ≡ y) × ((j : ℕ) → suc i ≤ j → j < suc i + n → is j ≡ true → ⊥))
        → (x ≡ y) × ((j : ℕ) → i ≤ j → j < i + suc n → is j ≡ true → ⊥)
    go true f e rest = absurd (let w : ◌≡◌ {A = ℕ} 0 1 = cc in omega arith)
    go false f e rest =
        let r = rest e in (
          r.0,
          λ j l h p. ⊎_elim
              (λ (q : i ≡ j). let z : true ≡ false = sym p ∙ ap is (sym q) ∙ f in absurd (let w : ◌≡◌ {A = ℕ} 0 1 = cc in omega arith))
              (λ (k : i < j). r.1 j k (omega arith) p)
              (eq-or-lt_of_le l),
        )
