-- `all` over words is the look at them one after the other, whether each is 0.
-- Assumes nothing.
use Prim.Native.Nat.{ℕ, zero, suc, ◌<◌}
use mathlib.Core.Path.{◌≡◌, refl}
use mathlib.Core.Bool.{Bool, true, false}
use mathlib.Core.List.{List, [], ◌∷◌}
use native.Mathlib.Omega.{arith}
use lib.ListN.{length, get_or}
use borrow.Author.Tests.{eq-eqb, ne_eqb}
use Rattle.std.specs.Bool.{MatchBool}
use Rattle.std.specs.List.{AllWithin, HoldsAt}
use Rattle.base.proofs.And.{ands, and_false}
use Rattle.law_addresses.specs.Sought.{all_zero}

all_zero_yes : (w : List ℕ) → ((i : ℕ) → i < length w → get_or w i 0 ≡ 0) → true ≡ all_zero w
unfolding all_zero
all_zero_yes [] h = refl
all_zero_yes (x ∷ w) h = rw (eq-eqb x 0 (h 0 (omega arith)), ← all_zero_yes w (λ i l. h (suc i) (omega arith))) (simp ands)

all_zero_no : (w : List ℕ) (i : ℕ) → i < length w → (get_or w i 0 ≡ 0 → ⊥) → false ≡ all_zero w
unfolding all_zero
all_zero_no [] i l n = absurd (omega arith)
all_zero_no (x ∷ w) zero l n = simp (ne_eqb x 0 n, ands)
all_zero_no (x ∷ w) (suc i) l n = rw (← all_zero_no w i (omega arith) n, and_false)

pub all_zero_cases : (w : List ℕ) (r : Bool) → MatchBool r (AllWithin (λ x. x ≡ 0) w 0 (length w)) ((k : ℕ) × (k < length w) × HoldsAt (λ x. x ≡ 0 → ⊥) w k) → r ≡ all_zero w
all_zero_cases w true h = all_zero_yes w (λ i l. h i 0 (omega arith) l)
all_zero_cases w false h = all_zero_no w h.0 h.1 (h.2 0)
