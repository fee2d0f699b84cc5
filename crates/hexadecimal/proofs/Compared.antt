-- Digits as the library's `all` says them, one by one, and those of two strings pair by pair.
-- Assumes nothing.
use Prim.Native.Nat.{ℕ}
use mathlib.Core.Path.{◌≡◌, refl, ◌∙◌}
use mathlib.Core.Bool.{Bool, true, false, ◌&&◌}
use mathlib.Core.List.{List, [], ◌∷◌, map}
use native.Mathlib.Omega.{arith}
use lib.Dec.{eqb}
use lib.ListN.{length}
use Rattle.std.specs.Char.{is_ascii_hexdigit}
use Rattle.std.specs.List.{list_all, zip}
use Rattle.base.specs.And.{◌and◌}
use Rattle.base.specs.Or.{◌or◌}
use Rattle.base.specs.Bytes.{same_bytes}
use Rattle.base.proofs.And.{and_is}
use Rattle.hexadecimal.specs.Digits.{hex_digit, hex_digits, small, same_digits}

digit_is : (b : ℕ) → is_ascii_hexdigit b ≡ hex_digit b
unfolding hex_digit ◌and◌ ◌or◌
digit_is b = refl

pub digits_all : (s : List ℕ) → list_all is_ascii_hexdigit s ≡ hex_digits s
unfolding hex_digits
digits_all [] = refl
digits_all (b ∷ s) = and_is _ _ ∙ (λ i. digit_is b i and digits_all s i)

-- a digit of each
abbrev pub pair_same : ℕ × ℕ → Bool
pair_same p = eqb (small p.0) p.1

pub same_pairs : (s w : List ℕ) → length s ≡ length w → list_all pair_same (zip s w) ≡ same_digits s w
unfolding same_digits same_bytes
same_pairs [] [] e = refl
same_pairs [] (b ∷ w) e = absurd (omega arith)
same_pairs (a ∷ s) [] e = absurd (omega arith)
same_pairs (a ∷ s) (b ∷ w) e = go (eqb (small a) b) (same_pairs s w (omega arith))
  where
    go : (t : Bool) → list_all pair_same (zip s w) ≡ same_bytes (map small s) w →
        (t && list_all pair_same (zip s w)) ≡ elim t [ true ↦ same_bytes (map small s) w | false ↦ false ]
    go true ih = ih
    go false ih = refl

pub same_lengths : (s w : List ℕ) → (length s ≡ length w → ⊥) → same_digits s w ≡ false
unfolding same_digits same_bytes
same_lengths [] [] n = absurd (n refl)
same_lengths [] (b ∷ w) n = refl
same_lengths (a ∷ s) [] n = refl
same_lengths (a ∷ s) (b ∷ w) n = go (eqb (small a) b) (same_lengths s w (λ e. n (omega (arith, e))))
  where
    go : (t : Bool) → same_bytes (map small s) w ≡ false → elim t [ true ↦ same_bytes (map small s) w | false ↦ false ] ≡ false
    go true ih = ih
    go false ih = refl
