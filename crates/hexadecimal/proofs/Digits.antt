-- The digits of one byte more: in the definition, and in the array that they are stored in.
-- Assumes nothing.
use mathlib.Core.Path.{◌≡◌, refl, ap, ◌∙◌}
use mathlib.Core.List.{List, [], ◌∷◌, ◌++◌, append_assoc}
use Prim.Native.Nat.{ℕ, suc, ◌+◌, ◌*◌, ◌/◌, ◌%◌, ◌<◌}
use native.Mathlib.Omega.{arith}
use lib.ListN.{length, take, get_or, set, length-set}
use lib.Seq.{take-suc, take-suc-set}
use Rattle.hexadecimal.specs.Hex.{digit, hex_of}

hex_snoc : (s : List ℕ) (b : ℕ) → hex_of (s ++ (b ∷ [])) ≡ hex_of s ++ (digit (b / 16) ∷ digit (b % 16) ∷ [])
unfolding hex_of
hex_snoc [] b = refl
hex_snoc (a ∷ s) b = ap (λ l. digit (a / 16) ∷ digit (a % 16) ∷ l) (hex_snoc s b)

stored : (h : List ℕ) (k x y : ℕ) → suc k < length h → take (suc (suc k)) (set (set h k x) (suc k) y) ≡ take k h ++ (x ∷ y ∷ [])
stored h k x y l =
    let inside : suc k < length (set h k x) = rw length-set l in
    let before : k < length h = omega arith in
    take-suc-set (set h k x) (suc k) y inside ∙ rw (take-suc-set h k x before) (append_assoc (take k h) (x ∷ []) (y ∷ []))

pub digits_more : (d h : List ℕ) (i : ℕ) → i < length d → 2 * i + 1 < length h → take (2 * i) h ≡ hex_of (take i d) →
    take (2 * (i + 1)) (set (set h (2 * i) (digit (get_or d i 0 / 16))) (2 * i + 1) (digit (get_or d i 0 % 16))) ≡ hex_of (take (i + 1) d)
digits_more d h i k l e =
    let places : 2 * (i + 1) ≡ suc (suc (2 * i)) = omega arith in
    let second : 2 * i + 1 ≡ suc (2 * i) = omega arith in
    let next : i + 1 ≡ suc i = omega arith in
    rw (places, second, next, take-suc d i 0, hex_snoc, ← e) (stored h (2 * i) (digit (get_or d i 0 / 16)) (digit (get_or d i 0 % 16)) (omega arith))
