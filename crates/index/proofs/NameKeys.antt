-- The bits of a name's key are those of its bytes, from the last byte on.
-- Assumes nothing.
use Prim.Native.Nat.{ℕ, zero, suc, ◌+◌, ◌*◌, ◌-◌, ◌/◌, ◌%◌, ◌^◌, ◌≤◌, ◌<◌}
use mathlib.Core.Path.{◌≡◌, refl, sym, ap, ◌∙◌}
use mathlib.Core.List.{List, [], ◌∷◌, ◌++◌}
use native.Mathlib.Nat.{zero-div, div-one, sub-zero}
use native.Mathlib.Omega.{arith}
use lib.Dec.{eqb}
use lib.ListN.{length, get_or, take, drop}
use lib.Pow.{high, shr-shr}
use lib.Seq.{slice, take-suc, drop-append-le, length-take-le, slice_empty}
use Rattle.index.specs.Tree.{is_high}
use Rattle.index.specs.Names.{key_from, key_of}

key_snoc : (v : ℕ) (l : List ℕ) (b : ℕ) → key_from v (l ++ (b ∷ [])) ≡ key_from v l * 256 + b
unfolding key_from
key_snoc v [] b = refl
key_snoc v (c ∷ l) b = key_snoc (v * 256 + c) l b

-- a bit below the eighth does not depend on what stands above
same_bit : (x y : ℕ) → x % 2 ≡ y % 2 → is_high x ≡ is_high y
same_bit x y e = ap (λ (n : ℕ). eqb n 1) e

low_bit : (x b r : ℕ) → r < 8 → is_high ((x * 256 + b) / 2 ^ r) ≡ is_high (b / 2 ^ r)
low_bit x b zero h = same_bit ((x * 256 + b) / 1) (b / 1) (omega arith)
low_bit x b (suc zero) h = same_bit ((x * 256 + b) / 2) (b / 2) (omega arith)
low_bit x b (suc (suc zero)) h = same_bit ((x * 256 + b) / 4) (b / 4) (omega arith)
low_bit x b (suc (suc (suc zero))) h = same_bit ((x * 256 + b) / 8) (b / 8) (omega arith)
low_bit x b (suc (suc (suc (suc zero)))) h = same_bit ((x * 256 + b) / 16) (b / 16) (omega arith)
low_bit x b (suc (suc (suc (suc (suc zero))))) h = same_bit ((x * 256 + b) / 32) (b / 32) (omega arith)
low_bit x b (suc (suc (suc (suc (suc (suc zero)))))) h = same_bit ((x * 256 + b) / 64) (b / 64) (omega arith)
low_bit x b (suc (suc (suc (suc (suc (suc (suc zero))))))) h = same_bit ((x * 256 + b) / 128) (b / 128) (omega arith)
low_bit x b (suc (suc (suc (suc (suc (suc (suc (suc r)))))))) h = absurd (omega arith)

-- a part is the part before its last byte, and that byte
slice_last : (s : List ℕ) (from to : ℕ) → from ≤ to → to < length s → slice from (suc to) s ≡ slice from to s ++ (get_or s to 0 ∷ [])
slice_last s from to h k = ap (drop from) (take-suc s to 0 k) ∙ drop-append-le from (take to s) (get_or s to 0 ∷ []) (rw (length-take-le to s (omega arith)) h)

module _ (s : List ℕ) (bytes : (i : ℕ) → get_or s i 0 < 256) where
  -- a name of one byte more
  key_last : (from to : ℕ) → from ≤ to → to < length s → key_of (slice from (suc to) s) ≡ key_of (slice from to s) * 256 + get_or s to 0
  key_last from to h k = ap key_of (slice_last s from to h k) ∙ key_snoc 0 (slice from to s) (get_or s to 0)

  -- eight bits above are the name without its last byte
  key_byte : (from to : ℕ) → from ≤ to → to < length s → key_of (slice from (suc to) s) / 2 ^ 8 ≡ key_of (slice from to s)
  key_byte from to h k = ap (λ (n : ℕ). n / 2 ^ 8) (key_last from to h k) ∙ high (key_of (slice from to s)) 8 (bytes to)

  pub key_above : (q from to : ℕ) → from + q ≤ to → to ≤ length s → key_of (slice from to s) / 2 ^ (q * 8) ≡ key_of (slice from (to - q) s)
  key_above zero from to h k = rw (sub-zero to) (div-one (key_of (slice from to s)))
  key_above (suc q) from to h k =
      let e : suc q * 8 ≡ q * 8 + 8 = omega arith in
      let f : to - q ≡ suc (to - suc q) = omega arith in
      ap (λ (n : ℕ). key_of (slice from to s) / 2 ^ n) e
      ∙ sym (shr-shr (key_of (slice from to s)) (q * 8) 8)
      ∙ ap (λ (n : ℕ). n / 2 ^ 8) (key_above q from to (omega arith) k)
      ∙ ap (λ (n : ℕ). key_of (slice from n s) / 2 ^ 8) f
      ∙ key_byte from (to - suc q) (omega arith) (omega arith)

  -- past the first byte there are no bits
  pub key_none : (d from to : ℕ) → from ≤ to → to ≤ length s → (to - from) * 8 ≤ d → key_of (slice from to s) / 2 ^ d ≡ 0
  unfolding key_from
  key_none d from to h k l =
      let n = to - from in
      let e : d ≡ n * 8 + (d - n * 8) = omega arith in
      let f : to - n ≡ from = omega arith in
      ap (λ (m : ℕ). key_of (slice from to s) / 2 ^ m) e
      ∙ sym (shr-shr (key_of (slice from to s)) (n * 8) (d - n * 8))
      ∙ ap (λ (m : ℕ). m / 2 ^ (d - n * 8)) (key_above n from to (omega arith) k ∙ ap (λ (m : ℕ). key_of (slice from m s)) f ∙ ap key_of (slice_empty from s))
      ∙ zero-div (2 ^ (d - n * 8))

  -- bit d is one of the byte that stands d / 8 places before the last
  pub key_bit : (d from to : ℕ) → to ≤ length s → d / 8 < to - from
      → is_high (key_of (slice from to s) / 2 ^ d) ≡ is_high (get_or s (to - 1 - d / 8) 0 / 2 ^ (d % 8))
  key_bit d from to k l =
      let q = d / 8 in
      let e : d ≡ q * 8 + d % 8 = omega arith in
      let f : to - q ≡ suc (to - 1 - q) = omega arith in
      ap (λ (m : ℕ). is_high (key_of (slice from to s) / 2 ^ m)) e
      ∙ ap is_high (sym (shr-shr (key_of (slice from to s)) (q * 8) (d % 8)))
      ∙ ap (λ (m : ℕ). is_high (m / 2 ^ (d % 8))) (key_above q from to (omega arith) k ∙ ap (λ (m : ℕ). key_of (slice from m s)) f ∙ key_last from (to - 1 - q) (omega arith) (omega arith))
      ∙ low_bit (key_of (slice from (to - 1 - q) s)) (get_or s (to - 1 - q) 0) (d % 8) (omega arith)
