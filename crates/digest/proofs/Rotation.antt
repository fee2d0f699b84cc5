-- A rotation by shifts: what is shifted left and what is shifted right have no bit in common, so `or` adds them.
-- Assumes nothing.
use Rattle.std.proofs.Common.{◌≡◌, ℕ, ◌+◌, ◌*◌, ◌/◌, ◌%◌, ◌^◌, ◌<◌, add-zero, shr_lt}
use native.Mathlib.Nat.{mul-mod_left}
use lib.Bits.{bit_or, or_shifted}
use lib.Pow.{shl-shr, mod-pow-add}

module _ (k s x : ℕ) where
  -- shifted left by s in k + s bits: the k low bits of x, s places up
  shifted_left : x * 2 ^ s % 2 ^ (k + s) ≡ (x % 2 ^ k) * 2 ^ s
  shifted_left = rw (mod-pow-add (x * 2 ^ s) k s, shl-shr x s, mul-mod_left x (2 ^ s)) (add-zero ((x % 2 ^ k) * 2 ^ s))

  pub or_adds : x < 2 ^ (s + k) → bit_or (x * 2 ^ s % 2 ^ (k + s)) (x / 2 ^ k) ≡ x * 2 ^ s % 2 ^ (k + s) + x / 2 ^ k
  or_adds h = rw shifted_left (or_shifted (x % 2 ^ k) s (x / 2 ^ k) (shr_lt s k h))
