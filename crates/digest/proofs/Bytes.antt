-- The bytes of a number as the library gives them, the lowest first.
-- Assumes nothing.
use Rattle.std.proofs.Common.{◌≡◌, ℕ, ◌/◌, ◌^◌, arith}
use Rattle.std.specs.Int.{w32, w64, to_le_bytes}
use Rattle.digest.specs.Bytes.{bytes_of}

module _ (x : ℕ) where
  pub le_four : to_le_bytes w32 x ≡ bytes_of 4 x
  unfolding bytes_of
  le_four =
      let two : x / 256 ^ 2 ≡ x / 256 / 256 = omega arith in
      let three : x / 256 ^ 3 ≡ x / 256 / 256 / 256 = omega arith in
      rw (two, three)

  pub le_eight : to_le_bytes w64 x ≡ bytes_of 8 x
  unfolding bytes_of
  le_eight =
      let two : x / 256 ^ 2 ≡ x / 256 / 256 = omega arith in
      let three : x / 256 ^ 3 ≡ x / 256 / 256 / 256 = omega arith in
      let four : x / 256 ^ 4 ≡ x / 256 / 256 / 256 / 256 = omega arith in
      let five : x / 256 ^ 5 ≡ x / 256 / 256 / 256 / 256 / 256 = omega arith in
      let six : x / 256 ^ 6 ≡ x / 256 / 256 / 256 / 256 / 256 / 256 = omega arith in
      let seven : x / 256 ^ 7 ≡ x / 256 / 256 / 256 / 256 / 256 / 256 / 256 = omega arith in
      rw (two, three, four, five, six, seven)
