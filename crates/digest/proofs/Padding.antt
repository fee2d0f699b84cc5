-- What follows a message: how long it is, and how it lies in arrays of fixed size.
-- Assumes nothing.
use Rattle.std.proofs.Common.{◌≡◌, ℕ, zero, suc, ◌+◌, ◌-◌, ◌*◌, ◌/◌, ◌%◌, ◌^◌, ◌≤◌, List, ◌∷◌, ◌++◌, length, take, replicate, refl, ap, ◌∙◌, le_of_suc-le-suc, mul_comm, arith, length-append}
use lib.ListN.{length-replicate}
use Rattle.digest.specs.Bytes.{bytes_of}
use Rattle.digest.specs.Md5.{padding, length_of, tail}

length_padding : (n : ℕ) → length (padding n) ≡ suc ((119 - n % 64) % 64)
unfolding padding
length_padding n = ap suc (length-replicate {A = ℕ} ((119 - n % 64) % 64) 0)

-- RFC 1321, 3.1: "congruent to 448, modulo 512 .. at least one bit and at most 512 bits are appended"
pub padding_reaches : (n : ℕ) → ((n + length (padding n)) % 64 ≡ 56) × ((1 ≤ length (padding n)) × (length (padding n) ≤ 64))
padding_reaches n =
    let l = length_padding n in
    (omega arith, (omega arith, omega arith))

length_bytes : (n x : ℕ) → length (bytes_of n x) ≡ n
unfolding bytes_of
length_bytes zero x = refl
length_bytes (suc n) x = ap suc (length_bytes n (x / 256))

length_tail : (n : ℕ) → length (tail n) ≡ length (padding n) + 8
unfolding tail length_of
length_tail n = length-append (padding n) (length_of n) ∙ ap (λ k. length (padding n) + k) (length_bytes 8 (8 * n % 2 ^ 64))

-- with it the message is one block or more
pub whole_blocks : (m : List ℕ) → length (m ++ tail (length m)) ≡ 64 * suc (length (m ++ tail (length m)) / 64 - 1)
whole_blocks m =
    let joined = length-append m (tail (length m)) in
    let t = length_tail (length m) in
    let p = padding_reaches (length m) in
    omega arith

-- it goes by the length modulo 2 ^ 64
pub tail_mod : (n : ℕ) → tail (n % 2 ^ 64) ≡ tail n
unfolding tail padding length_of
tail_mod n =
    let places : n % 2 ^ 64 % 64 ≡ n % 64 = omega arith in
    let bits : 8 * (n % 2 ^ 64) % 2 ^ 64 ≡ 8 * n % 2 ^ 64 = omega arith in
    rw (places, bits)

take_zeros : (k n : ℕ) → k ≤ n → take k (replicate n 0) ≡ replicate {A = ℕ} k 0
take_zeros zero n h = refl
take_zeros (suc k) zero h = absurd (omega arith)
take_zeros (suc k) (suc n) h = ap (λ l. 0 ∷ l) (take_zeros k n (le_of_suc-le-suc h))

pub first_padding : (n : ℕ) → take (1 + (119 - n % 64) % 64) (128 ∷ replicate 63 0) ≡ padding n
unfolding padding
first_padding n =
    let e : 1 + (119 - n % 64) % 64 ≡ suc ((119 - n % 64) % 64) = omega arith in
    rw e (ap (λ l. 128 ∷ l) (take_zeros ((119 - n % 64) % 64) 63 (omega arith)))

pub length_field : (n : ℕ) → bytes_of 8 (n * 8 % 2 ^ 64) ≡ length_of n
unfolding length_of
length_field n = rw (mul_comm n 8)
