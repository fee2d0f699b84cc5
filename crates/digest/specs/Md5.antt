-- The digest of a message of bytes: RFC 1321, section 3, step by step.
use Rattle.std.specs.Prelude.{ℕ, zero, suc, ◌-◌, ◌*◌, ◌/◌, ◌%◌, ◌^◌, List, ◌∷◌, ◌++◌, length, take, drop, replicate}
use Rattle.digest.specs.declared.Words.{Words}
use Rattle.digest.specs.Rounds.{words, block}
use Rattle.digest.specs.Bytes.{bytes_of}

-- 3.1: after n bytes a single 1 bit, then as few 0 bits as make the length 56 bytes modulo 64
unfoldable pub padding : ℕ → List ℕ
padding n = 128 ∷ replicate ((119 - n % 64) % 64) 0

-- 3.2: the length in bits before the padding, modulo 2 ^ 64, in eight bytes
unfoldable pub length_of : ℕ → List ℕ
length_of n = bytes_of 8 (8 * n % 2 ^ 64)

-- what follows a message of n bytes
unfoldable pub tail : ℕ → List ℕ
tail n = padding n ++ length_of n

-- 3.3: the four words at the start; the RFC writes their bytes, 01 23 45 67 for the first
unfoldable pub initial : Words
initial = words 0x67452301 0xefcdab89 0x98badcfe 0x10325476

-- 3.4: the words after n blocks of 64 bytes
unfoldable pub blocks : ℕ → List ℕ → Words → Words
blocks zero m w = w
blocks (suc n) m w = blocks n (drop 64 m) (block (take 64 m) w)

-- 3.5: the digest begins with the low byte of A, and ends with the high byte of D
unfoldable pub output : Words → List ℕ
output w = bytes_of 4 w.a ++ bytes_of 4 w.b ++ bytes_of 4 w.c ++ bytes_of 4 w.d

unfoldable pub md5 : List ℕ → List ℕ
md5 m =
    let p = m ++ tail (length m) in
    output (blocks (length p / 64) p initial)
