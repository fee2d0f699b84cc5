-- Words and what is done with them: RFC 1321, section 2. A word is a number below 2 ^ 32.
use Rattle.std.specs.Prelude.{ℕ, zero, suc, ◌+◌, ◌-◌, ◌*◌, ◌/◌, ◌%◌, ◌^◌, List, [], ◌∷◌, ◌++◌, slice_index}

-- word k of a block of bytes: four bytes, the one of the least weight first
abbrev pub word : List ℕ → ℕ → ℕ
word x k = slice_index x (4 * k) + 256 * slice_index x (4 * k + 1) + 65536 * slice_index x (4 * k + 2) + 16777216 * slice_index x (4 * k + 3)

-- the first n words
unfoldable pub words_of : List ℕ → ℕ → List ℕ
words_of x zero = []
words_of x (suc n) = words_of x n ++ (word x n ∷ [])

-- the sum of two words, modulo 2 ^ 32
infixl 40 ◌⊞◌
abbrev pub ◌⊞◌ : ℕ → ℕ → ℕ
x ⊞ y = (x + y) % 2 ^ 32

-- x <<< s: shifted left by s places; the bits that fall out on the left come in on the right
unfoldable pub rotated : ℕ → ℕ → ℕ
rotated x s = x * 2 ^ s % 2 ^ 32 + x / 2 ^ (32 - s)

-- not x, bit by bit
abbrev pub inverse : ℕ → ℕ
inverse x = 2 ^ 32 - 1 - x
