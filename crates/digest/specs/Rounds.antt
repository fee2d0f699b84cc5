-- A block of 64 bytes worked into the four words: RFC 1321, section 3.4. Rounds, and the operations of a round, are counted from 0.
use Rattle.std.specs.Prelude.{ℕ, zero, suc, ◌+◌, ◌*◌, ◌%◌, List, [], ◌∷◌, bit_and, bit_or, bit_xor, slice_index, slice_index_or}
use Rattle.digest.specs.declared.Words.{Words}
use Rattle.digest.specs.Word.{words_of, ◌⊞◌, rotated, inverse}
use Rattle.digest.specs.Table.{table}

abbrev pub words : ℕ → ℕ → ℕ → ℕ → Words
words a b c d = record { a = a; b = b; c = c; d = d }

-- the round's function of three words:
-- F(X, Y, Z) = XY v not(X) Z, G(X, Y, Z) = XZ v Y not(Z), H(X, Y, Z) = X xor Y xor Z, I(X, Y, Z) = Y xor (X v not(Z))
unfoldable pub mixed : ℕ → ℕ → ℕ → ℕ → ℕ
mixed zero x y z = bit_or (bit_and x y) (bit_and (inverse x) z)
mixed (suc zero) x y z = bit_or (bit_and x z) (bit_and y (inverse z))
mixed (suc (suc zero)) x y z = bit_xor (bit_xor x y) z
mixed (suc (suc (suc r))) x y z = bit_xor y (bit_or x (inverse z))

-- k: the word of the block that operation j takes
unfoldable pub place : ℕ → ℕ → ℕ
place zero j = j
place (suc zero) j = (5 * j + 1) % 16
place (suc (suc zero)) j = (3 * j + 5) % 16
place (suc (suc (suc r))) j = 7 * j % 16

-- s: the places that it rotates by, in turn
unfoldable pub amounts : ℕ → List ℕ
amounts zero = 7 ∷ 12 ∷ 17 ∷ 22 ∷ []
amounts (suc zero) = 5 ∷ 9 ∷ 14 ∷ 20 ∷ []
amounts (suc (suc zero)) = 4 ∷ 11 ∷ 16 ∷ 23 ∷ []
amounts (suc (suc (suc r))) = 6 ∷ 10 ∷ 15 ∷ 21 ∷ []

unfoldable pub amount : ℕ → ℕ → ℕ
amount r j = slice_index (amounts r) (j % 4)

-- Operation j of round r gives the first of its words a new value: [abcd k s i] is a = b + ((a + f(b, c, d) + X[k] + T[i]) <<< s).
-- The block's sixteen words are x, the table of constants is t.
unfoldable pub operation : List ℕ → List ℕ → ℕ → ℕ → Words → ℕ
operation x t r j w =
    w.b ⊞ rotated (w.a ⊞ mixed r w.b w.c w.d ⊞ slice_index_or x (place r j) 0 ⊞ slice_index_or t (16 * r + j) 0) (amount r j)

-- four operations, from operation j on: [ABCD k s i] [DABC k s i] [CDAB k s i] [BCDA k s i]
unfoldable pub row : List ℕ → List ℕ → ℕ → ℕ → Words → Words
row x t r j w =
    let a = operation x t r j w in
    let d = operation x t r (j + 1) (words w.d a w.b w.c) in
    let c = operation x t r (j + 2) (words w.c d a w.b) in
    let b = operation x t r (j + 3) (words w.b c d a) in
    words a b c d

-- a round is four rows
abbrev pub round : List ℕ → List ℕ → ℕ → Words → Words
round x t r w = row x t r 12 (row x t r 8 (row x t r 4 (row x t r 0 w)))

abbrev pub four_rounds : List ℕ → List ℕ → Words → Words
four_rounds x t w = round x t 3 (round x t 2 (round x t 1 (round x t 0 w)))

-- each word added to the one there was before
unfoldable pub added : Words → Words → Words
added v w = words (v.a ⊞ w.a) (v.b ⊞ w.b) (v.c ⊞ w.c) (v.d ⊞ w.d)

-- the words after a block
unfoldable pub block : List ℕ → Words → Words
block b w = added (four_rounds (words_of b 16) table w) w
