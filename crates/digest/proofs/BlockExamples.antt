-- The 64 operations as RFC 1321, section 3.4, lists them, [k s i] each, and one block's work, from the definitions alone.
-- Assumes nothing.
use Rattle.std.proofs.Common.{◌≡◌, ℕ, ◌+◌, ◌*◌, List, [], ◌∷◌, replicate, refl}
use Rattle.base.specs.Run.{run}
use Rattle.digest.specs.Word.{words_of, rotated}
use Rattle.digest.specs.Table.{table}
use Rattle.digest.specs.Rounds.{words, mixed, place, amounts, amount, operation, row, added, block}

-- of each operation of a round: the word, the amount, and the constant's number
abbrev listing : ℕ → List (ℕ × ℕ × ℕ)
listing r = run (λ j. (place r j, amount r j, 16 * r + j + 1) ∷ []) 0 16

round_1 : listing 0 ≡
    (0, 7, 1) ∷ (1, 12, 2) ∷ (2, 17, 3) ∷ (3, 22, 4)
    ∷ (4, 7, 5) ∷ (5, 12, 6) ∷ (6, 17, 7) ∷ (7, 22, 8)
    ∷ (8, 7, 9) ∷ (9, 12, 10) ∷ (10, 17, 11) ∷ (11, 22, 12)
    ∷ (12, 7, 13) ∷ (13, 12, 14) ∷ (14, 17, 15) ∷ (15, 22, 16) ∷ []
unfolding place amounts amount run
round_1 = refl

round_2 : listing 1 ≡
    (1, 5, 17) ∷ (6, 9, 18) ∷ (11, 14, 19) ∷ (0, 20, 20)
    ∷ (5, 5, 21) ∷ (10, 9, 22) ∷ (15, 14, 23) ∷ (4, 20, 24)
    ∷ (9, 5, 25) ∷ (14, 9, 26) ∷ (3, 14, 27) ∷ (8, 20, 28)
    ∷ (13, 5, 29) ∷ (2, 9, 30) ∷ (7, 14, 31) ∷ (12, 20, 32) ∷ []
unfolding place amounts amount run
round_2 = refl

round_3 : listing 2 ≡
    (5, 4, 33) ∷ (8, 11, 34) ∷ (11, 16, 35) ∷ (14, 23, 36)
    ∷ (1, 4, 37) ∷ (4, 11, 38) ∷ (7, 16, 39) ∷ (10, 23, 40)
    ∷ (13, 4, 41) ∷ (0, 11, 42) ∷ (3, 16, 43) ∷ (6, 23, 44)
    ∷ (9, 4, 45) ∷ (12, 11, 46) ∷ (15, 16, 47) ∷ (2, 23, 48) ∷ []
unfolding place amounts amount run
round_3 = refl

round_4 : listing 3 ≡
    (0, 6, 49) ∷ (7, 10, 50) ∷ (14, 15, 51) ∷ (5, 21, 52)
    ∷ (12, 6, 53) ∷ (3, 10, 54) ∷ (10, 15, 55) ∷ (1, 21, 56)
    ∷ (8, 6, 57) ∷ (15, 10, 58) ∷ (6, 15, 59) ∷ (13, 21, 60)
    ∷ (4, 6, 61) ∷ (11, 10, 62) ∷ (2, 15, 63) ∷ (9, 21, 64) ∷ []
unfolding place amounts amount run
round_4 = refl

-- the empty message is one block, a 1 bit and then zeros
empty : block (128 ∷ replicate 63 0) (words 0x67452301 0xefcdab89 0x98badcfe 0x10325476) ≡ words 0xd98c1dd4 0x04b2008f 0x980980e9 0x7e42f8ec
unfolding words_of rotated table mixed place amounts amount operation row added block
empty = refl
