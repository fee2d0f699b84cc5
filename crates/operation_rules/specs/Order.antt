-- "within one command the lowest number decides" (01, Numbers the reader answers), 29 between 11 and 12 (02, [7]; decision 312), 30 right
-- after 4 and 31 right after 12 (02, [9]): the numbers of a command's rules in their order, and what it is for those of a table to rise.
use Rattle.std.specs.Prelude.{ℕ, suc, Bool, cond, List, [], ◌∷◌, eqb, leb, length}
use Rattle.base.specs.And.{◌and◌}
use Rattle.base.specs.Faults.{Table}

-- the numbers of a command's rules, the lowest first
unfoldable pub order : List ℕ
order = 4 ∷ 30 ∷ 5 ∷ 6 ∷ 7 ∷ 8 ∷ 9 ∷ 10 ∷ 11 ∷ 29 ∷ 12 ∷ 31 ∷ 13 ∷ 14 ∷ 15 ∷ 16 ∷ 17 ∷ 19 ∷ []

unfoldable pub rank_in : List ℕ → ℕ → ℕ
rank_in [] n = 0
rank_in (m ∷ ms) n = cond (eqb n m) 0 (suc (rank_in ms n))

-- how many of them are lower
abbrev pub rank : ℕ → ℕ
rank n = rank_in order n

-- the numbers of a table rise, from this rank on, and all have one
unfoldable pub rises_from : ℕ → Table → Bool
rises_from k [] = leb k (length order)
rises_from k (row ∷ rows) = leb k (rank row.1) and rises_from (suc (rank row.1)) rows

abbrev pub rises : Table → Bool
rises rows = rises_from 0 rows
