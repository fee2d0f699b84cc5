-- A file cut into its complete commands by extent alone, whatever their bytes (02, [13]; decisions 540 and 547).
use Rattle.std.specs.Prelude.{ℕ, ◌+◌, Bool, true, false, cond, List, [], ◌∷◌, eqb, length, None, Option, Some}
use Prim.Native.Char.{code}
use Rattle.base.specs.And.{◌and◌}
use Rattle.base.specs.Breaks.{is_break}
use Rattle.base.specs.Or.{◌or◌}
use Rattle.text.specs.Text.{◌is◌}
use Rattle.book.specs.Books.{is_old}
use Rattle.book.specs.declared.Book.{Book}
use Rattle.mending.specs.declared.Extent.{Extent}

-- where a byte stands: between two commands, or in one that ends at its next m
pub data Site : Type 0 where
  between : Site
  inside : ℕ → Site

-- CR and LF between commands are skipped
unfoldable pub skips : Site → ℕ → Bool
skips between b = is_break b
skips (inside m) b = false

-- this byte ends its command
unfoldable pub closes : Site → ℕ → Bool
closes between b = eqb b (code "*")
closes (inside m) b = eqb b m

-- the byte that ends the command of this one: of a command that begins with `%` the next `%`, of another its first `*`
unfoldable pub mark : Site → ℕ → ℕ
mark between b = cond (eqb b (code "%")) (code "%") (code "*")
mark (inside m) b = m

-- a complete command: the line ends before it, and its bytes
pub data Piece : Type 0 where
  piece : List ℕ → List ℕ → Piece

-- a byte more before the first command, or at its front
unfoldable pub apart : ℕ → List Piece → List Piece
apart b [] = []
apart b (piece gap c ∷ ps) = piece (b ∷ gap) c ∷ ps

unfoldable pub onto : ℕ → List Piece → List Piece
onto b [] = []
onto b (piece gap c ∷ ps) = piece gap (b ∷ c) ∷ ps

-- the complete commands of these bytes; what stands after the last of them is in none
unfoldable pub cut : Site → List ℕ → List Piece
cut w [] = []
cut w (b ∷ s) =
    elim (skips w b) [
      | true ↦ apart b (cut w s)
      | false ↦ elim (closes w b) [ true ↦ piece [] (b ∷ []) ∷ cut between s | false ↦ onto b (cut (inside (mark w b)) s) ]
    ]

abbrev pub pieces : List ℕ → List Piece
pieces = cut between

-- M02 ends a file; in the old edition M2 does too
unfoldable pub closing : Book → List ℕ → Bool
closing book c = (c is "M02*") or (is_old book and (c is "M2*"))

-- the places and bytes of these commands, which stand from `at` on, up to and with M02
unfoldable pub extents_from : Book → ℕ → List Piece → List (ℕ × List ℕ)
extents_from book at [] = []
extents_from book at (piece gap c ∷ ps) =
    (at + length gap, c) ∷ elim (closing book c) [ true ↦ [] | false ↦ extents_from book (at + length gap + length c) ps ]

unfoldable pub extents : Book → List ℕ → List (ℕ × List ℕ)
extents book file = extents_from book 0 (pieces file)

abbrev pub extent : ℕ → ℕ → Option Extent
extent place next = Some (record { place = place; next = next })

-- where the first of these commands, which stand from `at` on, begins and ends
unfoldable pub extent_of : ℕ → List Piece → Option Extent
extent_of at [] = None
extent_of at (piece gap c ∷ ps) = extent (at + length gap) (at + length gap + length c)
