-- Worked examples, by computation: files cut by extent alone.
-- Assumes nothing.
use Prim.Native.Nat.{ℕ}
use Prim.Native.String.{String}
use mathlib.Core.Path.{◌≡◌, refl}
use mathlib.Core.List.{List, [], ◌∷◌, map}
use Rattle.base.specs.And.{◌and◌}
use Rattle.base.specs.Or.{◌or◌}
use Rattle.base.specs.Bytes.{same_bytes}
use Rattle.text.specs.Text.{text}
use Rattle.book.specs.Books.{ascii, film, is_old, is_old_edition}
use Rattle.mending.specs.Extents.{skips, closes, mark, apart, onto, cut, closing, extents_from, extents}

abbrev files : List (String × List (ℕ × List ℕ))
files =
    ("", [])
    ∷ ("\r\n", [])
    ∷ ("G01", [])
    ∷ ("%FS*", [])
    ∷ ("*", (0, text "*") ∷ [])
    ∷ ("\n%FSLA*\n%\nM02*\nG01*", (1, text "%FSLA*\n%") ∷ (10, text "M02*") ∷ [])
    ∷ ("G04%*%\u{1}*%X\n", (0, text "G04%*") ∷ (5, text "%\u{1}*%") ∷ [])
    ∷ ("M2*M02 *M02*", (0, text "M2*") ∷ (3, text "M02 *") ∷ (8, text "M02*") ∷ [])
    ∷ []

cut_so : map (λ row. extents ascii (text row.0)) files ≡ map (λ row. row.1) files
unfolding extents extents_from closing is_old is_old_edition cut skips closes mark apart onto same_bytes ◌and◌ ◌or◌
cut_so = refl

old_ends : extents film (text "G1*M2*M02*") ≡ (0, text "G1*") ∷ (3, text "M2*") ∷ []
unfolding extents extents_from closing is_old is_old_edition cut skips closes mark apart onto same_bytes ◌and◌ ◌or◌
old_ends = refl
