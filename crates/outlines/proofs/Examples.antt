-- Worked examples, by computation: what texts do in each edition, and which commands begin a contour.
-- Assumes nothing.
use Prim.Native.String.{String}
use mathlib.Core.Path.{◌≡◌, refl}
use mathlib.Core.Bool.{Bool, true, false}
use mathlib.Core.List.{List, [], ◌∷◌, map}
use Rattle.base.specs.And.{◌and◌}
use Rattle.base.specs.Or.{◌or◌}
use Rattle.base.specs.Bytes.{same_bytes}
use Rattle.base.specs.Choose.{pick}
use Rattle.text.specs.First.{first_in}
use Rattle.text.specs.Text.{text, among}
use Rattle.digits.specs.Digits.{is_digit}
use Rattle.book.specs.Books.{is_old_edition, is_old, ascii, film}
use Rattle.book.specs.declared.Book.{Book}
use Rattle.films.specs.Codes.{later_codes, code_of, ends_in_one, operation_in, operation_length, is_end}
use Rattle.films.specs.Words.{comment_of, operate_of, coded_of, general_of, miscellaneous_of, other_of, word_of}
use Rattle.outlines.specs.Outlines.{outline, still, newer_outline, word_outline, outline_of}
use Rattle.outlines.specs.Regions.{region_after, begins_contour}
use Rattle.outlines.specs.declared.Outline.{Outline}
use Rattle.outlines.specs.declared.Region.{Region}

-- numbers that are too long make no difference, and what a comment says is nothing (decision 317)
abbrev newer : List (String × Outline)
newer =
    ("G36", outline true false false false)
    ∷ ("G37", outline false true false false)
    ∷ ("D02", outline false false true false)
    ∷ ("X1Y1D01", outline false false false true)
    ∷ ("X1234567890123456789D01", outline false false false true)
    ∷ ("G04D01", still)
    ∷ ("X1Y1D1", still)
    ∷ []

newer_hold : map (λ row. outline_of ascii (text row.0)) newer ≡ map (λ row. row.1) newer
unfolding outline_of newer_outline is_old is_old_edition pick same_bytes ◌and◌
newer_hold = refl

-- a code before an operation counts, and so does the operation (decision 512)
abbrev old : List (String × Outline)
old =
    ("G36", outline true false false false)
    ∷ ("G36X0Y0D02", outline true false true false)
    ∷ ("G36X1Y1D1", outline true false false true)
    ∷ ("G37X0Y0D03", outline false true false false)
    ∷ ("G1X1Y1D1", outline false false false true)
    ∷ ("G01X1Y1D01", outline false false false true)
    ∷ ("D2", outline false false true false)
    ∷ ("X1234567890123456789D1", outline false false false true)
    ∷ ("G4D01", still)
    ∷ ("G04D1", still)
    ∷ ("G40D01", still)
    ∷ ("G54D11", still)
    ∷ ("D11", still)
    ∷ ("M2", still)
    ∷ []

old_hold : map (λ row. outline_of film (text row.0)) old ≡ map (λ row. row.1) old
unfolding outline_of word_outline is_old is_old_edition word_of other_of miscellaneous_of general_of coded_of operate_of comment_of is_end operation_length operation_in ends_in_one code_of later_codes is_digit pick first_in among same_bytes ◌and◌ ◌or◌
old_hold = refl

-- which of these commands begin a contour
abbrev firsts : Book → Region → List String → List Bool
firsts book r [] = []
firsts book r (t ∷ ts) = begins_contour r (outline_of book (text t)) ∷ firsts book (region_after r (outline_of book (text t))) ts

abbrev outside : Region
outside = record { inside = false; drawn = false }

newer_firsts : firsts ascii outside ("X0Y0D01" ∷ "G36" ∷ "X0Y0D02" ∷ "X1Y1D01" ∷ "X2Y2D01" ∷ "X3Y3D02" ∷ "X4Y4D01" ∷ "G37" ∷ "X0Y0D01" ∷ [])
    ≡ false ∷ false ∷ false ∷ true ∷ false ∷ false ∷ true ∷ false ∷ false ∷ []
unfolding begins_contour region_after outline_of newer_outline is_old is_old_edition pick same_bytes ◌and◌ ◌or◌
newer_firsts = refl

-- G36 and a contour's first D01 in one command, G37 and a D01 after the region
old_firsts : firsts film outside ("G36X0Y0D02" ∷ "G1X1Y1D1" ∷ "D1" ∷ "D2" ∷ "X4D1" ∷ "G37X0Y0D01" ∷ "G36X1Y1D1" ∷ "X2D01" ∷ [])
    ≡ false ∷ true ∷ false ∷ false ∷ true ∷ false ∷ true ∷ false ∷ []
unfolding begins_contour region_after outline_of word_outline is_old is_old_edition word_of other_of miscellaneous_of general_of coded_of operate_of comment_of is_end operation_length operation_in ends_in_one code_of later_codes is_digit pick first_in among same_bytes ◌and◌ ◌or◌
old_firsts = refl
