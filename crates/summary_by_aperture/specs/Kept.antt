-- A row as words: five where it is answered, and a sixth before them, 1 if it has an extent, where it is kept meanwhile.
use Rattle.std.specs.Prelude.{ℕ, ◌+◌, ◌*◌, Bool, true, false, cond, List, [], ◌∷◌, eqb, pos, get_or, None, Option, Some}
use Rattle.std.specs.Int.{w64}
use Rattle.std.proofs.Common.{of_z, to_z}
use Rattle.sheet.specs.Meaning.{flag_word}
use Rattle.spans.specs.Spans.{span, rect}
use Rattle.summary_rows.specs.Rows.{row}
use Rattle.spans.specs.declared.Span.{Span}
use Rattle.spans.specs.declared.Rect.{Rect}
use Rattle.summary_rows.specs.declared.Row.{Row}

-- the words of a row, answered and kept
abbrev pub row_width : ℕ
row_width = 5

abbrev pub kept_width : ℕ
kept_width = 6

-- the words of scratch for each aperture record: a row's, and one in the list of the blocks (decisions 414, 530)
abbrev pub scratch_width : ℕ
scratch_width = 8

unfoldable pub has_points : Option Rect → Bool
has_points None = false
has_points (Some b) = true

-- where there is no point, zeros
unfoldable pub corners : Option Rect → Rect
corners None = rect (span (pos 0) (pos 0)) (span (pos 0) (pos 0))
corners (Some b) = b

-- count, least x, least y, greatest x, greatest y, coordinates in two's complement (decisions 201, 413)
unfoldable pub row_words : Row → List ℕ
row_words r =
    r.count
    ∷ of_z w64 (corners r.extent).across.low ∷ of_z w64 (corners r.extent).up.low
    ∷ of_z w64 (corners r.extent).across.high ∷ of_z w64 (corners r.extent).up.high
    ∷ []

unfoldable pub kept_words : Row → List ℕ
kept_words r = flag_word (has_points r.extent) ∷ row_words r

-- what six words keep
unfoldable pub span_of : ℕ → ℕ → Span
span_of low high = span (to_z w64 low) (to_z w64 high)

unfoldable pub extent_if : Bool → Rect → Option Rect
extent_if some b = cond some (Some b) None

unfoldable pub row_at : List ℕ → ℕ → Row
row_at s b = row
    (get_or s (b * kept_width + 1) 0)
    (extent_if (eqb (get_or s (b * kept_width) 0) 1)
    (rect (span_of (get_or s (b * kept_width + 2) 0) (get_or s (b * kept_width + 4) 0)) (span_of (get_or s (b * kept_width + 3) 0) (get_or s (b * kept_width + 5) 0))))
