-- The changes that mend a file (02, [13]; decisions 540 to 545).
use Rattle.std.specs.Prelude.{ℕ, ◌+◌, ◌-◌, Bool, true, false, cond, List, [], ◌∷◌, eqb, ltb, length, drop, take}
use Rattle.std.proofs.Math.Seq.{slice}
use Rattle.base.specs.And.{◌and◌}
use Rattle.base.specs.Or.{◌or◌}
use Rattle.base.specs.Breaks.{is_break}
use Rattle.base.specs.Bytes.{same_bytes}
use Rattle.base.specs.Trimmed.{drop_trailing}
use Rattle.text.specs.Text.{text}
use Rattle.book.specs.declared.Book.{Book}
use Rattle.scan.specs.Permitted.{printable}
use Rattle.mending.specs.Extents.{Piece, piece, pieces, closing}

-- a change, and its place in the file
pub data Change : Type 0 where
  drop_repeat : ℕ → Change
  add_end : ℕ → Change
  drop_tail : ℕ → Change
  drop_after_end : ℕ → Change

-- these bytes first
unfoldable pub opens : List ℕ → List ℕ → Bool
opens w c = same_bytes (take (length w) c) w

-- the text of an extended command: the bytes between its two `%`, without the CR and LF after its last block
unfoldable pub text_of : List ℕ → List ℕ
text_of c = drop_trailing is_break (slice 1 (length c - 1) c)

-- the text of the first command that opens so, t being that of the first before c, empty where there is none
unfoldable pub first_of : List ℕ → List ℕ → List ℕ → List ℕ
first_of w t c = cond (eqb (length t) 0 and opens w c) (text_of c) t

-- c opens so and has the text t
unfoldable pub matches : List ℕ → List ℕ → List ℕ → Bool
matches w t c = opens w c and same_bytes (text_of c) t

-- c repeats the first FS or the first MO
unfoldable pub repeats : List ℕ → List ℕ → List ℕ → Bool
repeats fs mo c = matches (text "%FS") fs c or matches (text "%MO") mo c

-- 18 would be given: the first of these bytes that is no CR or LF is from 32 to 126
unfoldable pub follows : List ℕ → Bool
follows [] = false
follows (b ∷ s) = elim (is_break b) [ true ↦ follows s | false ↦ printable b ]

-- the changes of a file from `at` on, where these complete commands stand; fs and mo are the texts of the first FS and MO before
unfoldable pub changes_from : Book → List ℕ → List ℕ → List ℕ → ℕ → List Piece → List Change
changes_from book file fs mo at [] = add_end at ∷ cond (ltb at (length file)) (drop_tail at ∷ []) []
changes_from book file fs mo at (piece gap c ∷ ps) =
    let place : ℕ = at + length gap in
    let next : ℕ = place + length c in
    elim (closing book c) [
      | true ↦ cond (follows (drop next file)) (drop_after_end next ∷ []) []
      | false ↦ elim (repeats fs mo c) [
        | true ↦ drop_repeat place ∷ changes_from book file fs mo next ps
        | false ↦ changes_from book file (first_of (text "%FS") fs c) (first_of (text "%MO") mo c) next ps
      ]
    ]

unfoldable pub changes : Book → List ℕ → List Change
changes book file = changes_from book file [] [] 0 (pieces file)
