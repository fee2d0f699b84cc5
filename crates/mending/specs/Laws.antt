-- What the laws of mending speak of (02, [13]; decisions 544 and 548).
use Rattle.std.specs.Prelude.{ℕ, ◌+◌, ◌-◌, ◌≡◌, Bool, true, false, not, cond, List, [], ◌∷◌, eqb, length, drop}
use Prim.Native.Char.{code}
use Rattle.std.proofs.Math.Seq.{slice}
use Rattle.base.specs.Bytes.{same_bytes}
use Rattle.scan.specs.Permitted.{printable, may_break}
use Rattle.scan.specs.declared.Kind.TheVariants.{Extended}
use Rattle.base.specs.And.{◌and◌}
use Rattle.base.specs.Or.{◌or◌}
use Rattle.text.specs.Text.{text}
use Rattle.book.specs.declared.Book.{Book}
use Rattle.mending.specs.Extents.{closing, extents}
use Rattle.mending.specs.Changes.{opens, text_of, first_of, matches, repeats, follows}

-- one of these commands is M02, which is then the last of them
unfoldable pub closed : Book → List (ℕ × List ℕ) → Bool
closed book [] = false
closed book (e ∷ es) = closing book e.1 or closed book es

-- where the last of them ends
unfoldable pub end_of : ℕ → List (ℕ × List ℕ) → ℕ
end_of at [] = at
end_of at (e ∷ es) = end_of (e.0 + length e.1) es

-- both are FS, or both MO, with one text
unfoldable pub twins : List ℕ → List ℕ → Bool
twins c d = (opens (text "%FS") c and matches (text "%FS") (text_of c) d) or (opens (text "%MO") c and matches (text "%MO") (text_of c) d)

-- the test holds of none of these commands
unfoldable pub none : (List ℕ → Bool) → List (ℕ × List ℕ) → Bool
none test [] = true
none test (e ∷ es) = not (test e.1) and none test es

unfoldable pub unrepeated : List (ℕ × List ℕ) → Bool
unrepeated [] = true
unrepeated (e ∷ es) = none (twins e.1) es and unrepeated es

-- M02 stands, no FS or MO has the text of an earlier one, and 18 would not be given
pub record Sound (book : Book) (file : List ℕ) : Type 0 where
  pub ends : closed book (extents book file) ≡ true
  pub alone : unrepeated (extents book file) ≡ true
  pub clean : follows (drop (end_of 0 (extents book file)) file) ≡ false

-- the complete commands of the mended file, from those of the file: without the repeats, the later ones moved up by the bytes
-- that are gone, and M02 at the end. `end` is where the command before ends
unfoldable pub remaining : Book → List ℕ → List ℕ → ℕ → ℕ → List (ℕ × List ℕ) → List (ℕ × List ℕ)
remaining book fs mo gone end [] = (end - gone, text "M02*") ∷ []
remaining book fs mo gone end (e ∷ es) =
    let c : List ℕ = e.1 in
    let next : ℕ = e.0 + length c in
    elim (closing book c) [
      | true ↦ (e.0 - gone, c) ∷ []
      | false ↦ elim (repeats fs mo c) [
        | true ↦ remaining book fs mo (gone + length c) next es
        | false ↦ (e.0 - gone, c) ∷ remaining book (first_of (text "%FS") fs c) (first_of (text "%MO") mo c) gone next es
      ]
    ]

-- decision 543 to the letter: the bytes without the CR and LF that may stand in an extended command, `last` being the last byte
-- before them from 32 to 126
unfoldable pub unbroken : ℕ → List ℕ → List ℕ
unbroken last [] = []
unbroken last (b ∷ s) = elim (may_break Extended last b) [ true ↦ unbroken last s | false ↦ b ∷ unbroken (cond (printable b) b last) s ]

unfoldable pub ruled_text : List ℕ → List ℕ
ruled_text c = unbroken 0 (slice 1 (length c - 1) c)

-- one block, as FS and MO are: the one `*` ends it
unfoldable pub one_block : List ℕ → Bool
one_block [] = false
one_block (b ∷ s) = elim (eqb b (code "*")) [ true ↦ same_bytes s [] | false ↦ one_block s ]
