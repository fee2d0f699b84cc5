-- The records by what is seen of an item: its texts by where they lie in the file, a main's designator by its record.
use Rattle.std.specs.Prelude.{ℕ, List}
use Rattle.std.proofs.Math.Seq.{slice}
use Rattle.command.specs.declared.Span.{Span}
use Rattle.law_components.specs.Parts.{Part}
use Rattle.law_components.specs.Outlines.{at}
use Rattle.law_components.specs.Records.{main_row, pin_row, pin_record}
use Rattle.law_components.specs.Numbers.{by_number}
use Rattle.seeing.specs.declared.Seen.{Seen}
use Rattle.passes.specs.Words.{word_of}

abbrev pub text_in : List ℕ → Span → List ℕ
text_in file p = slice p.from p.to file

unfoldable pub pin_by : List ℕ → Seen → List ℕ
pin_by file s = pin_row (text_in file s.note.number) s.end

unfoldable pub main_by : List ℕ → List ℕ → ℕ → Seen → List ℕ
main_by file names d s =
    main_row (slice (word_of names d 0) (word_of names d 1) file) s.end
    (text_in file s.note.rotation) (text_in file s.note.value) (text_in file s.note.footprint) (text_in file s.note.mount)

-- the records of the items with these numbers
abbrev pub pins_at : List Part → List ℕ → List ℕ
pins_at ps ks = by_number (λ k. pin_record (at ps k)) ks
