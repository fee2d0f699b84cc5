-- The reading of a file: "Commands are taken in file order and the first at fault decides" (01, Numbers the reader answers).
use Rattle.std.specs.Prelude.{ℕ, true, false, List, [], ◌∷◌, eqb}
use Rattle.std.proofs.Math.Seq.{slice}
use Rattle.book.specs.declared.Book.{Book}
use Rattle.sequence.specs.Commands.{commands_of}
use Rattle.sequence.specs.declared.Placed.{Placed}
use Rattle.sequence.specs.declared.Refusal.{Refusal}
use Rattle.law_reading.specs.State.{Room, State, begun}
use Rattle.law_reading.specs.Steps.{Step, step_of}

-- a sheet, by what reading knows at M02; or a refusal by number, with the byte where it stands
pub data Answer : Type 0 where
  accepted : State → Answer
  refused : ℕ → ℕ → Answer

-- what a command of the file does
abbrev pub step_at : Room → List ℕ → Placed → State → Step
step_at room file c s = step_of room (slice c.from c.end file) c.place c.command s

-- the commands from here on, and the fault of the bytes after the last of them, 0 for none
unfoldable pub read_on : Room → List ℕ → List Placed → Refusal → State → Answer
read_on room file [] f s = elim (eqb f.number 0) [ true ↦ accepted s | false ↦ refused f.number f.place ]
read_on room file (c ∷ cs) f s =
    elim (eqb (step_at room file c s).fault 0) [
      | true ↦ read_on room file cs f (step_at room file c s).next
      | false ↦ refused (step_at room file c s).fault c.place
    ]

unfoldable pub reading : Book → Room → List ℕ → Answer
reading book room file = read_on room file (commands_of book file).commands (commands_of book file).fault (begun book)
