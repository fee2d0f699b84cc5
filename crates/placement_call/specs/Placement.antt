-- What the call for a placement list answers, and what it leaves (02, [4]; decisions 580 to 591): over the plain expansion of the file and the
-- attributes at each item's place, whatever the order in which the code looks.
use Rattle.std.specs.Prelude.{ℕ, ◌/◌, ◌≡◌, Bool, List, [], ltb, length, Result}
use Rattle.base.specs.Or.{◌or◌}
use Rattle.book.specs.declared.Book.{Book}
use Rattle.sequence.specs.Commands.{commands_of}
use Rattle.sequence.specs.Rounded.{rounded_in}
use Rattle.sequence.specs.declared.Placed.{Placed}
use Rattle.place.specs.Mark.{plain}
use Rattle.index.specs.Tree.{record_width}
use Rattle.law_components.specs.Parts.{Part}
use Rattle.law_components.specs.Faults.{fault}
use Rattle.law_components.specs.Answer.{is_short, refusal_of, output_of}
use Rattle.law_components.specs.Chain.{link_width}
use Rattle.law_components.specs.declared.Fault.{Fault}
use Rattle.notes.specs.Notes.{note_width}
use Rattle.layer.specs.Attributes.{is_component}
use Rattle.layer.specs.Parts.{parts_of}
use Rattle.layer.specs.Work.{operations_in, apertures_in, designators_in}
use Rattle.mending.specs.Mended.{written}
use Rattle.law_reading.specs.State.{State}
use Rattle.law_reading.specs.Reading as reading
use Rattle.progress.specs.Lent.{Lent, room_of}
use Rattle.reader.specs.Reads.{Reads}
use Rattle.placement_list.specs.declared.Answer.{Answer}
use Rattle.reader.specs.declared.Accepted.{Accepted}
use Rattle.sequence.specs.declared.Refusal.{Refusal}

-- the work room that is lent, in words: for the notes of D01 and D03, for designators, for apertures, and for the pins of mains
pub record Work : Type 0 where
  pub notes : ℕ
  pub names : ℕ
  pub roles : ℕ
  pub pins : ℕ

abbrev pub work_of : List ℕ → List ℕ → List ℕ → List ℕ → Work
work_of notes names roles pins = record { notes = length notes; names = length names; roles = length roles; pins = length pins }

-- short of so many notes, designators that are set, and apertures
unfoldable pub is_tight_for : ℕ → ℕ → ℕ → ℕ → ℕ → ℕ → Bool
is_tight_for notes names roles operations settings apertures =
    ltb (notes / note_width) operations or (ltb (names / record_width) settings or ltb (roles / record_width) apertures)

unfoldable pub is_tight : Book → List ℕ → Work → Bool
is_tight book file w =
    let cs : List Placed = (commands_of book file).commands in
    is_tight_for w.notes w.names w.roles (operations_in cs) (designators_in file cs) (apertures_in cs)

-- "The list is over plain expanded items"
unfoldable pub parts_in : Book → List ℕ → State → List Part
parts_in book file s = parts_of book file (plain s.marks)

-- "Refusals, after a reading is accepted"; room is that of the output
unfoldable pub refusal_in : Book → List ℕ → Work → ℕ → State → Fault
refusal_in book file w room s =
    refusal_of (is_component book file) (is_short (is_tight book file w) (w.pins / link_width) (parts_in book file s)) room (parts_in book file s)

-- the reading's own numbers and places first; number 0 is no refusal
unfoldable pub refusal_for : Book → List ℕ → Work → ℕ → reading.Answer → Fault
refusal_for book file w room (reading.accepted s) = refusal_in book file w room s
refusal_for book file w room (reading.refused number place) = fault number place

-- the bytes of the list, none where it is refused
unfoldable pub list_for : Book → List ℕ → Work → ℕ → reading.Answer → List ℕ
list_for book file w room (reading.accepted s) = output_of (refusal_in book file w room s) (parts_in book file s)
list_for book file w room (reading.refused number place) = []

-- l is what is lent for the sheet, l' and head what it is at the end; out is the output
pub record Places (book : Book) (l l' : Lent) (head : List ℕ) (w : Work) (room : ℕ) (out : List ℕ) (r : Answer) : Type 0 where
  pub number : r.number ≡ (refusal_for book l.file w room (reading.reading book (room_of l) l.file)).number
  pub place : r.place ≡ (refusal_for book l.file w room (reading.reading book (room_of l) l.file)).place
  pub bytes : r.bytes ≡ length (list_for book l.file w room (reading.reading book (room_of l) l.file))
  -- the whole list, and zeros after: "Each zeroes the output"
  pub output : out ≡ written room (list_for book l.file w room (reading.reading book (room_of l) l.file))
  -- the sheet's words are as a reading leaves them
  pub answer : Result Accepted Refusal
  pub stores : Reads (rounded_in book l.file) (reading.reading book (room_of l) l.file) l l' head answer
