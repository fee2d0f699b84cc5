-- How the commands of a file end: with a sheet to be finished, or at a fault; or the reading asks where a name is set twice.
use Rattle.faults.specs.Rule.{number_of_rule}
use Rattle.faults.specs.declared.Rule.{Rule}
use Rattle.running.specs.Units.{unit_in}
use Rattle.book.specs.Books.{is_old}
use Rattle.formats.specs.Format.{no_format}
use Rattle.std.specs.Prelude.{ℕ, suc, ◌≤◌, ◌≡◌, true, false, List, eqb, pos, length, replicate, Err, Ok, Result, None, Option, Some}
use Rattle.book.specs.declared.Book.{Book}
use Rattle.sequence.specs.Commands.{Sequence, commands_from}
use Rattle.sequence.specs.Rounded.{rounded_among}
use Rattle.sequence.specs.declared.Refusal.{Refusal}
use Rattle.graphics.specs.Graphics as graphics
use Rattle.command_rules.specs.Rules.{end_fault}
use Rattle.law_reading.specs.State.{State, begun}
use Rattle.law_reading.specs.Reading.{Answer, accepted, refused, read_on}
use Rattle.progress.specs.Lent.{Lent, room_of}
use Rattle.progress.specs.Knows.{Knows}
use Rattle.progress.specs.declared.Progress.{Progress}
use Rattle.names.specs.Twice.{twice_at}
use Rattle.running.specs.declared.Finished.{Finished}

-- nothing is read yet
unfoldable pub start : Book → Progress
start book = record {
  graphics = graphics.start (is_old book);
  builder = record { closed = 0; high = 0; start = 0; height = 10; items = 0 };
  contour = 0;
  depth = 0;
  copies = 1;
  sheet = 0;
  apertures = 0;
  macros = 0;
  numbers = 0;
}

-- every room is zeros
pub record Empty (w : Lent) : Type 0 where
  pub entries : w.entries ≡ replicate (length w.entries) 0
  pub apertures : w.apertures ≡ replicate (length w.apertures) 0
  pub macros : w.macros ≡ replicate (length w.macros) 0
  pub numbers : w.numbers ≡ replicate (length w.numbers) (pos 0)

-- the rooms are as long as before
pub record AsLong (w w' : Lent) : Type 0 where
  pub entries_long : length w'.entries ≡ length w.entries
  pub apertures_long : length w'.apertures ≡ length w.apertures
  pub macros_long : length w'.macros ≡ length w.macros
  pub numbers_long : length w'.numbers ≡ length w.numbers

-- the commands of a file that is not too long
abbrev pub walked : Book → List ℕ → Sequence
walked book file = commands_from book (suc (length file)) no_format file 0

-- its outcome in the rooms that are lent
unfoldable pub answer_of : Book → Lent → Answer
answer_of book w = read_on (room_of w) w.file (walked book w.file).commands (walked book w.file).fault (begun book)

-- at M02: its outcome, then what follows it; so many decimals were rounded
unfoldable pub settled : Result Progress Rule → ℕ → Refusal → ℕ → Result Finished Refusal
settled (Err rule) place f rounded = Err (record { number = number_of_rule rule; place = place })
settled (Ok p) place f rounded = elim (eqb f.number 0) [ true ↦ Ok (record { progress = p; rounded = rounded }) | false ↦ Err f ]

-- the answer is a sheet, of which all is known; M02's rules are kept, the unit is 1 or 2, and so many decimals were rounded
pub record Sheeted (book : Book) (answer : Answer) (w : Lent) (p : Progress) (rounded : ℕ) : Type 0 where
  pub state : State
  pub is : answer ≡ accepted state
  pub knows : Knows w p state
  pub kept : end_fault state.graphics state.level ≡ 0
  pub unit : unit_in state.graphics.header ≤ 2
  pub counted : rounded ≡ rounded_among (walked book w.file).commands

unfoldable pub Ends : Book → Answer → Lent → Result Finished Refusal → Type 0
Ends book answer w (Ok x) = Sheeted book answer w x.progress x.rounded
Ends book answer w (Err f) = answer ≡ refused f.number f.place

-- the place, where it was looked for
unfoldable pub Looked : Book → List ℕ → Option ℕ → Type 0
Looked book file None = Unit
Looked book file (Some place) = place ≡ twice_at book file

-- a run over the commands ends as they do, or asks for that place where it was not looked for
unfoldable pub Comes : Book → Answer → Lent → Option ℕ → Option (Result Finished Refusal) → Type 0
Comes book answer w r (Some x) = Ends book answer w x
Comes book answer w r None = r ≡ None
