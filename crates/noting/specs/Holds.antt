-- What the pass over a file's commands leaves: its counts, and, where there is room for all, a note of each D01 and D03 with the texts at its
-- place, and what each aperture is for.
use Rattle.std.specs.Prelude.{ℕ, ◌+◌, ◌*◌, ◌/◌, ◌≤◌, ◌<◌, ◌≡◌, List, ◌∷◌, length, get_or, Err, Ok, Result}
use Rattle.book.specs.declared.Book.{Book}
use Rattle.sequence.specs.Commands.{commands_of}
use Rattle.sequence.specs.declared.Placed.{Placed}
use Rattle.index.specs.Tree.{record_width}
use Rattle.index.specs.Names.{name_of}
use Rattle.index.specs.Numbers.{numbered, Numbered}
use Rattle.notes.specs.Notes.{note_room, note_of, Ordered}
use Rattle.layer.specs.Made.{made_of}
use Rattle.layer.specs.Attributes.{texts_at, function_of, is_component}
use Rattle.layer.specs.Work.{operations_in, apertures_in, designators_in}
use Rattle.layer.specs.declared.Made.TheVariants.{Item}
use Rattle.notes.specs.Designators.{Designators}
use Rattle.notes.specs.Functions.{function_number}
use Rattle.notes.specs.Means.{Means}
use Rattle.noting.specs.declared.Noting.{Noting}

-- a D01 or D03 begins at a place
pub data Makes (place : ℕ) : List Placed → Type 0 where
  here : {c : Placed} {cs : List Placed} → made_of c.command ≡ Item → c.place ≡ place → Makes place (c ∷ cs)
  there : {c : Placed} {cs : List Placed} → Makes place cs → Makes place (c ∷ cs)

-- what the table says that an aperture is for
unfoldable pub word_at : List ℕ → Result ℕ ℕ → ℕ
word_at s (Ok i) = get_or s (i * record_width + 1) 0
word_at s (Err link) = 0

unfoldable pub role_number : List ℕ → ℕ → ℕ → ℕ
role_number s used n = word_at s (numbered s used n)

pub record Holds (book : Book) (file notes names roles : List ℕ) (n : Noting) : Type 0 where
  pub table : Designators file names n.names
  pub ordered : Ordered notes n.operations
  pub means : (i : ℕ) → i < n.operations → Means file (name_of file names) n.names (note_of notes i) (texts_at book file (note_of notes i).place)
  pub all : (place : ℕ) → Makes place (commands_of book file).commands → (i : ℕ) × (i < n.operations) × ((note_of notes i).place ≡ place)
  pub numbered : Numbered roles n.roles
  pub functions : (number : ℕ) → role_number roles n.roles number ≡ function_number (function_of book file number)

-- room for all
pub record Roomy (notes names roles : List ℕ) (n : Noting) : Type 0 where
  pub operations : n.operations ≤ note_room notes
  pub settings : n.settings ≤ length names / record_width
  pub apertures : n.apertures ≤ length roles / record_width

pub record Noted (book : Book) (file notes names roles : List ℕ) (n : Noting) : Type 0 where
  pub operations : n.operations ≡ operations_in (commands_of book file).commands
  pub settings : n.settings ≡ designators_in file (commands_of book file).commands
  pub apertures : n.apertures ≡ apertures_in (commands_of book file).commands
  pub component : n.component ≡ is_component book file
  pub holds : Roomy notes names roles n → Holds book file notes names roles n
