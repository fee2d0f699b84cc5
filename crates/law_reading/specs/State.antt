-- What reading knows between two commands (01, State), and the room that is lent for what it leaves (01, What is read).
use Rattle.std.specs.Prelude.{ℕ, List, [], ℤ}
use Rattle.book.specs.Books.{is_old}
use Rattle.book.specs.declared.Book.{Book}
use Rattle.place.specs.Mark.{Mark}
use Rattle.graphics.specs.Graphics.{start}
use Rattle.graphics.specs.Level.{top_level}
use Rattle.graphics.specs.declared.Graphics.{Graphics}
use Rattle.graphics.specs.declared.Level.{Level}

-- records, and numbers
pub record Room : Type 0 where
  pub entries : ℕ
  pub apertures : ℕ
  pub macros : ℕ
  pub numbers : ℕ

-- an aperture: its number and kind; where the numbers that it keeps begin among all that are kept, and how many they are; a block's
-- items and height
pub record Aperture : Type 0 where
  pub number : ℕ
  pub kind : ℕ
  pub first : ℕ
  pub len : ℕ
  pub items : ℕ
  pub height : ℕ

-- a macro: its name, and the text of its blocks from the `*` before the first of them on
pub record Template : Type 0 where
  pub name : List ℕ
  pub blocks : List ℕ

-- what AB, with its number, or SR opened, and the level around it
pub data Opened : Type 0 where
  block : ℕ → Level → Opened
  repeat : Level → Opened

-- the apertures, in the order of their commands; the names that TF has set; the entries used, and the marks left
pub record State : Type 0 where
  pub graphics : Graphics
  pub level : Level
  pub opened : List Opened
  pub apertures : List Aperture
  pub macros : List Template
  pub names : List (List ℕ)
  pub numbers : List ℤ
  pub entries : ℕ
  pub marks : List Mark

unfoldable pub outermost : Level
outermost = record { inside = top_level; items = 0; height = 0; depth = 0; copies = 1; sheet = 0 }

-- at the start of a file that is read by this book
unfoldable pub begun : Book → State
begun book = record {
  graphics = start (is_old book);
  level = outermost;
  opened = [];
  apertures = [];
  macros = [];
  names = [];
  numbers = [];
  entries = 0;
  marks = [];
}
