-- The names kept in a table of records, which hold where each begins and ends in the file (docs/SHEET.md, decisions 209, 532).
use Rattle.std.specs.Prelude.{ℕ, ◌+◌, ◌/◌, ◌<◌, ◌≤◌, min, ◌≡◌, cond, List, [], length, Err, Ok, Result}
use Rattle.std.proofs.Math.Seq.{slice}
use Rattle.book.specs.declared.Book.{Book}
use Rattle.index.specs.Names.{named}
use Rattle.tables.specs.Added.{has_room, added}
use Rattle.tables.specs.Macros.{macro_words}
use Rattle.tables.specs.declared.Macro.{Macro}
use Rattle.register.specs.Wide.{half, name_width}
use Rattle.names.specs.Twice.{twice_in}
use Rattle.names.specs.declared.Noted.{Noted}
use Rattle.names.specs.declared.Pass.{Pass}
use Rattle.names.specs.declared.Noted.TheVariants.{Again, New, Full}

-- a record that says only where a name lies
abbrev pub name_at : ℕ → ℕ → Macro
name_at from to = record { from = from; to = to; first = 0; end = 0 }

-- a name that is found was set before; one that is not is new and is kept, where there is room
unfoldable pub noted : List ℕ → ℕ → Result ℕ ℕ → Noted
noted s used (Ok i) = Again
noted s used (Err link) = cond (has_room s used) (New (used + 1)) Full

unfoldable pub noted_of : List ℕ → List ℕ → ℕ → ℕ → ℕ → Noted
noted_of file s used from to = noted s used (named file s used (slice from to file))

-- the table after it
unfoldable pub kept_at : List ℕ → ℕ → ℕ → ℕ → Result ℕ ℕ → List ℕ
kept_at s used from to (Ok i) = s
kept_at s used from to (Err link) = added s used link (macro_words (name_at from to))

unfoldable pub kept_of : List ℕ → List ℕ → ℕ → ℕ → ℕ → List ℕ
kept_of file s used from to = kept_at s used from to (named file s used (slice from to file))

-- places in the file, and records of two words in the room s, have half a word
pub record Narrow (file s : List ℕ) : Type 0 where
  pub places : length file < half
  pub records : length s / name_width ≤ half

-- a walk from `from` on: the first repeat is either the TF that was found, which sets one of the names that were kept, or one from `rest`
-- on, where the first name stands that there was no room for
pub record Passed (book : Book) (file : List ℕ) (from : ℕ) (p : Pass) : Type 0 where
  pub onward : from < p.rest
  pub inside : p.rest ≤ length file
  pub least : min p.found (twice_in book file p.rest []) ≡ twice_in book file from []
