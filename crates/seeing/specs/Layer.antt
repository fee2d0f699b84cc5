-- A component layer as the passes over its items find it: the sheet of a file, the notes of its operations, and what its apertures are for.
use Rattle.std.specs.Prelude.{ℕ, ◌<◌, ◌≡◌, true, List, length, get_or}
use Rattle.book.specs.declared.Book.{Book}
use Rattle.place.specs.Item.{zero_item}
use Rattle.index.specs.Numbers.{Numbered}
use Rattle.sheet.specs.Containers.{top_of}
use Rattle.sheet.specs.Meaning.{sheet_items}
use Rattle.sheet.specs.Valid.{valid}
use Rattle.sheet.specs.declared.Container.{Container}
use Rattle.law_components.specs.Parts.{Part}
use Rattle.law_components.specs.Outlines.{at}
use Rattle.notes.specs.Notes.{note_of, Ordered}
use Rattle.layer.specs.Attributes.{texts_at, function_of}
use Rattle.layer.specs.Parts.{parts_of}
use Rattle.notes.specs.Functions.{function_number}
use Rattle.notes.specs.Means.{Means}
use Rattle.noting.specs.Holds.{role_number}
use Rattle.seeing.specs.declared.Seen.{Seen}

-- of this file, read by this book into this sheet; its first `used` designators have these names, and no two the same
pub record Layer (e a : List ℕ) (top : Container) (notes : List ℕ) (operations : ℕ) (roles : List ℕ) (roled : ℕ) : Type 0 where
  pub book : Book
  pub file : List ℕ
  pub head : List ℕ
  pub name : ℕ → List ℕ
  pub used : ℕ
  pub ok : valid head e a ≡ true
  pub is_top : top ≡ top_of head
  pub numbered : Numbered roles roled
  pub functions : (number : ℕ) → role_number roles roled number ≡ function_number (function_of book file number)
  pub ordered : Ordered notes operations
  pub means : (i : ℕ) → i < operations → Means file name used (note_of notes i) (texts_at book file (note_of notes i).place)
  pub there : (k : ℕ) → k < length (sheet_items head e a) → (i : ℕ) × (i < operations) × ((note_of notes i).place ≡ (get_or (sheet_items head e a) k zero_item).place)
  pub distinct : (i j : ℕ) → i < used → j < used → name i ≡ name j → i ≡ j

module _ {e a : List ℕ} {top : Container} {notes : List ℕ} {operations : ℕ} {roles : List ℕ} {roled : ℕ} where
  unfoldable pub parts : Layer e a top notes operations roles roled → List Part
  parts l = parts_of l.book l.file (sheet_items l.head e a)

  -- item k
  pub record SeenIs (l : Layer e a top notes operations roles roled) (k : ℕ) (r : Seen) : Type 0 where
    pub role : r.role ≡ (at (parts l) k).role
    pub start : r.start ≡ (at (parts l) k).start
    pub end : r.end ≡ (at (parts l) k).end
    pub place : r.place ≡ (at (parts l) k).place
    pub means : Means l.file l.name l.used r.note (at (parts l) k).texts
