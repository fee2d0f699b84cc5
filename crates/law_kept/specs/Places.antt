-- "a refusal by number with the byte where it stands": "Unless said, the place is the first byte of the command (`%` for an extended one)"
-- (01, Numbers the reader answers).
use Rattle.std.specs.Prelude.{ℕ, ◌<◌, ◌≡◌, true, false, List, length, get_or}
use Rattle.book.specs.declared.Book.{Book}
use Rattle.scan.specs.Permitted.{printable}
use Rattle.scan.specs.Scan.{next_command}
use Rattle.scan.specs.declared.Kind.{Kind}
use Rattle.scan.specs.declared.Scan.TheVariants as scan

-- the places from which a command is looked for: the start of the file, and after each command
pub data Looked (book : Book) (file : List ℕ) : ℕ → Type 0 where
  start : Looked book file 0
  behind : {at : ℕ} {kind : Kind} {place from end next : ℕ} → Looked book file at → next_command book file at ≡ scan.Command kind place from end next → Looked book file next

-- a command begins with the byte at this place
pub record FirstByte (book : Book) (file : List ℕ) (place : ℕ) : Type 0 where
  pub at : ℕ
  pub looked : Looked book file at
  pub kind : Kind
  pub from : ℕ
  pub end : ℕ
  pub next : ℕ
  pub found : next_command book file at ≡ scan.Command kind place from end next
  pub inside : place < length file

-- where a refusal stands, by its number: 1 at the start, 3 at the end, 2 and 18 at the byte itself, every other at its command
pub record Stands (book : Book) (file : List ℕ) (number place : ℕ) : Type 0 where
  pub one : number ≡ 1 → place ≡ 0
  pub two : number ≡ 2 → (place < length file) × (printable (get_or file place 0) ≡ false)
  pub three : number ≡ 3 → place ≡ length file
  pub eighteen : number ≡ 18 → (place < length file) × (printable (get_or file place 0) ≡ true)
  pub command : (number ≡ 1 → ⊥) → (number ≡ 2 → ⊥) → (number ≡ 3 → ⊥) → (number ≡ 18 → ⊥) → FirstByte book file place
