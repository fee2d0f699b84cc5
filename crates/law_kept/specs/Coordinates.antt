-- Every coordinate is exact: from the digits of an operation's text to the points of what it leaves (01, Form, State and Items; 02, [9]).
use Rattle.std.specs.Prelude.{ℕ, ◌+◌, ◌-◌, ◌≡◌, Bool, true, false, cond, List, [], ◌∷◌, ◌++◌, eqb, ℤ, ◌+ℤ◌, length, get_or, Ok}
use Prim.Native.Char.{code}
use Rattle.std.proofs.Math.Seq.{slice}
use Rattle.base.specs.And.{◌and◌}
use Rattle.points.specs.declared.Point.{Point}
use Rattle.text.specs.Text.{byte}
use Rattle.digits.specs.Digits.{past_digits}
use Rattle.book.specs.Books.{is_old}
use Rattle.book.specs.declared.Book.{Book}
use Rattle.formats.specs.Values.{taken_in}
use Rattle.formats.specs.declared.Format.{Format}
use Rattle.films.specs.Codes.{operation_length}
use Rattle.place.specs.Mark.{Mark, draw, contour, edge, flash, begin, finish}
use Rattle.command.specs.declared.Operation.{Operation}
use Rattle.command.specs.declared.Operation.TheVariants as operation
use Rattle.sequence.specs.declared.Placed.{Placed}
use Rattle.law_reading.specs.State.{Room, State}
use Rattle.law_reading.specs.Reading.{step_at}

-- along one axis: the value that the sign and digits after the letter at a place have in a format, which in incremental notation is
-- added to the current one; "a missing X or Y keeps the current one"
pub data Says (f : Format) (incremental : Bool) (letter : ℕ) (s : List ℕ) (at : ℕ) (old : ℤ) : ℤ → ℕ → Type 0 where
  digits : {v : ℤ} → eqb (get_or s at 0) letter ≡ true → (taken_in f s (at + 1)).coordinate ≡ Ok v →
      Says f incremental letter s at old (cond incremental (old +ℤ v) v) (taken_in f s (at + 1)).next
  missing : eqb (get_or s at 0) letter ≡ false → Says f incremental letter s at old old at

-- X first, then Y, from one point to another
pub record Goes (f : Format) (incremental : Bool) (s : List ℕ) (old new : Point) : Type 0 where
  pub between : ℕ
  pub last : ℕ
  pub across : Says f incremental (code "X") s 0 old.x new.x between
  pub up : Says f incremental (code "Y") s between old.y new.y last

-- where the coordinates stand in the text of an operation: after the G code that the old book may have before them, up to the D code
unfoldable pub first_coordinate : Book → List ℕ → ℕ
first_coordinate book t = cond (is_old book and byte "G" (get_or t 0 0)) (past_digits t 1) 0

unfoldable pub operation_at : Book → List ℕ → ℕ
operation_at book t = length t - cond (is_old book) (operation_length t) 3

abbrev pub coordinates_in : Book → List ℕ → List ℕ
coordinates_in book t = slice (first_coordinate book t) (operation_at book t) t

-- a D01 leaves a line, an arc or an edge from the one point to the other, and the contour that it starts begins at the one
unfoldable pub Draws : Point → Point → List Mark → Type 0
Draws old new [] = Unit
Draws old new (draw t ∷ ms) = (t.start ≡ old) × (t.end ≡ new) × Draws old new ms
Draws old new (edge t ∷ ms) = (t.start ≡ old) × (t.end ≡ new) × Draws old new ms
Draws old new (contour t ∷ ms) = (t.start ≡ old) × Draws old new ms
Draws old new (flash n m place ∷ ms) = ⊥
Draws old new (begin o ∷ ms) = ⊥
Draws old new (finish ∷ ms) = ⊥

-- a D03 leaves a flash at the point, or flashes a block there
unfoldable pub Flashes : Point → List Mark → Type 0
Flashes new [] = Unit
Flashes new (draw t ∷ ms) = (t.end ≡ new) × Flashes new ms
Flashes new (flash n m place ∷ ms) = (m.at ≡ new) × Flashes new ms
Flashes new (edge t ∷ ms) = ⊥
Flashes new (contour t ∷ ms) = ⊥
Flashes new (begin o ∷ ms) = ⊥
Flashes new (finish ∷ ms) = ⊥

-- D02 leaves nothing
unfoldable pub Puts : Operation → Point → Point → List Mark → Type 0
Puts (operation.Draw x y o) old new ms = Draws old new ms
Puts (operation.Move x y) old new ms = ms ≡ []
Puts (operation.Flash x y) old new ms = Flashes new ms

-- an operation of a command that is reached in a state s, and done in a state u, which is s, or stands after the code before the
-- operation: its coordinates, in the format of FS and the notation that is set, say where it goes from the current point, what it leaves
-- lies there, and the current point is there after it
pub record Exact (book : Book) (room : Room) (file : List ℕ) (c : Placed) (o : Operation) (s u : State) : Type 0 where
  pub point : Point
  pub goes : Goes s.graphics.header.format u.graphics.incremental (coordinates_in book (slice c.from c.end file)) s.graphics.point.at point
  pub marks : List Mark
  pub left : (step_at room file c s).next.marks ≡ s.marks ++ marks
  pub lies : Puts o s.graphics.point.at point marks
  pub stays : (step_at room file c s).next.graphics.point.at ≡ point
