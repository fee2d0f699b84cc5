-- What the cases of document 01, "Either side of a line", ask, and what the definitions answer: of numbers as document 01 writes them,
-- read by the definition of a decimal; and of files, read by the definition of reading.
use Rattle.std.specs.Prelude.{ℕ, cond, List, ◌++◌, ℤ, pos, get_or, None, Option, Some, Err, Ok, Result}
use Prim.Native.String.{String}
use Rattle.book.specs.Books.{ascii}
use Rattle.points.specs.Points.{pt}
use Rattle.points.specs.declared.Point.{Point}
use Rattle.text.specs.Text.{text}
use Rattle.place.specs.Mark.{plain}
use Rattle.place.specs.declared.Item.{Item}
use Rattle.law_reading.specs.State.{Room}
use Rattle.law_reading.specs.Reading as file
use Rattle.decimal.specs.Decimal.{decimal_of}
use Rattle.reckon.specs.Rounding.{product_of, quotient_of, reckoned_refusal}
use Rattle.reckon.specs.Thermal.{thermal_fits}
use Rattle.reckon.specs.ArcCentre.{nonsense_centre}
use Rattle.digits.specs.declared.answers.NumberError.TheVariants as number_error
use Rattle.digits.specs.declared.answers.NumberError.{NumberError}
use Rattle.decimal.specs.declared.answers.Decimal.{Decimal}

-- a point is its x and its y
pub data At : Type 0 where
  at : String → String → At

pub data Question : Type 0 where
  product : String → String → Question
  quotient : String → String → Question
  -- from, to, centre
  arc : At → At → At → Question
  -- outer, inner, gap
  thermal : String → String → String → Question
  -- a file whose AD works out a macro of this one primitive: the number that it keeps at a place (the code is at 0), or whether it is
  -- accepted
  kept : String → ℕ → Question
  primitive : String → Question
  -- a file that draws this D01 from the origin, clockwise
  drawn : String → Question
  -- a file
  listing : String → Question

pub data Answer : Type 0 where
  -- a value in millionths
  value : ℤ → Answer
  accepted : Answer
  -- the items of a sheet
  lists : List Item → Answer
  -- one of document 01's numbers
  refused : ℕ → Answer
  -- a number in the question is no decimal
  unread : Answer

-- a decimal's millionths, handed on
unfoldable pub worth : Result Decimal NumberError → (ℤ → Answer) → Answer
worth (Err number_error.NotForm) f = unread
worth (Err number_error.TooLong) f = unread
worth (Ok d) f = f d.amount.millionths

unfoldable pub reading : String → (ℤ → Answer) → Answer
reading s f = worth (decimal_of (text s)) f

unfoldable pub reading_at : At → (Point → Answer) → Answer
reading_at (at x y) f = reading x (λ a. reading y (λ b. f (pt a b)))

unfoldable pub reckoned_as : Option ℤ → Answer
reckoned_as None = refused (reckoned_refusal None)
reckoned_as (Some z) = value z

-- a file's items with every repeat and nested block written out
unfoldable pub listed : file.Answer → Answer
listed (file.accepted s) = lists (plain s.marks)
listed (file.refused n place) = refused n

-- its numbers, and whether it is accepted
unfoldable pub keeping : ℕ → file.Answer → Answer
keeping i (file.accepted s) = value (get_or s.numbers i (pos 0))
keeping i (file.refused n place) = refused n

unfoldable pub judged : file.Answer → Answer
judged (file.accepted s) = accepted
judged (file.refused n place) = refused n

unfoldable pub macro_file : String → List ℕ
macro_file s = text "%FSLAX36Y36*%%MOMM*%%AMT*" ++ (text s ++ text "*%%ADD10T*%M02*")

unfoldable pub arc_file : String → List ℕ
arc_file s = text "%FSLAX36Y36*%%MOMM*%%ADD10C,1*%D10*G75*G02*X0Y0D02*" ++ (text s ++ text "M02*")

-- more room than the files need
unfoldable pub ample : Room
ample = record { entries = 100; apertures = 100; macros = 100; numbers = 100 }

-- by the definitions that the contracts cite
unfoldable pub answer : Question → Answer
answer (product s t) = reading s (λ a. reading t (λ b. reckoned_as (product_of a b)))
answer (quotient s t) = reading s (λ a. reading t (λ b. reckoned_as (quotient_of a b)))
answer (arc from to centre) = reading_at from (λ s. reading_at to (λ e. reading_at centre (λ c. cond (nonsense_centre s e c) (refused 12) accepted)))
answer (thermal outer inner gap) = reading outer (λ o. reading inner (λ i. reading gap (λ g. cond (thermal_fits o i g) accepted (refused 10))))
answer (kept s i) = keeping i (file.reading ascii ample (macro_file s))
answer (primitive s) = judged (file.reading ascii ample (macro_file s))
answer (drawn s) = judged (file.reading ascii ample (arc_file s))
answer (listing s) = listed (file.reading ascii ample (text s))
