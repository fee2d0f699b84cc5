-- The primitives of an aperture as words (docs/SHEET.md), and a run of them in a lent slice.
use Rattle.std.specs.Prelude.{ℕ, ◌+◌, ◌/◌, ◌%◌, ◌≤◌, ◌≡◌, true, cond, List, [], ◌∷◌, ◌++◌, eqb, ltb, ℤ, length, get_or, replicate, Err, Ok, Result, ⊤}
use Rattle.base.specs.Run.{run}
use Rattle.shapes.specs.Primitives.{primitives_in}
use Rattle.shapes.specs.Shapes.{lookup_of}
use Rattle.shapes.specs.declared.Primitive.{Primitive}
use Rattle.shapes.specs.declared.LookupError.TheVariants as lookup_error
use Rattle.shapes.specs.declared.Shape.{Shape}
use Rattle.shapes.specs.declared.LookupError.{LookupError}
use Rattle.shapes.specs.declared.FetchError.TheVariants as fetch_error
use Rattle.shapes.specs.declared.FetchError.{FetchError}

-- numbers from a place up to an end that are whole primitives
pub record Whole (n : List ℤ) (at end : ℕ) : Type 0 where
  pub ordered : at ≤ end
  pub inside : end ≤ length n
  pub whole : (primitives_in n at end).whole ≡ true

-- a macro's aperture has primitives, and no other has
unfoldable pub primitives_by : List ℤ → Result Shape LookupError → List Primitive
primitives_by n (Ok s) = cond (eqb s.kind 5) (primitives_in n s.first (s.first + s.count)).list []
primitives_by n (Err lookup_error.Unknown) = []
primitives_by n (Err lookup_error.NotSheet) = []

abbrev pub primitive_width : ℕ
primitive_width = 3

unfoldable pub primitive_words : Primitive → List ℕ
primitive_words p = p.code ∷ p.first ∷ p.count ∷ []

unfoldable pub zero_primitive : Primitive
zero_primitive = record { code = 0; first = 0; count = 0 }

-- primitive i, zeros past the last
unfoldable pub slot : List Primitive → ℕ → List ℕ
slot ps i = primitive_words (get_or ps i zero_primitive)

-- primitives k, k + 1, .. in as many slots as the words have room for; words past the last whole slot are 0
unfoldable pub slots : List Primitive → ℕ → ℕ → List ℕ
slots ps k words = run (slot ps) k (words / primitive_width) ++ replicate (words % primitive_width) 0

-- 21, then 8, then 20
unfoldable pub fetch_by : List ℤ → ℕ → Result Shape LookupError → Result ⊤ FetchError
fetch_by n i (Ok s) = cond (ltb i (length (primitives_by n (Ok s)))) (Ok _) (Err fetch_error.Past)
fetch_by n i (Err lookup_error.Unknown) = Err fetch_error.Unknown
fetch_by n i (Err lookup_error.NotSheet) = Err fetch_error.NotSheet

unfoldable pub fetch_of : List ℕ → List ℕ → List ℤ → ℕ → ℕ → Result ⊤ FetchError
fetch_of head a n number i = fetch_by n i (lookup_of head a n number)

-- document 01's numbers
unfoldable pub fetch_number : Result ⊤ FetchError → ℕ
fetch_number (Ok _) = 0
fetch_number (Err fetch_error.Past) = 20
fetch_number (Err fetch_error.Unknown) = 8
fetch_number (Err fetch_error.NotSheet) = 21

-- what the lent words hold afterwards: where there is no aperture, or no macro's, there are no primitives
unfoldable pub fetched : List ℕ → List ℕ → List ℤ → ℕ → ℕ → ℕ → List ℕ
fetched head a n number i words = slots (primitives_by n (lookup_of head a n number)) i words
