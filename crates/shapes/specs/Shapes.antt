-- What an aperture exposes, by its record: a standard template's parameters, a macro's primitives, or a block (docs/SHEET.md; decisions 563 to 565).
use Rattle.std.specs.Prelude.{ℕ, ◌+◌, Bool, false, List, [], ◌∷◌, eqb, leb, ltb, ℤ, length, get_or, Option, Some, None, Err, Ok, Result}
use Rattle.base.specs.And.{◌and◌}
use Rattle.base.specs.Choose.{pick, choose}
use Rattle.sheet.specs.Records.{aperture_room, aperture_of}
use Rattle.sheet.specs.Containers.{mark_of, unit_of, apertures_used}
use Rattle.sheet.specs.Valid.{sheet_mark}
use Rattle.sheet.specs.declared.Aperture.{Aperture}
use Rattle.shapes.specs.Links.{led}
use Rattle.shapes.specs.Primitives.{primitives_in, counted_as}
use Rattle.shapes.specs.declared.Shape.{Shape}
use Rattle.shapes.specs.declared.LookupError.TheVariants as lookup_error
use Rattle.shapes.specs.declared.LookupError.{LookupError}

abbrev pub numbers_used : List ℕ → ℕ
numbers_used head = get_or head 5 0

-- the conditions of 21 that a lookup asks of the head: its mark and its unit, and that the apertures and numbers used are there
unfoldable pub ok_store : List ℕ → List ℕ → List ℤ → Bool
ok_store head a n =
    eqb (mark_of head) sheet_mark and (leb 1 (unit_of head) and leb (unit_of head) 2)
    and (leb (apertures_used head) (aperture_room a) and leb (numbers_used head) (length n))

-- as many parameters as a standard template has, a hole's diameter among them
unfoldable pub template_fits : ℕ → ℕ → Bool
template_fits kind len =
    choose
    ((eqb kind 1, leb 1 len and leb len 2)
    ∷ (eqb kind 2, leb 2 len and leb len 3)
    ∷ (eqb kind 3, leb 2 len and leb len 3)
    ∷ (eqb kind 4, leb 2 len and leb len 4)
    ∷ [])
    false

abbrev pub shape : Aperture → ℕ → ℕ → ℕ → Result Shape LookupError
shape r first count primitives = Ok (record { number = r.number; kind = r.kind; first = first; count = count; primitives = primitives })

-- a macro's: its numbers are whole primitives
unfoldable pub judged_macro : Aperture → Option ℕ → Result Shape LookupError
judged_macro r (Some k) = shape r r.first r.len k
judged_macro r None = Err lookup_error.NotSheet

unfoldable pub judged_template : Aperture → Result Shape LookupError
judged_template r = pick (template_fits r.kind r.len) (shape r r.first r.len 0) (Err lookup_error.NotSheet)

-- a record, where so many numbers are used: a block; one that is open, whose number "is taken, but selecting it is 8"; else its numbers are
-- among them, and those of a macro or of a template
unfoldable pub judged : ℕ → List ℤ → Aperture → Result Shape LookupError
judged used n r =
    choose
    ((eqb r.kind 6, shape r 0 0 0)
    ∷ (eqb r.kind 0, Err lookup_error.Unknown)
    ∷ (ltb used (r.first + r.len), Err lookup_error.NotSheet)
    ∷ (eqb r.kind 5, judged_macro r (counted_as (primitives_in n r.first (r.first + r.len))))
    ∷ [])
    (judged_template r)

-- where the links lead
unfoldable pub found_by : List ℕ → List ℕ → List ℤ → Result ℕ LookupError → Result Shape LookupError
found_by head a n (Ok i) = judged (numbers_used head) n (aperture_of a i)
found_by head a n (Err lookup_error.Unknown) = Err lookup_error.Unknown
found_by head a n (Err lookup_error.NotSheet) = Err lookup_error.NotSheet

-- the aperture with a number
unfoldable pub lookup_of : List ℕ → List ℕ → List ℤ → ℕ → Result Shape LookupError
lookup_of head a n number = pick (ok_store head a n) (found_by head a n (led a (apertures_used head) number)) (Err lookup_error.NotSheet)

-- the aperture of record b
unfoldable pub record_of : List ℕ → List ℕ → List ℤ → ℕ → Result Shape LookupError
record_of head a n b =
    pick (ok_store head a n) (pick (ltb b (apertures_used head)) (judged (numbers_used head) n (aperture_of a b)) (Err lookup_error.Unknown)) (Err lookup_error.NotSheet)

-- document 01's numbers, and the aperture, zeros without one
unfoldable pub lookup_number : Result Shape LookupError → ℕ
lookup_number (Ok s) = 0
lookup_number (Err lookup_error.Unknown) = 8
lookup_number (Err lookup_error.NotSheet) = 21

unfoldable pub zero_shape : Shape
zero_shape = record { number = 0; kind = 0; first = 0; count = 0; primitives = 0 }

unfoldable pub lookup_shape : Result Shape LookupError → Shape
lookup_shape (Ok s) = s
lookup_shape (Err lookup_error.Unknown) = zero_shape
lookup_shape (Err lookup_error.NotSheet) = zero_shape
