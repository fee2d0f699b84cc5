-- D01, D02 and D03: no field is as large as 10 ^ 12, in any format.
-- Assumes nothing.
use Rattle.std.specs.Prelude.{None, Some, Err, Ok, Result, ℤ}
use Prim.Native.Nat.{ℕ, ◌+◌, ◌^◌, ◌≤◌}
use mathlib.Core.Path.{◌≡◌, refl}
use mathlib.Core.Bool.{Bool, true, false, cond}
use mathlib.Core.List.{List}
use native.Mathlib.Omega.{arith}
use lib.Dec.{eqb}
use lib.IntN.{nat_abs}
use lib.ListN.{get_or}
use Rattle.points.specs.Points.{Within}
use Rattle.digits.specs.Sign.{is_sign}
use Rattle.digits.specs.declared.answers.Taken.{Taken}
use Rattle.formats.specs.Values.{coordinate_in, taken_in}
use Rattle.formats.specs.declared.Format.{Format}
use Rattle.formats.proofs.Laws.{coordinate_small}
use Rattle.operations.specs.Coordinates.{given, missing, field_at, fields_in}
use Rattle.operations.specs.Operations.{axis_of, offset_of as offset_in, draw, without_offset, move, flash, operation_in}
use Rattle.operations.specs.declared.Field.{Field}
use Rattle.operations.specs.declared.Fields.{Fields}
use Rattle.operations.specs.declared.TakenField.{TakenField}
use Rattle.operations.specs.declared.Written.{Written}
use Rattle.graphics.specs.Graphics.{origin}
use Rattle.operation_tests.specs.Fits.{offset_of}
use Rattle.law_bounds.specs.Bounded.{AxisWithin, Goes, OperationBounded}
use Rattle.digits.specs.declared.answers.NumberError.TheVariants as number_error
use Rattle.digits.specs.declared.answers.NumberError.{NumberError}

-- a field's value, which is 0 without one
record Near (f : Field) : Type 0 where
  near : nat_abs f.value ≤ 10 ^ 12

record AllNear (f : Fields) : Type 0 where
  x : Near f.x
  y : Near f.y
  i : Near f.i
  j : Near f.j

module _ (f : Format) where
  given_near : (sign : Bool) (t : List ℕ) → Near (given sign (coordinate_in f t))
  unfolding given
  given_near sign t = go (coordinate_in f t) refl
    where
      go : (c : Result ℤ NumberError) → coordinate_in f t ≡ c → Near (given sign c)
      go (Err number_error.NotForm) e = record { near = omega arith }
      go (Err number_error.TooLong) e = record { near = omega arith }
      go (Ok v) e = record { near = omega (arith, coordinate_small f t v e) }

  field_near : (letter : ℕ) (s : List ℕ) (at : ℕ) → Near (field_at f letter s at).field
  unfolding field_at taken_in missing
  field_near letter s at = go (eqb (get_or s at 0) letter)
    where
      taken : Taken
      taken = taken_in f s (at + 1)

      go : (t : Bool) → Near (cond {A = TakenField} t (record { field = given (is_sign (get_or s (at + 1) 0)) taken.coordinate; next = taken.next }) (record { field = missing; next = at })).field
      go true = given_near _ _
      go false = record { near = omega arith }

  fields_near : (s : List ℕ) → AllNear (fields_in f s)
  unfolding fields_in
  fields_near s = record { x = field_near _ _ _; y = field_near _ _ _; i = field_near _ _ _; j = field_near _ _ _ }

axis_within : (f : Field) → Near f → AxisWithin (axis_of f)
unfolding axis_of
axis_within f h = go f.given
  where
    go : (t : Bool) → AxisWithin (cond t (Some f.value) None)
    go true = h.near
    go false = tt

goes : (f : Fields) → AllNear f → Goes (axis_of f.x) (axis_of f.y)
goes f h = record { across = axis_within f.x h.x; up = axis_within f.y h.y }

offset_within : (f : Fields) → AllNear f → Within (10 ^ 12) (offset_of (offset_in f))
unfolding offset_of offset_in origin
offset_within f h = go f.i.given refl
  where
    go : (t : Bool) → f.i.given ≡ t → Within (10 ^ 12) (offset_of (offset_in f))
    go true e = rw e (record { across = h.i.near; up = h.j.near })
    go false e = rw e (record { across = omega arith; up = omega arith })

-- whatever its number
pub written_bounded : (number : ℕ) (f : Format) (s : List ℕ) → OperationBounded (operation_in number f s).operation
unfolding operation_in draw move flash without_offset OperationBounded
written_bounded number f s = go (eqb number 1) (eqb number 2)
  where
    c : Fields
    c = fields_in f s

    go : (one two : Bool) → OperationBounded (cond {A = Written} one (draw c) (cond two (move c) (flash c))).operation
    go true two = record { goes = goes c (fields_near f s); centre = offset_within c (fields_near f s) }
    go false true = goes c (fields_near f s)
    go false false = goes c (fields_near f s)
