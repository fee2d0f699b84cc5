-- D01, D02 and D03 (01, Form: "X and Y optional, each in that order; for D01 only, I and J together after them"; decisions 27 and 43).
use Rattle.std.specs.Prelude.{ℕ, ◌-◌, Bool, cond, not, List, [], ◌∷◌, eqb, length, take, None, Option, Some, ℤ}
use Rattle.base.specs.Or.{◌or◌}
use Rattle.points.specs.Points.{pt}
use Rattle.text.specs.Text.{◌ends◌}
use Rattle.base.specs.Choose.{choose}
use Rattle.formats.specs.declared.Format.{Format}
use Rattle.command.specs.Numbers.{judged}
use Rattle.command.specs.declared.Setting.{Setting}
use Rattle.command.specs.declared.Operation.{Operation}
use Rattle.command.specs.declared.Operation.TheVariants.{Draw, Move, Flash}
use Rattle.command.specs.declared.Command.{Command}
use Rattle.command.specs.declared.Command.TheVariants.{Operate, Coded}
use Rattle.operations.specs.Coordinates.{fields_in}
use Rattle.operations.specs.declared.Field.{Field}
use Rattle.operations.specs.declared.Fields.{Fields}
use Rattle.operations.specs.declared.Written.{Written}
use Rattle.command.specs.declared.Offset.{Offset}

-- a coordinate that is none, or bytes left after them
unfoldable pub broken : Fields → Bool
broken f = f.left or f.x.formless or f.y.formless or f.i.formless or f.j.formless

unfoldable pub too_long : Fields → Bool
too_long f = f.x.long or f.y.long or f.i.long or f.j.long

-- one of I and J without the other
unfoldable pub alone : Fields → Bool
alone f = cond f.i.given (not f.j.given) f.j.given

unfoldable pub axis_of : Field → Option ℤ
axis_of f = cond f.given (Some f.value) None

-- I and J, and whether one of them has a sign
unfoldable pub offset_of : Fields → Option Offset
offset_of f = cond f.i.given (Some (record { offset = pt f.i.value f.j.value; signed = f.i.signed or f.j.signed })) None

-- D01
unfoldable pub draw : Fields → Written
draw f = record { formless = broken f or alone f; long = too_long f; operation = Draw (axis_of f.x) (axis_of f.y) (offset_of f) }

-- D02 and D03, which have no I and J
unfoldable pub without_offset : Fields → Operation → Written
without_offset f o = record { formless = broken f or f.i.given or f.j.given; long = too_long f; operation = o }

unfoldable pub move : Fields → Written
move f = without_offset f (Move (axis_of f.x) (axis_of f.y))

unfoldable pub flash : Fields → Written
flash f = without_offset f (Flash (axis_of f.x) (axis_of f.y))

-- the operation of a number, 1 for D01, of its coordinates alone
unfoldable pub operation_in : ℕ → Format → List ℕ → Written
operation_in number format s =
    let f : Fields = fields_in format s in
    cond (eqb number 1) (draw f) (cond (eqb number 2) (move f) (flash f))

-- an operation with no code before it; what is not of its form is 4, and too many digits are 5
unfoldable pub operates : Written → Command
operates w = judged w.formless w.long (Operate w.operation)

-- one after a G code of the old book
unfoldable pub coded : Setting → Written → Command
coded g w = judged w.formless w.long (Coded g w.operation)

-- the coordinates of an operation whose code has three bytes
unfoldable pub uncoded : List ℕ → List ℕ
uncoded s = take (length s - 3) s

-- the number of the operation that a text ends in, 0 where it ends in none
unfoldable pub operation_code : List ℕ → ℕ
operation_code s = choose ((s ends "D01", 1) ∷ (s ends "D02", 2) ∷ (s ends "D03", 3) ∷ []) 0

-- the operation of such a number
unfoldable pub operation_of : ℕ → Format → List ℕ → Command
operation_of number format s = operates (operation_in number format (uncoded s))
