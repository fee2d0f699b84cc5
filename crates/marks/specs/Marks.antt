-- What each command leaves on the sheet: its marks, in order (01, What is read and Items).
use Rattle.std.specs.Prelude.{ℕ, cond, List, [], ◌∷◌, nat_abs, Option, ℤ}
use Rattle.decimal.specs.declared.answers.Amount.{Amount}
use Rattle.place.specs.Mark as mark
use Rattle.place.specs.Mark.{Mark}
use Rattle.place.specs.declared.Repeat.{Repeat}
use Rattle.command.specs.declared.Operation.{Operation}
use Rattle.command.specs.declared.Operation.TheVariants as operation
use Rattle.command.specs.declared.Bracket.{Bracket}
use Rattle.command.specs.declared.Bracket.TheVariants as bracket
use Rattle.command.specs.declared.Command.{Command}
use Rattle.command.specs.declared.Command.TheVariants.{Broken, Note, End, Set, Operate, Coded, Select, Define, Contain, Attribute}
use Rattle.graphics.specs.declared.Graphics.{Graphics}
use Rattle.changes.specs.After.{target, starts_contour, after_setting}
use Rattle.marks.specs.Items.{drawn, edge, contour, flashed, pose}
use Rattle.command.specs.declared.Offset.{Offset}

-- D01 draws an item; in a region it gives a contour an edge, and begins the contour where none is open
unfoldable pub draw_marks : Graphics → Option ℤ → Option ℤ → Option Offset → ℕ → List Mark
draw_marks g x y o place =
    cond g.region.on
    (cond (starts_contour g.region)
    (mark.contour (contour g place) ∷ mark.edge (edge g (target g x y) o place) ∷ [])
    (mark.edge (edge g (target g x y) o place) ∷ []))
    (mark.draw (drawn g (target g x y) o place) ∷ [])

-- D03 draws a flash, or flashes a block
unfoldable pub flash_marks : Graphics → Option ℤ → Option ℤ → ℕ → List Mark
flash_marks g x y place =
    cond g.aperture.block
    (mark.flash g.aperture.number (pose g (target g x y)) place ∷ [])
    (mark.draw (flashed g (target g x y) place) ∷ [])

unfoldable pub repeat_of : ℕ → ℕ → Amount → Amount → Repeat
repeat_of nx ny dx dy = record { nx = nx; ny = ny; dx = nat_abs dx.millionths; dy = nat_abs dy.millionths }

-- D02 leaves nothing
unfoldable pub operation_marks : Operation → Graphics → ℕ → List Mark
operation_marks (operation.Draw x y o) g place = draw_marks g x y o place
operation_marks (operation.Move x y) g place = []
operation_marks (operation.Flash x y) g place = flash_marks g x y place

-- AB and SR begin and finish
unfoldable pub bracket_marks : Bracket → List Mark
bracket_marks (bracket.BlockStart n) = mark.begin (mark.block n) ∷ []
bracket_marks bracket.BlockEnd = mark.finish ∷ []
bracket_marks (bracket.RepeatStart nx ny dx dy rounded) = mark.begin (mark.repeat (repeat_of nx ny dx dy)) ∷ []
bracket_marks bracket.RepeatEnd = mark.finish ∷ []

-- every other command leaves nothing
unfoldable pub marks_of : Command → Graphics → ℕ → List Mark
marks_of (Operate o) g place = operation_marks o g place
-- in the state after the code
marks_of (Coded code o) g place = operation_marks o (after_setting code g) place
marks_of (Contain b) g place = bracket_marks b
marks_of (Broken flaw) g place = []
marks_of Note g place = []
marks_of End g place = []
marks_of (Set s) g place = []
marks_of (Select n) g place = []
marks_of (Define d) g place = []
marks_of (Attribute d) g place = []
