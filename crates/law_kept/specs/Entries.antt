-- "One entry is used by each D01, each D03, each contour (at its first D01), each SR opening and each AB opening" (01, What is read),
-- whatever the repeats: copies take none.
use Rattle.std.specs.Prelude.{ℕ, suc, ◌+◌, List, [], ◌∷◌}
use Rattle.place.specs.Mark.{Mark, draw, contour, edge, flash, begin, finish}
use Rattle.command.specs.declared.Operation.{Operation}
use Rattle.command.specs.declared.Operation.TheVariants as operation
use Rattle.command.specs.declared.Bracket.{Bracket}
use Rattle.command.specs.declared.Bracket.TheVariants as bracket
use Rattle.command.specs.declared.Command.{Command}
use Rattle.command.specs.declared.Command.TheVariants.{Broken, Note, End, Set, Operate, Coded, Select, Define, Contain, Attribute}
use Rattle.sequence.specs.declared.Placed.{Placed}

unfoldable pub operation_entries : Operation → ℕ
operation_entries (operation.Draw x y o) = 1
operation_entries (operation.Move x y) = 0
operation_entries (operation.Flash x y) = 1

unfoldable pub bracket_entries : Bracket → ℕ
bracket_entries (bracket.BlockStart n) = 1
bracket_entries bracket.BlockEnd = 0
bracket_entries (bracket.RepeatStart nx ny dx dy rounded) = 1
bracket_entries bracket.RepeatEnd = 0

-- what a command uses, but for the contour that it may start
unfoldable pub command_entries : Command → ℕ
command_entries (Operate o) = operation_entries o
command_entries (Coded code o) = operation_entries o
command_entries (Contain b) = bracket_entries b
command_entries (Broken flaw) = 0
command_entries Note = 0
command_entries End = 0
command_entries (Set s) = 0
command_entries (Select n) = 0
command_entries (Define d) = 0
command_entries (Attribute d) = 0

unfoldable pub entries_for : List Placed → ℕ
entries_for [] = 0
entries_for (c ∷ cs) = command_entries c.command + entries_for cs

-- the contours on the sheet
unfoldable pub contours : List Mark → ℕ
contours [] = 0
contours (contour t ∷ ms) = suc (contours ms)
contours (draw t ∷ ms) = contours ms
contours (edge t ∷ ms) = contours ms
contours (flash n m place ∷ ms) = contours ms
contours (begin o ∷ ms) = contours ms
contours (finish ∷ ms) = contours ms
