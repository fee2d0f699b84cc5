-- What every recognised command keeps, for whoever computes with its numbers and cuts its spans out of the file (01, Form).
use Rattle.std.specs.Prelude.{ℕ, ◌^◌, ◌≤◌, ◌<◌, ◌≡◌, true, List, nat_abs, length, None, Option, Some, ℤ}
use Rattle.points.specs.Points.{Within}
use Rattle.formats.specs.Format.{is_format}
use Rattle.decimal.specs.declared.answers.Amount.{Amount}
use Rattle.command.specs.declared.Span.{Span}
use Rattle.command.specs.declared.Setting.{Setting}
use Rattle.command.specs.declared.Setting.TheVariants as setting
use Rattle.command.specs.declared.Operation.{Operation}
use Rattle.command.specs.declared.Operation.TheVariants as operation
use Rattle.command.specs.declared.Definition.{Definition}
use Rattle.command.specs.declared.Definition.TheVariants as definition
use Rattle.command.specs.declared.Bracket.{Bracket}
use Rattle.command.specs.declared.Bracket.TheVariants as bracket
use Rattle.command.specs.declared.Deed.{Deed}
use Rattle.command.specs.declared.Deed.TheVariants as deed
use Rattle.command.specs.declared.Command.{Command}
use Rattle.command.specs.declared.Command.TheVariants.{Broken, Note, End, Set, Operate, Coded, Select, Define, Contain, Attribute}
use Rattle.operation_tests.specs.Fits.{offset_of}
use Rattle.command.specs.declared.Offset.{Offset}

-- "1 to n+6 digits as written (12 before FS)", in the old edition n+m: twelve digits at most
abbrev pub AxisWithin : Option ℤ → Type 0
AxisWithin None = Unit
AxisWithin (Some v) = nat_abs v ≤ 10 ^ 12

-- where an operation goes to
pub record Goes (x y : Option ℤ) : Type 0 where
  pub across : AxisWithin x
  pub up : AxisWithin y

-- D01, with its I and J
pub record Draws (x y : Option ℤ) (o : Option Offset) : Type 0 where
  pub goes : Goes x y
  pub centre : Within (10 ^ 12) (offset_of o)

-- aperture numbers
pub record Numbered (n : ℕ) : Type 0 where
  pub least : 10 ≤ n
  pub most : n ≤ 2147483647

-- a span of the text
pub record Lies (text : List ℕ) (s : Span) : Type 0 where
  pub ordered : s.from ≤ s.to
  pub inside : s.to ≤ length text

-- AD
pub record Defines (text : List ℕ) (n : ℕ) (name parameters : Span) : Type 0 where
  pub number : Numbered n
  pub named : Lies text name
  pub given : Lies text parameters

-- AM: the blocks end no sooner than the name
pub record Models (text : List ℕ) (name blocks : Span) : Type 0 where
  pub ordered : name.from ≤ name.to
  pub behind : name.to ≤ blocks.to
  pub inside : blocks.to ≤ length text

-- SR
pub record Repeats (nx ny : ℕ) (dx dy : Amount) : Type 0 where
  pub columns : nx ≤ 10 ^ 12
  pub rows : ny ≤ 10 ^ 12
  pub across : nat_abs dx.millionths ≤ 10 ^ 12
  pub up : nat_abs dy.millionths ≤ 10 ^ 12

-- FS, LR and LS
unfoldable pub SettingBounded : Setting → Type 0
SettingBounded (setting.Format f) = is_format f ≡ true
SettingBounded (setting.Rotation a rounded) = nat_abs a.millionths < 10 ^ 12
SettingBounded (setting.Scale a rounded) = nat_abs a.millionths < 10 ^ 12
SettingBounded setting.Linear = Unit
SettingBounded setting.Clockwise = Unit
SettingBounded setting.Counterclockwise = Unit
SettingBounded setting.SingleQuadrant = Unit
SettingBounded setting.MultiQuadrant = Unit
SettingBounded setting.RegionStart = Unit
SettingBounded setting.RegionEnd = Unit
SettingBounded setting.Absolute = Unit
SettingBounded setting.Incremental = Unit
SettingBounded setting.Millimetres = Unit
SettingBounded setting.Inches = Unit
SettingBounded setting.CodedMillimetres = Unit
SettingBounded setting.CodedInches = Unit
SettingBounded setting.Halt = Unit
SettingBounded setting.Dark = Unit
SettingBounded setting.Clear = Unit
SettingBounded (setting.Mirror x y) = Unit

-- D01, D02 and D03
unfoldable pub OperationBounded : Operation → Type 0
OperationBounded (operation.Draw x y o) = Draws x y o
OperationBounded (operation.Move x y) = Goes x y
OperationBounded (operation.Flash x y) = Goes x y

-- AD and AM
unfoldable pub DefinitionBounded : List ℕ → Definition → Type 0
DefinitionBounded text (definition.Aperture n name parameters rounded) = Defines text n name parameters
DefinitionBounded text (definition.Macro name blocks deep rounded) = Models text name blocks

-- AB and SR
unfoldable pub BracketBounded : Bracket → Type 0
BracketBounded (bracket.BlockStart n) = Numbered n
BracketBounded bracket.BlockEnd = Unit
BracketBounded (bracket.RepeatStart nx ny dx dy rounded) = Repeats nx ny dx dy
BracketBounded bracket.RepeatEnd = Unit

-- TF, TA, TO and TD
unfoldable pub DeedBounded : List ℕ → Deed → Type 0
DeedBounded text (deed.SetFile name value) = Lies text name
DeedBounded text (deed.SetAperture name value) = Unit
DeedBounded text (deed.SetObject name value) = Unit
DeedBounded text (deed.Delete name) = Unit
DeedBounded text deed.DeleteAll = Unit

-- a command with this text
unfoldable pub Bounded : List ℕ → Command → Type 0
Bounded text (Broken flaw) = Unit
Bounded text Note = Unit
Bounded text End = Unit
Bounded text (Set s) = SettingBounded s
Bounded text (Operate o) = OperationBounded o
Bounded text (Coded code o) = SettingBounded code × OperationBounded o
Bounded text (Select n) = Numbered n
Bounded text (Define d) = DefinitionBounded text d
Bounded text (Contain b) = BracketBounded b
Bounded text (Attribute d) = DeedBounded text d
