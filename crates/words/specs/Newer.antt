-- Word commands of the newer edition (01, What is read; decisions 18 to 28).
use Rattle.std.specs.Prelude.{ℕ, List, [], ◌∷◌, drop}
use Prim.Native.Char.{code}
use Rattle.text.specs.Text.{◌is◌, ◌begins◌, ◌ends◌, among}
use Rattle.base.specs.Choose.{pick, choose}
use Rattle.formats.specs.declared.Format.{Format}
use Rattle.command.specs.Numbers.{judged, aperture_number}
use Rattle.command.specs.declared.Number.{Number}
use Rattle.command.specs.declared.Command.{Command}
use Rattle.command.specs.declared.Command.TheVariants.{Note, End, Set, Select}
use Rattle.command.specs.declared.Setting.TheVariants.{
  Linear,
  Clockwise,
  Counterclockwise,
  MultiQuadrant,
  RegionStart,
  RegionEnd,
}
use Rattle.command.specs.Flaws.{not_form}
use Rattle.operations.specs.Operations.{operation_of}

-- G04 and a string, in which no `%` stands
unfoldable pub comment_of : List ℕ → Command
comment_of s = pick (among s (code "%")) not_form Note

-- Dn, of what stands after its D
unfoldable pub select_of : List ℕ → Command
select_of t = let n : Number = aperture_number t in judged n.formless n.long (Select n.value)

-- the codes that stand alone
unfoldable pub code_of : List ℕ → Command
code_of s =
    choose
    ((s is "G01", Set Linear)
    ∷ (s is "G02", Set Clockwise)
    ∷ (s is "G03", Set Counterclockwise)
    ∷ (s is "G75", Set MultiQuadrant)
    ∷ (s is "G36", Set RegionStart)
    ∷ (s is "G37", Set RegionEnd)
    ∷ (s is "M02", End)
    ∷ [])
    not_form

-- a word command; the format is that of FS
unfoldable pub newer_word : Format → List ℕ → Command
newer_word f s =
    choose
    ((s begins "G04", comment_of s)
    ∷ (s ends "D01", operation_of 1 f s)
    ∷ (s ends "D02", operation_of 2 f s)
    ∷ (s ends "D03", operation_of 3 f s)
    ∷ (s begins "D", select_of (drop 1 s))
    ∷ [])
    (code_of s)
