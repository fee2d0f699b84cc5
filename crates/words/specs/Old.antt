-- Word commands of the old book (02, [9]; decisions 484 to 486): what films cuts them into, as commands.
use Rattle.std.specs.Prelude.{ℕ, List, [], ◌∷◌, eqb, drop}
use Rattle.std.proofs.Math.Seq.{slice}
use Rattle.base.specs.Choose.{pick, choose}
use Rattle.formats.specs.declared.Format.{Format}
use Rattle.films.specs.Words.{word_of}
use Rattle.films.specs.declared.Word.{Word}
use Rattle.films.specs.declared.Word.TheVariants as word
use Rattle.command.specs.declared.Command.{Command}
use Rattle.command.specs.declared.Command.TheVariants.{Note, End, Set}
use Rattle.command.specs.declared.Setting.{Setting}
use Rattle.command.specs.declared.Setting.TheVariants.{
  Linear,
  Clockwise,
  Counterclockwise,
  SingleQuadrant,
  MultiQuadrant,
  RegionStart,
  RegionEnd,
  Absolute,
  Incremental,
  CodedMillimetres,
  CodedInches,
  Halt,
}
use Rattle.command.specs.Flaws.{not_form}
use Rattle.operations.specs.Operations.{operation_in, operates, coded}
use Rattle.operations.specs.declared.Written.{Written}
use Rattle.words.specs.Newer.{select_of}

-- what a G code sets, by its number; of those that stand alone or before an operation the one left is G91
unfoldable pub setting_of : ℕ → Setting
setting_of g =
    choose
    ((eqb g 1, Linear)
    ∷ (eqb g 2, Clockwise)
    ∷ (eqb g 3, Counterclockwise)
    ∷ (eqb g 36, RegionStart)
    ∷ (eqb g 37, RegionEnd)
    ∷ (eqb g 70, CodedInches)
    ∷ (eqb g 71, CodedMillimetres)
    ∷ (eqb g 74, SingleQuadrant)
    ∷ (eqb g 75, MultiQuadrant)
    ∷ (eqb g 90, Absolute)
    ∷ [])
    Incremental

-- an operation alone, or after a G code
unfoldable pub operated : ℕ → Written → Command
operated g w = pick (eqb g 0) (operates w) (coded (setting_of g) w)

-- M00 and M01 are without effect, and no comments: in a region they are 7 (decision 500)
unfoldable pub said : Format → List ℕ → Word → Command
said f s word.NotForm = not_form
said f s word.Note = Note
said f s word.Halt = Set Halt
said f s word.End = End
said f s (word.Code g) = Set (setting_of g)
said f s (word.Select at) = select_of (drop at s)
said f s (word.Operate g number from to) = operated g (operation_in number f (slice from to s))

unfoldable pub old_word : Format → List ℕ → Command
old_word f s = said f s (word_of s)
