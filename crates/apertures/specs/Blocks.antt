-- AB (01, Form).
use Rattle.std.specs.Prelude.{ℕ, List, [], ◌∷◌, drop}
use Rattle.text.specs.Text.{◌is◌, ◌begins◌}
use Rattle.base.specs.Choose.{choose}
use Rattle.command.specs.Numbers.{judged, aperture_number}
use Rattle.command.specs.declared.Number.{Number}
use Rattle.command.specs.declared.Command.{Command}
use Rattle.command.specs.declared.Command.TheVariants.{Contain}
use Rattle.command.specs.declared.Bracket.TheVariants.{BlockStart, BlockEnd}
use Rattle.command.specs.Flaws.{not_form}

unfoldable pub block_start : List ℕ → Command
block_start t = let n : Number = aperture_number t in judged n.formless n.long (Contain (BlockStart n.value))

unfoldable pub block_of : List ℕ → Command
block_of s =
    choose
    ((s is "AB", Contain BlockEnd)
    ∷ (s begins "ABD", block_start (drop 3 s))
    ∷ [])
    not_form
