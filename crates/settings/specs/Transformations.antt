-- LP, LM, LR and LS (01, Form; decisions 39 and 46).
use Rattle.std.specs.Prelude.{ℕ, true, false, List, [], ◌∷◌, drop}
use Rattle.text.specs.Text.{◌is◌, ◌begins◌}
use Rattle.base.specs.Choose.{choose}
use Rattle.command.specs.Numbers.{judged, size_of}
use Rattle.command.specs.declared.Size.{Size}
use Rattle.command.specs.declared.Command.{Command}
use Rattle.command.specs.declared.Command.TheVariants.{Set}
use Rattle.command.specs.declared.Setting.TheVariants.{Dark, Clear, Mirror, Rotation, Scale}
use Rattle.command.specs.Flaws.{not_form}
use Rattle.command.specs.Rounded.{counted}

unfoldable pub rotation_of : List ℕ → Command
rotation_of s = let d : Size = size_of (drop 2 s) in judged d.formless d.long (Set (Rotation d.value (counted d.rounded)))

unfoldable pub scale_of : List ℕ → Command
scale_of s = let d : Size = size_of (drop 2 s) in judged d.formless d.long (Set (Scale d.value (counted d.rounded)))

unfoldable pub mirror_of : List ℕ → Command
mirror_of s =
    choose
    ((s is "LMN", Set (Mirror false false))
    ∷ (s is "LMX", Set (Mirror true false))
    ∷ (s is "LMY", Set (Mirror false true))
    ∷ (s is "LMXY", Set (Mirror true true))
    ∷ [])
    not_form

unfoldable pub transformation_of : List ℕ → Command
transformation_of s =
    choose
    ((s is "LPD", Set Dark)
    ∷ (s is "LPC", Set Clear)
    ∷ (s begins "LM", mirror_of s)
    ∷ (s begins "LR", rotation_of s)
    ∷ (s begins "LS", scale_of s)
    ∷ [])
    not_form
