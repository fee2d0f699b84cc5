-- SR (01, Form: "`SRXnYnIdJd`, n digits alone .., d a decimal"; decisions 37, 38 and 44).
use Rattle.std.specs.Prelude.{ℕ, ◌+◌, List, [], ◌∷◌, drop}
use Rattle.base.specs.Or.{◌or◌}
use Rattle.text.specs.First.{before, after}
use Rattle.text.specs.Text.{◌is◌, ◌begins◌}
use Rattle.base.specs.Choose.{choose}
use Rattle.command.specs.Numbers.{judged, copies_of, size_of}
use Rattle.command.specs.declared.Number.{Number}
use Rattle.command.specs.declared.Size.{Size}
use Rattle.command.specs.declared.Command.{Command}
use Rattle.command.specs.declared.Command.TheVariants.{Contain}
use Rattle.command.specs.declared.Bracket.TheVariants.{RepeatStart, RepeatEnd}
use Rattle.command.specs.Flaws.{not_form}
use Rattle.command.specs.Rounded.{counted}

unfoldable pub repeats : Number → Number → Size → Size → Command
repeats nx ny dx dy =
    judged (nx.formless or ny.formless or dx.formless or dy.formless) (dx.long or dy.long)
    (Contain (RepeatStart nx.value ny.value dx.value dy.value (counted dx.rounded + counted dy.rounded)))

-- what follows `SRX`
unfoldable pub repeat_start : List ℕ → Command
repeat_start x =
    let y : List ℕ = after "Y" x in
    let i : List ℕ = after "I" y in
    let j : List ℕ = after "J" i in
    repeats (copies_of (before "Y" x)) (copies_of (before "I" y)) (size_of (before "J" i)) (size_of j)

unfoldable pub repeat_of : List ℕ → Command
repeat_of s =
    choose
    ((s is "SR", Contain RepeatEnd)
    ∷ (s begins "SRX", repeat_start (drop 3 s))
    ∷ [])
    not_form
