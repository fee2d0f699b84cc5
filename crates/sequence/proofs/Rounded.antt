-- A worked example, by computation: a macro's rounded decimal is counted at its AM, once, however many AD use the macro (02, [1]).
-- Assumes nothing.
use Prim.Native.Nat.{ℕ}
use mathlib.Core.Path.{◌≡◌, refl}
use mathlib.Core.Bool.{false}
use mathlib.Core.List.{List, [], ◌∷◌}
use Rattle.command.specs.Span.{span}
use Rattle.command.specs.Rounded.{rounded_in_definition, rounded_of}
use Rattle.command.specs.declared.Command.{Command}
use Rattle.command.specs.declared.Command.TheVariants.{Define}
use Rattle.command.specs.declared.Definition.TheVariants.{Aperture, Macro}
use Rattle.sequence.specs.Rounded.{rounded_among}
use Rattle.sequence.specs.declared.Placed.{Placed}

abbrev at : ℕ → Command → Placed
at place c = record { place = place; from = place; end = place; command = c }

-- an AM with one rounded decimal, an AD before it, and two AD of its macro: none of the three has a decimal
abbrev commands : List Placed
commands =
    at 0 (Define (Aperture 12 (span 5 6) (span 6 6) 0))
    ∷ at 10 (Define (Macro (span 2 3) (span 4 24) false 1))
    ∷ at 40 (Define (Aperture 10 (span 5 6) (span 6 6) 0))
    ∷ at 50 (Define (Aperture 11 (span 5 6) (span 6 6) 0))
    ∷ []

counted_once : rounded_among commands ≡ 1
unfolding rounded_among rounded_of rounded_in_definition
counted_once = refl
