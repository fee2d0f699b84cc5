-- What a file's commands need of the work room (decision 592): a note for each D01 and D03, a record for each TO of `.C` or `.P`, which name a
-- designator, and one for each AD.
use Rattle.std.specs.Prelude.{ℕ, ◌+◌, List, [], ◌∷◌}
use Prim.Native.String.{String}
use Rattle.text.specs.Text.{text}
use Rattle.sequence.specs.declared.Placed.{Placed}
use Rattle.attribute_call.specs.Sayings.{saying_of}
use Rattle.attribute_call.specs.declared.Kind.TheVariants as kind
use Rattle.attribute_call.specs.declared.Saying.{Saying}
use Rattle.attribute_call.specs.declared.Saying.TheVariants.{Silent, Deletes, Sets}
use Rattle.layer.specs.Made.{made_of}
use Rattle.layer.specs.declared.Made.{Made}
use Rattle.layer.specs.declared.Made.TheVariants.{Item, Aperture, File, Nothing}

unfoldable pub items_by : Made → ℕ
items_by Item = 1
items_by (Aperture n) = 0
items_by (File name value) = 0
items_by Nothing = 0

unfoldable pub apertures_by : Made → ℕ
apertures_by Item = 0
apertures_by (Aperture n) = 1
apertures_by (File name value) = 0
apertures_by Nothing = 0

unfoldable pub set_by : Saying → ℕ
set_by Silent = 0
set_by Deletes = 0
set_by (Sets place length) = 1

unfoldable pub operations_in : List Placed → ℕ
operations_in [] = 0
operations_in (c ∷ cs) = items_by (made_of c.command) + operations_in cs

unfoldable pub apertures_in : List Placed → ℕ
apertures_in [] = 0
apertures_in (c ∷ cs) = apertures_by (made_of c.command) + apertures_in cs

abbrev pub sets_of : List ℕ → Placed → String → ℕ
sets_of file c name = set_by (saying_of file kind.Object (text name) c)

unfoldable pub designators_in : List ℕ → List Placed → ℕ
designators_in file [] = 0
designators_in file (c ∷ cs) = sets_of file c ".C" + sets_of file c ".P" + designators_in file cs
