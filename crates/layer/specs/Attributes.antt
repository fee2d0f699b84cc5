-- The attributes that a placement list asks of a file (02, [4]; decisions 580 to 583): the object attributes at the place of an item, the
-- `.AperFunction` of an aperture, and the layer's `.FileFunction`.
use Rattle.std.specs.Prelude.{ℕ, Bool, true, false, cond, List, [], ◌∷◌, eqb, take, drop}
use Prim.Native.String.{String}
use Rattle.std.proofs.Math.Seq.{slice}
use Rattle.base.specs.And.{◌and◌}
use Rattle.base.specs.Or.{◌or◌}
use Rattle.book.specs.declared.Book.{Book}
use Rattle.text.specs.Text.{text, ◌is◌}
use Rattle.sequence.specs.Commands.{commands_of}
use Rattle.sequence.specs.declared.Placed.{Placed}
use Rattle.attribute_call.specs.Sayings.{text_of, named, saying_of}
use Rattle.attribute_call.specs.declared.Kind.TheVariants as kind
use Rattle.attribute_call.specs.declared.Saying.{Saying}
use Rattle.attribute_call.specs.declared.Saying.TheVariants.{Silent}
use Rattle.attribute_call.specs.Attribute.{later, held, attribute_of}
use Rattle.attribute_call.specs.declared.Answer.{Answer}
use Rattle.law_components.specs.Values as values
use Rattle.law_components.specs.Values.{Value, field}
use Rattle.law_components.specs.Parts.{Texts}
use Rattle.layer.specs.Made.{made_of}
use Rattle.layer.specs.declared.Made.{Made}
use Rattle.layer.specs.declared.Made.TheVariants.{Item, Aperture, File, Nothing}

-- the bytes that an answer of the attribute call names; a refusal is a name that is not held
unfoldable pub value_of : List ℕ → Answer → Value
value_of file r = cond (eqb r.number 0) (values.held (take r.length (drop r.place file))) values.none

-- "Object attributes of an item: those at its place" (decision 582)
unfoldable pub object_at : Book → List ℕ → ℕ → String → Value
object_at book file place name = value_of file (attribute_of book file kind.Object place (text name))

unfoldable pub texts_at : Book → List ℕ → ℕ → Texts
texts_at book file place =
    record {
      component = object_at book file place ".C";
      rotation = object_at book file place ".CRot";
      value = object_at book file place ".CVal";
      footprint = object_at book file place ".CFtp";
      mount = object_at book file place ".CMnt";
      pin = object_at book file place ".P";
    }

-- the AD of the aperture with this number
unfoldable pub is_aperture_as : ℕ → Made → Bool
is_aperture_as n Item = false
is_aperture_as n (Aperture m) = eqb n m
is_aperture_as n (File name value) = false
is_aperture_as n Nothing = false

-- "the TA held at its AD": s is what was said of `.AperFunction` before these commands; the first AD with the number decides
unfoldable pub function_in : List ℕ → ℕ → Saying → List Placed → Value
function_in file n s [] = values.none
function_in file n s (c ∷ cs) =
    elim (is_aperture_as n (made_of c.command)) [
      | true ↦ value_of file (held s)
      | false ↦ function_in file n (later s (saying_of file kind.Aperture (text ".AperFunction") c)) cs
    ]

unfoldable pub function_of : Book → List ℕ → ℕ → Value
function_of book file n = function_in file n Silent (commands_of book file).commands

-- a TF that says that the layer is a component layer: "the first field of the TF's value is Component" (decision 580)
unfoldable pub declares_as : List ℕ → Made → Bool
declares_as t Item = false
declares_as t (Aperture n) = false
declares_as t (File name value) = named t name (text ".FileFunction") and field 0 (values.held (slice value.from value.to t)) is "Component"
declares_as t Nothing = false

unfoldable pub is_component_in : List ℕ → List Placed → Bool
is_component_in file [] = false
is_component_in file (c ∷ cs) = declares_as (text_of file c) (made_of c.command) or is_component_in file cs

unfoldable pub is_component : Book → List ℕ → Bool
is_component book file = is_component_in file (commands_of book file).commands
