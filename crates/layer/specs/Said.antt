-- What commands say of a name: what the attributes at a command are, as the commands before it say them.
use Rattle.std.specs.Prelude.{ℕ, List, [], ◌∷◌, take, drop}
use Rattle.sequence.specs.declared.Placed.{Placed}
use Rattle.attribute_call.specs.Sayings.{saying_of}
use Rattle.attribute_call.specs.declared.Kind.{Kind}
use Rattle.attribute_call.specs.declared.Saying.{Saying}
use Rattle.attribute_call.specs.declared.Saying.TheVariants.{Silent, Deletes, Sets}
use Rattle.attribute_call.specs.Attribute.{later, held}
use Rattle.law_components.specs.Values as values
use Rattle.law_components.specs.Values.{Value}
use Rattle.law_components.specs.Parts.{Texts}
use Prim.Native.String.{String}
use Rattle.text.specs.Text.{text}
use Rattle.attribute_call.specs.declared.Kind.TheVariants as kind

-- what is said of a name, with these commands more
unfoldable pub said_in : List ℕ → Kind → List ℕ → Saying → List Placed → Saying
said_in file kind name s [] = s
said_in file kind name s (c ∷ cs) = said_in file kind name (later s (saying_of file kind name c)) cs

-- by these commands
abbrev pub said_by : List ℕ → Kind → List ℕ → List Placed → Saying
said_by file kind name cs = said_in file kind name Silent cs

-- the value that is said
unfoldable pub value_said : List ℕ → Saying → Value
value_said file Silent = values.none
value_said file Deletes = values.none
value_said file (Sets place length) = values.held (take length (drop place file))

-- the value of an object attribute, as these commands say it
abbrev pub said_object : List ℕ → List Placed → String → Value
said_object file cs name = value_said file (said_by file kind.Object (text name) cs)

-- the six texts, as these commands say them
unfoldable pub texts_by : List ℕ → List Placed → Texts
texts_by file cs =
    record {
      component = said_object file cs ".C";
      rotation = said_object file cs ".CRot";
      value = said_object file cs ".CVal";
      footprint = said_object file cs ".CFtp";
      mount = said_object file cs ".CMnt";
      pin = said_object file cs ".P";
    }
