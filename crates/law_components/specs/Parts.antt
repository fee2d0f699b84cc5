-- What an item is to the assembly bench (02, [4]; decisions 581 to 583). Where functions and texts come from is left open: `part_of` takes
-- the value of `.AperFunction` of each aperture, and the object attributes at each place.
use Rattle.std.specs.Prelude.{ℕ, Bool, true, false, cond, List, eqb, pos}
use Rattle.base.specs.And.{◌and◌}
use Rattle.base.specs.Or.{◌or◌}
use Rattle.text.specs.Text.{◌is◌}
use Rattle.points.specs.Points.{pt}
use Rattle.points.specs.declared.Point.{Point}
use Rattle.place.specs.Kind as kind
use Rattle.place.specs.declared.Item.{Item}
use Rattle.law_components.specs.Values.{Value, none, field}
use Rattle.law_components.specs.declared.Role.{Role}
use Rattle.law_components.specs.declared.Role.TheVariants.{Main, Pin, Outline, Other}

-- `.C`, `.CRot`, `.CVal`, `.CFtp`, `.CMnt` and `.P`
pub record Texts : Type 0 where
  pub component : Value
  pub rotation : Value
  pub value : Value
  pub footprint : Value
  pub mount : Value
  pub pin : Value

pub record Part : Type 0 where
  pub role : Role
  pub start : Point
  pub end : Point
  pub place : ℕ
  pub texts : Texts

-- a flash with ComponentMain, a flash with ComponentPin, a line or an arc with ComponentOutline; nothing else is any of them
unfoldable pub is_drawn : ℕ → Bool
is_drawn k = eqb k kind.line or eqb k kind.cw or eqb k kind.ccw

unfoldable pub role_of : ℕ → Value → Role
role_of k function =
    cond (eqb k kind.flash and field 0 function is "ComponentMain") Main
    (cond (eqb k kind.flash and field 0 function is "ComponentPin") Pin
    (cond (is_drawn k and field 0 function is "ComponentOutline") Outline Other))

unfoldable pub part_of : (ℕ → Value) → (ℕ → Texts) → Item → Part
part_of function_of texts_at t =
    record {
      role = role_of t.kind (function_of t.aperture);
      start = t.start;
      end = t.end;
      place = t.place;
      texts = texts_at t.place;
    }

unfoldable pub is_main : Role → Bool
is_main Main = true
is_main Pin = false
is_main Outline = false
is_main Other = false

unfoldable pub is_pin : Role → Bool
is_pin Main = false
is_pin Pin = true
is_pin Outline = false
is_pin Other = false

unfoldable pub is_outline : Role → Bool
is_outline Main = false
is_outline Pin = false
is_outline Outline = true
is_outline Other = false

-- a pin's designator is the first field of its `.P`, a main's that of its `.C`
unfoldable pub designator_as : Role → Texts → List ℕ
designator_as Main t = field 0 t.component
designator_as Pin t = field 0 t.pin
designator_as Outline t = field 0 t.component
designator_as Other t = field 0 t.component

unfoldable pub designator : Part → List ℕ
designator p = designator_as p.role p.texts

-- past the last item
abbrev pub no_texts : Texts
no_texts = record { component = none; rotation = none; value = none; footprint = none; mount = none; pin = none }

unfoldable pub nothing : Part
nothing = record { role = Other; start = pt (pos 0) (pos 0); end = pt (pos 0) (pos 0); place = 0; texts = no_texts }
