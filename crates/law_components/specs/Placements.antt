-- The placement list: "per ComponentMain flash .., then its pins .., in file order" (02, [4]; decision 586).
use Rattle.std.specs.Prelude.{ℕ, cond, List, [], ◌∷◌, ◌++◌}
use Rattle.base.specs.Bytes.{same_bytes}
use Rattle.law_components.specs.Parts.{Part, designator}
use Rattle.law_components.specs.Records.{main_record, pin_record}
use Rattle.law_components.specs.declared.Role.{Role}
use Rattle.law_components.specs.declared.Role.TheVariants.{Main, Pin, Outline, Other}

-- what each of these items puts out, one after the other
unfoldable pub each : (Part → List ℕ) → List Part → List ℕ
each f [] = []
each f (p ∷ ps) = f p ++ each f ps

-- a pin's record, where the pin has the designator d
unfoldable pub pin_as : Role → List ℕ → Part → List ℕ
pin_as Main d p = []
pin_as Pin d p = cond (same_bytes (designator p) d) (pin_record p) []
pin_as Outline d p = []
pin_as Other d p = []

unfoldable pub pin_for : List ℕ → Part → List ℕ
pin_for d p = pin_as p.role d p

-- a main's record and its pins', wherever these stand among all items
unfoldable pub entry_as : Role → List Part → Part → List ℕ
entry_as Main all p = main_record p ++ each (pin_for (designator p)) all
entry_as Pin all p = []
entry_as Outline all p = []
entry_as Other all p = []

unfoldable pub entry_for : List Part → Part → List ℕ
entry_for all p = entry_as p.role all p

-- a pin whose designator has no main is in no entry
unfoldable pub list_of : List Part → List ℕ
list_of ps = each (entry_for ps) ps
