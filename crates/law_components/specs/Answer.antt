-- What the call answers of an accepted file (02, [4], Refusals; decisions 580, 589 to 591).
use Rattle.std.specs.Prelude.{ℕ, ◌+◌, Bool, cond, not, List, [], ◌∷◌, eqb, ltb, length}
use Rattle.base.specs.And.{◌and◌}
use Rattle.base.specs.Or.{◌or◌}
use Rattle.law_components.specs.Parts.{Part, is_pin, designator}
use Rattle.law_components.specs.Placements.{list_of}
use Rattle.law_components.specs.Faults.{has_main, fault, fault_of}
use Rattle.law_components.specs.declared.Fault.{Fault}

-- how many of these pins the list of all has: those of a main
unfoldable pub listed_among : List Part → List Part → ℕ
listed_among all [] = 0
listed_among all (p ∷ ps) = cond (is_pin p.role and has_main (designator p) all) 1 0 + listed_among all ps

abbrev pub listed_pins : List Part → ℕ
listed_pins ps = listed_among ps ps

unfoldable pub is_sound : List Part → Bool
is_sound ps = eqb (fault_of ps).number 0

-- the work room is short: for the notes of the file's commands, or for the pins that are listed; where an item is at fault none is
unfoldable pub is_short : Bool → ℕ → List Part → Bool
is_short notes pins ps = notes or (is_sound ps and ltb pins (listed_pins ps))

-- 34; 17 for work room; the first item at fault; 17 for the output
unfoldable pub refusal_of : Bool → Bool → ℕ → List Part → Fault
refusal_of component short room ps =
    cond (not component) (fault 34 0)
    (cond short (fault 17 0)
    (cond (not (is_sound ps)) (fault_of ps)
    (cond (ltb room (length (list_of ps))) (fault 17 0) (fault 0 0))))

-- "Each zeroes the output"
unfoldable pub output_of : Fault → List Part → List ℕ
output_of f ps = cond (eqb f.number 0) (list_of ps) []
