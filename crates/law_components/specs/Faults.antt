-- The first item at fault: "first item at fault deciding, lowest number first" (02, [4]; decisions 587 and 589).
use Rattle.std.specs.Prelude.{ℕ, zero, suc, Bool, true, false, cond, not, List, [], ◌∷◌, eqb, length, take}
use Rattle.base.specs.And.{◌and◌}
use Rattle.base.specs.Or.{◌or◌}
use Rattle.base.specs.Bytes.{same_bytes}
use Rattle.law_components.specs.Values.{is_held}
use Rattle.law_components.specs.Parts.{Part, Texts, is_main, designator}
use Rattle.law_components.specs.Outlines.{at, ends_open}
use Rattle.law_components.specs.declared.Role.{Role}
use Rattle.law_components.specs.declared.Role.TheVariants.{Main, Pin, Outline, Other}
use Rattle.law_components.specs.declared.Fault.{Fault}

-- 26: "a main or outline item has no `.C` or a pin no `.P`"
unfoldable pub lacks_as : Role → Texts → Bool
lacks_as Main t = not (is_held t.component)
lacks_as Pin t = not (is_held t.pin)
lacks_as Outline t = not (is_held t.component)
lacks_as Other t = false

unfoldable pub lacks : Part → Bool
lacks p = lacks_as p.role p.texts

-- one of these items is a main with the designator d
unfoldable pub has_main : List ℕ → List Part → Bool
has_main d [] = false
has_main d (p ∷ ps) = (is_main p.role and same_bytes (designator p) d) or has_main d ps

-- 27: "a main designator repeats", at the later main
unfoldable pub repeats : List Part → ℕ → Bool
repeats ps k = is_main (at ps k).role and has_main (designator (at ps k)) (take k ps)

-- 28: "at its last item, when an outline is not closed"
unfoldable pub fault_at : List Part → ℕ → ℕ
fault_at ps k = cond (lacks (at ps k)) 26 (cond (repeats ps k) 27 (cond (ends_open ps k) 28 0))

abbrev pub fault : ℕ → ℕ → Fault
fault number place = record { number = number; place = place }

-- of the n items from k on
unfoldable pub fault_from : List Part → ℕ → ℕ → Fault
fault_from ps k zero = fault 0 0
fault_from ps k (suc n) = elim (eqb (fault_at ps k) 0) [ true ↦ fault_from ps (suc k) n | false ↦ fault (fault_at ps k) (at ps k).place ]

unfoldable pub fault_of : List Part → Fault
fault_of ps = fault_from ps 0 (length ps)
