-- One pass over the items that finds the first at fault: 28 is known at the item after the outline, and decides before that item's own faults.
use Rattle.std.specs.Prelude.{ℕ, zero, suc, Bool, true, false, cond, not, List, eqb, pos}
use Rattle.base.specs.And.{◌and◌}
use Rattle.points.specs.Points.{pt, same_point}
use Rattle.law_components.specs.Parts.{Part, is_outline}
use Rattle.law_components.specs.Outlines.{at}
use Rattle.law_components.specs.Faults.{lacks, repeats, fault}
use Rattle.law_components.specs.declared.Fault.{Fault}
use Rattle.law_components.specs.declared.Met.{Met}
use Rattle.law_components.specs.declared.Outline.{Outline}

-- what the pass asks of an item
unfoldable pub met_of : Part → Met
met_of p = record { role = p.role; start = p.start; end = p.end; place = p.place; lacks = lacks p }

abbrev pub no_outline : Outline
no_outline = record { under = false; start = pt (pos 0) (pos 0); end = pt (pos 0) (pos 0); place = 0 }

-- the item goes on with the outline
unfoldable pub goes_on : Outline → Met → Bool
goes_on o m = o.under and (is_outline m.role and same_point o.end m.start)

-- the outline has not come back to where it began
unfoldable pub is_open : Outline → Bool
is_open o = o.under and not (same_point o.end o.start)

unfoldable pub outline_after : Outline → Met → Outline
outline_after o m =
    record { under = is_outline m.role; start = cond (goes_on o m) o.start m.start; end = m.end; place = m.place }

-- with an item more: 28 of the one before it, then 26 and 27 of its own
unfoldable pub step_fault : Outline → Met → Bool → Fault
step_fault o m again =
    cond (is_open o and not (goes_on o m)) (fault 28 o.place)
    (cond m.lacks (fault 26 m.place)
    (cond again (fault 27 m.place) (fault 0 0)))

unfoldable pub end_fault : Outline → Fault
end_fault o = cond (is_open o) (fault 28 o.place) (fault 0 0)

-- the n items from k on
unfoldable pub pass : List Part → Outline → ℕ → ℕ → Fault
pass ps o k zero = end_fault o
pass ps o k (suc n) =
    elim (eqb (step_fault o (met_of (at ps k)) (repeats ps k)).number 0) [
      | true ↦ pass ps (outline_after o (met_of (at ps k))) (suc k) n
      | false ↦ step_fault o (met_of (at ps k)) (repeats ps k)
    ]
