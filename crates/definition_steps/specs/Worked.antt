-- What the working out of an AD answers, with the numbers before (l) and after (l') it; they are used up to `used`.
use Rattle.std.specs.Prelude.{Err, ℕ, ◌≡◌, Bool, true, false, cond, List, ℤ, length}
use Rattle.base.specs.Or.{◌or◌}
use Rattle.primitives.specs.Asked.{none, asked}
use Rattle.macros.specs.Pen.{pens, laid}
use Rattle.macros.specs.Says.{Told}
use Rattle.faults.specs.declared.Rule.TheVariants.{UnknownOrTaken}
use Rattle.macros.specs.declared.Outcome.{Outcome}
use Rattle.templates.specs.Templates.{keeps}
use Rattle.law_reading.specs.Apertures as reading
use Rattle.law_reading.specs.Apertures.{values_of, is_standard, is_among, names_of, outcome_of}
use Rattle.law_reading.specs.State.{Template}
use Rattle.progress.specs.Tables.{MacroTable}

-- the outcome of the parameters of a standard template, from their comma on
unfoldable pub standard_of : ℕ → List ℕ → reading.Outcome
standard_of kind s = record { fault = cond (keeps kind (asked none (values_of s))) 0 10; kept = values_of s }

-- its fault, or 17 where there is no room for the numbers that it keeps; as many of them are written as there is room for
pub record Comes (e : reading.Outcome) (l l' : List ℤ) (used : ℕ) (o : Outcome) : Type 0 where
  pub says : Told e.fault (pens (length l) (record { at = used; over = false }) e.kept) o
  pub stores : l' ≡ laid l (record { at = used; over = false }) e.kept

-- 8 where the template is not known
unfoldable pub Works : Bool → reading.Outcome → List ℤ → List ℤ → ℕ → Outcome → Type 0
Works true e l l' used o = Comes e l l' used o
Works false e l l' used o = o ≡ record { worked = Err UnknownOrTaken; used = used }

-- by whatever macros reading knows by the table: s are the parameters of an AD that names its template so, from their comma on
abbrev pub WorksOut : List ℕ → List ℕ → ℕ → List ℕ → List ℕ → List ℤ → List ℤ → ℕ → Outcome → Type 0
WorksOut file m known name s l l' used o =
    (ms : List Template) → MacroTable file m known ms → Works (is_standard name or is_among name (names_of ms)) (outcome_of name s ms) l l' used o
