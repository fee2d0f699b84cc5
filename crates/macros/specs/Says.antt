-- What the answers say, with the numbers before (l) and after (l').
use Rattle.std.specs.Prelude.{ℕ, ◌^◌, ◌<◌, ◌≡◌, false, cond, List, eqb, ℤ, pos, nat_abs, length, None, Option, Some}
use Rattle.expression.specs.Reading.{Fits}
use Rattle.expression.specs.Value.{value_of}
use Rattle.faults.specs.Rule.{number_told}
use Rattle.primitives.specs.Asked.{none, asked}
use Rattle.macros.specs.Given.{variables_of}
use Rattle.macros.specs.Pen.{pens, laid}
use Rattle.macros.specs.Work.{Effect, blocks_in, values_of, worked_out}
use Rattle.macros.specs.declared.Done.{Done}
use Rattle.macros.specs.declared.Gathered.{Gathered}
use Rattle.macros.specs.declared.Outcome.{Outcome}
use Rattle.macros.specs.declared.Pen.{Pen}
use Rattle.decimal.specs.declared.Amount.{Amount}

-- 0 where there is none
abbrev pub worth : Option Amount → ℤ
worth None = pos 0
worth (Some a) = a.millionths

unfoldable pub reckoned_as : Option Amount → Option ℤ
reckoned_as None = None
reckoned_as (Some a) = Some a.millionths

pub record Comes (variables : List ℤ) (t : List ℕ) (w : Option Amount) : Type 0 where
  pub says : reckoned_as w ≡ value_of variables t
  pub small : nat_abs (worth w) < 10 ^ 12

pub record Gathers (variables : List ℤ) (ts : List (List ℕ)) (l l' : List ℤ) (p : Pen) (g : Gathered) : Type 0 where
  pub fine : g.fine ≡ (values_of variables ts).fine
  pub asks : g.asked ≡ asked none (values_of variables ts).values
  pub pen : g.pen ≡ pens (length l) p (values_of variables ts).values
  pub stores : l' ≡ laid l p (values_of variables ts).values

-- d is what a block's or all blocks' effect e says
pub record Does (e : Effect) (l l' : List ℤ) (p : Pen) (d : Done) : Type 0 where
  pub fault : number_told d.fault ≡ e.fault
  pub variables : d.variables.values ≡ e.variables
  pub pen : d.pen ≡ pens (length l) p e.written
  pub stores : l' ≡ laid l p e.written
  pub small : Fits e.variables

-- 17 only where no block is at fault
pub record Told (fault : ℕ) (p : Pen) (o : Outcome) : Type 0 where
  pub worked : number_told o.worked ≡ cond (eqb fault 0) (cond p.over 17 0) fault
  pub used : o.used ≡ p.at

-- the whole answer of an AD that names a macro, by the macro's blocks, parted by `*`, and the parameters' text from its comma on
pub record Answers (blocks parameters : List ℕ) (l l' : List ℤ) (used : ℕ) (o : Outcome) : Type 0 where
  pub says : Told (worked_out (variables_of parameters) (blocks_in blocks)).fault (pens (length l) (record { at = used; over = false }) (worked_out (variables_of parameters) (blocks_in blocks)).written) o
  pub stores : l' ≡ laid l (record { at = used; over = false }) (worked_out (variables_of parameters) (blocks_in blocks)).written
