-- The numbers of the rules: none is 0, so that a fault is told from none.
-- Assumes nothing.
use Rattle.std.specs.Prelude.{cond, Result, Ok, Err, ⊤}
use Prim.Native.Nat.{ℕ, ◌≤◌}
use mathlib.Core.Path.{◌≡◌, refl, sym, ap}
use mathlib.Core.Bool.{Bool, true, false, false≢true}
use Rattle.std.specs.Result.{is_err}
use native.Mathlib.Omega.{arith}
use lib.Dec.{eqb}
use borrow.Author.Tests.{eqb-true, ne_eqb}
use Rattle.base.specs.Choose.{pick}
use Rattle.faults.specs.Order.{tested_before, sooner}
use Rattle.faults.specs.Rule.{number_of_rule, number_told, first_of}
use Rattle.faults.specs.declared.Rule.{Rule}
use Rattle.faults.specs.declared.Rule.TheVariants.{
  NotOfForm,
  OutOfRange,
  Header,
  Misplaced,
  UnknownOrTaken,
  Undefined,
  Parameter,
  Misfit,
  BadCentre,
  Unclosed,
  Askew,
  TooDeep,
  TooMany,
  NoRoom,
  NameTwice,
  Moveless,
  Unread,
  Centreless,
}

pub above_none : (r : Rule) → 1 ≤ number_of_rule r
unfolding number_of_rule
above_none NotOfForm = omega arith
above_none OutOfRange = omega arith
above_none Header = omega arith
above_none Misplaced = omega arith
above_none UnknownOrTaken = omega arith
above_none Undefined = omega arith
above_none Parameter = omega arith
above_none Misfit = omega arith
above_none BadCentre = omega arith
above_none Unclosed = omega arith
above_none Askew = omega arith
above_none TooDeep = omega arith
above_none TooMany = omega arith
above_none NoRoom = omega arith
above_none NameTwice = omega arith
above_none Moveless = omega arith
above_none Unread = omega arith
above_none Centreless = omega arith

pub some_rule : (r : Rule) → number_of_rule r ≡ 0 → ⊥
some_rule r e = let l = above_none r in omega arith

-- what a result tells, by what it is
pub broken : {t : Result ⊤ Rule} {r : Rule} → t ≡ Err r → number_of_rule r ≡ number_told t
unfolding number_told
broken e = sym (ap number_told e)

pub kept : {t : Result ⊤ Rule} {u : ⊤} → t ≡ Ok u → number_told t ≡ 0
unfolding number_told
kept e = ap number_told e

-- the same by the test whether it is an error
pub fine_told : (t : Result ⊤ Rule) → is_err t ≡ false → number_told t ≡ 0
unfolding number_told
fine_told (Ok _) e = refl
fine_told (Err r) e = absurd (false≢true (sym e))

pub err_told : (t : Result ⊤ Rule) → is_err t ≡ true → number_told t ≡ 0 → ⊥
unfolding number_told
err_told (Ok _) e z = false≢true e
err_told (Err r) e z = some_rule r z

-- the first of two, by numbers
first_is : (a b : Rule) → number_of_rule (first_of (Err a) b) ≡ sooner (number_of_rule a) (number_of_rule b)
unfolding first_of sooner pick
first_is a b = rw (ne_eqb _ 0 (some_rule a), ne_eqb _ 0 (some_rule b)) (by_test (tested_before (number_of_rule b) (number_of_rule a)))
  where
    by_test : (t : Bool) → number_of_rule (cond t b a) ≡ pick t (number_of_rule b) (number_of_rule a)
    by_test true = refl
    by_test false = refl

pub first_told : (a : Result ⊤ Rule) (b : Rule) → number_of_rule (first_of a b) ≡ sooner (number_told a) (number_of_rule b)
unfolding first_of number_told sooner pick
first_told (Ok _) b = refl
first_told (Err a) b = first_is a b

pub only_first : (n : ℕ) → n ≡ sooner n 0
unfolding sooner pick
only_first n = by_test (eqb n 0) refl
  where
    by_test : (t : Bool) → eqb n 0 ≡ t → n ≡ pick t 0 n
    by_test true e = eqb-true _ _ e
    by_test false e = refl
