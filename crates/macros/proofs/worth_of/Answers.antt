-- `macros::worth_of` meets its contract: it is what `value_of` says.
-- Assumes nothing.
use Rattle.macros.specs.Says.{reckoned_as}
use Rattle.expression.proofs.Sizes.{stored_small}
use mathlib.Core.Path.{sym, ◌∙◌}
use native.Mathlib.Omega.{arith}
use Rattle.macros.proofs.worth_of.Goals as goal

pub returns-in-None : goal.returns-in-None
unfolding reckoned_as
returns-in-None c = record { says = sym c.in-None.is ∙ c.value_of.ensures.says; small = omega arith }

pub returns-in-Some : goal.returns-in-Some
unfolding reckoned_as
returns-in-Some c =
    let e = c.in-Some.is in
    let h = c.value_of.ensures.small _ e in
    rw (stored_small _ h) (record { says = sym e ∙ c.value_of.ensures.says; small = h })
