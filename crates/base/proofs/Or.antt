-- The laws of `_or_` where a test is known, and with those of `_and_`: what `&&` and `||` say in the words of both.
-- Assumes nothing.
use mathlib.Core.Path.{◌≡◌, refl}
use mathlib.Core.Bool.{Bool, true, false, ◌||◌}
use Rattle.base.specs.Or.{◌or◌}
use Rattle.base.proofs.And.{ands}

pub true_or : (b : Bool) → (true or b) ≡ true
unfolding ◌or◌
true_or b = refl

pub false_or : (b : Bool) → (false or b) ≡ b
unfolding ◌or◌
false_or b = refl

pub ruleset ors = (true_or, false_or)

pub ruleset joins = (ands, ors)

-- the language's own
pub or_is : (a b : Bool) → (a || b) ≡ (a or b)
unfolding ◌or◌
or_is true b = refl
or_is false b = refl
