-- `place::differ` meets its contract, case by case: `^` is computed as the tests being unequal.
use Rattle.std.proofs.Common.{◌≡◌, Bool, true, false, refl}
use mathlib.Core.Bool.{not, beq, xor}
use Rattle.place.proofs.differ.Goals as goal

not_beq : (a b : Bool) → not (beq a b) ≡ xor a b
unfolding xor
not_beq true true = refl
not_beq true false = refl
not_beq false true = refl
not_beq false false = refl

pub returns : goal.returns
returns c = not_beq _ _
