-- Tests of a signed number against zero, by its sign and its size.
-- Assumes nothing.
use Prim.Native.Nat.{zero, suc}
use mathlib.Core.Path.{◌≡◌, refl, sym, ◌∙◌}
use mathlib.Core.Bool.{not}
use native.Mathlib.Omega.{arith}
use lib.Dec.{leb}
use lib.IntN.{ℤ, pos, negsuc, nat_abs}
use lib.Signed.{lt_z, le_z}
use Rattle.base.specs.And.{◌and◌}
use borrow.Author.Tests.{le-leb, lt-ltb}
use Rattle.std.specs.Ordering.{int_eq}
use Rattle.std.proofs.lemmas.Bool.Decides.{Decides-int_eq, same_from_decides}
use Rattle.ints.specs.Ints.{eq_z, is_neg}
use Rattle.ints.proofs.Bounded.{eq_z_true, eq_z_refl}

pub least_zero : (z : ℤ) → le_z (pos 0) z ≡ not (is_neg z)
unfolding is_neg
least_zero (pos n) = le-leb 0 n (omega arith)
least_zero (negsuc n) = refl

pub over_zero : (z : ℤ) → lt_z (pos 0) z ≡ (not (is_neg z) and leb 1 (nat_abs z))
unfolding is_neg ◌and◌
over_zero (pos zero) = refl
over_zero (pos (suc n)) = lt-ltb 0 (suc n) (omega arith) ∙ sym (le-leb 1 (suc n) (omega arith))
over_zero (negsuc n) = refl

-- the equality of a derived `==`
pub eq_derived : (a b : ℤ) → int_eq a b ≡ eq_z a b
eq_derived a b = same_from_decides (int_eq a b) (eq_z a b) (Decides-int_eq a b) (eq_z_true a b, λ (q : a ≡ b). rw q (eq_z_refl b))
