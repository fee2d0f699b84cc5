-- How large what was read can be, for whoever computes with it: twelve digits at most are below 10 ^ 12.
-- Assumes nothing.
use Rattle.std.proofs.Common.{◌≡◌, ℕ, ◌^◌, ◌<◌, ◌≤◌, Bool, true, false, cond, leb, List, length, ℤ, nat_abs, refl, subst, arith, leb-false, leb-true, Err, Ok, Result}
use Rattle.ints.specs.Ints.{signed}
use Rattle.ints.proofs.Bounded.{abs_signed}
use Rattle.digits.specs.Coordinate.{whole_of, coordinate_of}
use Rattle.digits.specs.Digits.{is_number, value_of}
use Rattle.digits.specs.Natural.{natural_of}
use Rattle.digits.specs.Sign.{has_minus, after_sign}
use Rattle.digits.proofs.Strings.{value_bound, bound_at, number_digits}
use Rattle.digits.specs.declared.answers.NumberError.TheVariants as number_error
use Rattle.digits.specs.declared.answers.NumberError.{NumberError}

-- a value, if it is one, is below 10 ^ 12 in size
abbrev SmallCoordinate : Result ℤ NumberError → Type 0
SmallCoordinate (Err number_error.NotForm) = Unit
SmallCoordinate (Err number_error.TooLong) = Unit
SmallCoordinate (Ok z) = nat_abs z < 10 ^ 12

abbrev SmallNatural : Result ℕ NumberError → Type 0
SmallNatural (Err number_error.NotForm) = Unit
SmallNatural (Err number_error.TooLong) = Unit
SmallNatural (Ok n) = n < 10 ^ 12

whole_small : (minus : Bool) (s : List ℕ) (limit : ℕ) → limit ≤ 12 → SmallCoordinate (whole_of minus s limit)
unfolding whole_of
whole_small minus s limit h = by_tests_lem (is_number s) (leb (length s) limit) refl refl
  where
    by_tests_lem : (t u : Bool) → is_number s ≡ t → leb (length s) limit ≡ u → SmallCoordinate (cond t (cond u (Ok (signed minus (value_of s))) (Err number_error.TooLong)) (Err number_error.NotForm))
    by_tests_lem true true e f =
        let k = leb-true (length s) limit f in
        rw (abs_signed minus (value_of s)) (bound_at (value_of s) (length s) 12 (value_bound s (number_digits s e)) (omega arith))
    by_tests_lem true false e f = tt
    by_tests_lem false u e f = tt

pub coordinate_size : (s : List ℕ) (limit : ℕ) (z : ℤ) → limit ≤ 12 → coordinate_of s limit ≡ Ok z → nat_abs z < 10 ^ 12
unfolding coordinate_of
coordinate_size s limit z h e = subst SmallCoordinate e (whole_small (has_minus s) (after_sign s) limit h)

natural_small : (s : List ℕ) → SmallNatural (natural_of s)
unfolding natural_of
natural_small s = by_tests_lem (is_number s) (leb (10 ^ 12) (value_of s)) refl
  where
    by_tests_lem : (t u : Bool) → leb (10 ^ 12) (value_of s) ≡ u → SmallNatural (cond t (cond u (Err number_error.TooLong) (Ok (value_of s))) (Err number_error.NotForm))
    by_tests_lem true true f = tt
    by_tests_lem true false f = leb-false (10 ^ 12) (value_of s) f
    by_tests_lem false u f = tt

pub natural_size : (s : List ℕ) (n : ℕ) → natural_of s ≡ Ok n → n < 10 ^ 12
natural_size s n e = subst SmallNatural e (natural_small s)
