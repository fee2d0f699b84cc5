-- The numbers of commands: an aperture's is in its range, SR's counts and every decimal are no larger than 10 ^ 12.
-- Assumes nothing.
use Rattle.std.specs.Prelude.{Err, Ok, Result, ℕ}
use Prim.Native.Nat.{ℕ, ◌^◌, ◌≤◌, ◌<◌}
use mathlib.Core.Path.{◌≡◌, refl, sym}
use mathlib.Core.Bool.{false, false≢true}
use mathlib.Core.List.{List}
use native.Mathlib.Omega.{arith}
use lib.IntN.{nat_abs}
use borrow.Author.Tests.{ltb-false, leb-false}
use Rattle.digits.specs.Natural.{natural_of}
use Rattle.digits.proofs.Sizes.{natural_size}
use Rattle.decimal.specs.Decimal.{decimal_of}
use Rattle.decimal.proofs.Sizes.{decimal_size}
use Rattle.command.specs.Numbers.{in_range, any_size, copies_of, sized_as, size_of}
use Rattle.law_bounds.specs.Bounded.{Numbered}
use Rattle.digits.specs.declared.answers.NumberError.TheVariants as number_error
use Rattle.digits.specs.declared.answers.NumberError.{NumberError}
use Rattle.decimal.specs.declared.answers.Decimal.{Decimal}

pub in_range_lem : (n : Result ℕ NumberError) → (in_range n).formless ≡ false → (in_range n).long ≡ false → Numbered (in_range n).value
unfolding in_range
in_range_lem (Err number_error.NotForm) f l = absurd (false≢true (sym f))
in_range_lem (Err number_error.TooLong) f l = absurd (false≢true (sym l))
in_range_lem (Ok n) f l = record { least = ltb-false n 10 f; most = omega (arith, leb-false 2147483648 n l) }

pub copies_most : (t : List ℕ) → (copies_of t).value ≤ 10 ^ 12
unfolding any_size
copies_most t = go (natural_of t) refl
  where
    go : (n : Result ℕ NumberError) → natural_of t ≡ n → (any_size n).value ≤ 10 ^ 12
    go (Err number_error.NotForm) e = omega arith
    go (Err number_error.TooLong) e = omega arith
    go (Ok n) e = omega (arith, natural_size t n e)

pub size_small : (t : List ℕ) → nat_abs (size_of t).value.millionths < 10 ^ 12
unfolding sized_as
size_small t = go (decimal_of t) refl
  where
    go : (d : Result Decimal NumberError) → decimal_of t ≡ d → nat_abs (sized_as d).value.millionths < 10 ^ 12
    go (Err number_error.NotForm) e = omega arith
    go (Err number_error.TooLong) e = omega arith
    go (Ok d) e = decimal_size t d.amount d.rounded e
