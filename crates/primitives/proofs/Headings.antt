-- Code and count of a primitive are read again from the number before its parameters, and it is small.
-- Assumes nothing.
use Prim.Native.Nat.{ℕ, ◌^◌, ◌≤◌, ◌<◌}
use mathlib.Core.Path.{◌≡◌, refl}
use mathlib.Core.Bool.{Bool, true, false, cond}
use native.Mathlib.Omega.{arith}
use lib.Dec.{leb}
use borrow.Author.Tests.{le-leb, leb-true}
use Rattle.primitives.specs.Heading.{most_parameters, heading, code_in, count_in}

module _ (code count : ℕ) (h : code < 100) where
  pub heading_code : count ≤ most_parameters → code_in (heading code count) ≡ code
  unfolding heading
  heading_code k = rw (le-leb count most_parameters k) (omega arith)

  pub heading_count : count ≤ most_parameters → count_in (heading code count) ≡ count
  unfolding heading
  heading_count k = rw (le-leb count most_parameters k) (omega arith)

  pub heading_small : heading code count < 10 ^ 12
  unfolding heading
  heading_small = go (leb count most_parameters) refl
    where
      go : (b : Bool) → leb count most_parameters ≡ b → heading code count < 10 ^ 12
      go true e = let l = leb-true count most_parameters e in rw e (omega arith)
      go false e = rw e (omega arith)
