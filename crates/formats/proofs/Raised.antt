-- A coordinate in a format is the outcome of its digits as written, raised; and how large it can be.
-- Assumes nothing.
use Rattle.std.specs.Prelude.{Err, Ok}
use Prim.Native.Nat.{ℕ, zero, suc, ◌+◌, ◌*◌, ◌-◌, ◌^◌, ◌≤◌, ◌<◌}
use mathlib.Core.Path.{◌≡◌, refl, sym, ap, ◌∙◌}
use mathlib.Core.Bool.{Bool, true, false, cond}
use mathlib.Core.List.{List, [], ◌∷◌, ◌++◌}
use native.Mathlib.Nat.{one-le-pow, mul-lt-mul_of_pos_right, mul_assoc, mul-one, zero-mul, add-mul}
use native.Mathlib.Omega.{arith}
use lib.Dec.{leb}
use lib.IntN.{ℤ, nat_abs}
use lib.ListN.{length, replicate, length-append, length-replicate}
use lib.Pow.{pow-add}
use borrow.Author.Tests.{leb-true}
use Rattle.base.specs.And.{◌and◌}
use Rattle.base.proofs.And.{and_l, and_r}
use Rattle.ints.specs.Ints.{signed}
use Rattle.ints.proofs.Bounded.{abs_signed}
use Rattle.digits.specs.Digits.{is_number, value_of}
use Rattle.digits.specs.Coordinate.{whole_of}
use Rattle.digits.proofs.Strings.{value_bound, bound_at, number_digits}
use Rattle.formats.specs.Format.{is_format, newer, in_force, places_of}
use Rattle.formats.specs.Values.{filled, value_in, whole_in}
use Rattle.formats.specs.Raised.{Few, zeros_behind, raised}
use Rattle.formats.specs.declared.Format.{Format}
use Rattle.digits.specs.declared.answers.NumberError.TheVariants as number_error

-- a format that FS can write has six places at most, before the point and after it
is_few : (f : Format) → is_format f ≡ true → Few f
unfolding is_format
is_few f e =
    let h = and_l (leb f.integers 6 and leb f.decimals 6) _ e in
    record { ahead = leb-true _ _ (and_l (leb f.integers 6) (leb f.decimals 6) h); behind = leb-true _ _ (and_r (leb f.integers 6) (leb f.decimals 6) h) }

-- and so has the format in force
pub few : (f : Format) → Few (in_force f)
unfolding in_force newer
few f = by_test (is_format f) refl
  where
    by_test : (t : Bool) → is_format f ≡ t → Few (cond t f (record { integers = 6; decimals = 6; trailing = false; incremental = false }))
    by_test true e = is_few f e
    by_test false e = record { ahead = omega arith; behind = omega arith }

pub places_twelve : {f : Format} → Few f → places_of f ≤ 12
unfolding places_of
places_twelve h = omega (arith, h.ahead, h.behind)

-- a bound raised by a power of ten
raise_below : (v a b n : ℕ) → v < 10 ^ a → a + b ≤ n → v * 10 ^ b < 10 ^ n
raise_below v a b n h l = bound_at _ (a + b) n (rw (pow-add 10 a b) (mul-lt-mul_of_pos_right h (one-le-pow b 10 (omega arith)))) l

-- zeros alone are worth nothing
zeros_nothing : (k : ℕ) → value_of (replicate k 48) ≡ 0
unfolding value_of
zeros_nothing zero = refl
zeros_nothing (suc k) = omega (arith, zeros_nothing k)

-- digits with zeros after them
pub zeros_value : (s : List ℕ) (k : ℕ) → value_of (s ++ replicate k 48) ≡ value_of s * 10 ^ k
unfolding value_of
zeros_value [] k = zeros_nothing k ∙ sym (zero-mul (10 ^ k))
zeros_value (b ∷ s) k =
    let long : length (s ++ replicate k 48) ≡ length s + k = length-append s (replicate k 48) ∙ ap (λ (n : ℕ). length s + n) (length-replicate k 48) in
    let first : (b - 48) * 10 ^ length (s ++ replicate k 48) ≡ (b - 48) * 10 ^ length s * 10 ^ k = rw (long, pow-add 10 (length s) k) (sym (mul_assoc (b - 48) (10 ^ length s) (10 ^ k))) in
    rw (first, zeros_value s k) (sym (add-mul ((b - 48) * 10 ^ length s) (value_of s) (10 ^ k)))

module _ (f : Format) where
  -- filled at the back and in millionths, the value has so many zeros after its digits
  pub raised_value : (s : List ℕ) → value_in f s ≡ value_of s * 10 ^ zeros_behind f (length s)
  unfolding value_in filled zeros_behind
  raised_value s = by_test f.trailing
    where
      by_test : (t : Bool) → value_of (cond t (s ++ replicate (places_of f - length s) 48) s) * 10 ^ (6 - f.decimals)
          ≡ value_of s * 10 ^ (cond t (places_of f - length s) 0 + (6 - f.decimals))
      by_test true =
          rw (zeros_value s (places_of f - length s), pow-add 10 (places_of f - length s) (6 - f.decimals)) (mul_assoc (value_of s) (10 ^ (places_of f - length s)) (10 ^ (6 - f.decimals)))
      by_test false = let e : 6 - f.decimals ≡ 0 + (6 - f.decimals) = omega arith in ap (λ (k : ℕ). value_of s * 10 ^ k) e

  module _ (minus : Bool) (s : List ℕ) where
    pub whole_raised : raised minus (zeros_behind f (length s)) (whole_of minus s (places_of f)) ≡ whole_in f minus s
    unfolding whole_in whole_of raised
    whole_raised = by_tests_lem (is_number s) (leb (length s) (places_of f))
      where
        by_tests_lem : (t u : Bool) → raised minus (zeros_behind f (length s)) (cond t (cond u (Ok (signed minus (value_of s))) (Err number_error.TooLong)) (Err number_error.NotForm))
            ≡ cond t (cond u (Ok (signed minus (value_in f s))) (Err number_error.TooLong)) (Err number_error.NotForm)
        by_tests_lem true true = rw (abs_signed minus (value_of s), raised_value s)
        by_tests_lem true false = refl
        by_tests_lem false u = refl

    -- six places after the point and leading zeros left out: the digits are millionths already
    pub whole_plain : f.trailing ≡ false → f.decimals ≡ 6 → whole_of minus s (places_of f) ≡ whole_in f minus s
    unfolding whole_in whole_of value_in filled
    whole_plain e d = rw (e, d, mul-one)

  -- how large it can be
  module _ (h : Few f) (minus : Bool) (s : List ℕ) where
    zeros_few : length s ≤ places_of f → length s + zeros_behind f (length s) ≤ 12
    unfolding zeros_behind places_of
    zeros_few l = by_test f.trailing
      where
        by_test : (t : Bool) → length s + (cond t (f.integers + f.decimals - length s) 0 + (6 - f.decimals)) ≤ 12
        by_test true = omega (arith, h.ahead, h.behind, l)
        by_test false = omega (arith, h.ahead, h.behind, l)

    pub raised_small : is_number s ≡ true → length s ≤ places_of f → value_of s * 10 ^ zeros_behind f (length s) < 10 ^ 12
    raised_small e l = raise_below _ (length s) _ 12 (value_bound s (number_digits s e)) (zeros_few l)

    pub whole_fits : (z : ℤ) → whole_of minus s (places_of f) ≡ Ok z → nat_abs z * 10 ^ zeros_behind f (length s) < 10 ^ 12
    unfolding whole_of
    whole_fits z q = by_tests_lem (is_number s) (leb (length s) (places_of f)) refl refl q
      where
        by_tests_lem : (t u : Bool) → is_number s ≡ t → leb (length s) (places_of f) ≡ u → cond t (cond u (Ok (signed minus (value_of s))) (Err number_error.TooLong)) (Err number_error.NotForm) ≡ Ok z
            → nat_abs z * 10 ^ zeros_behind f (length s) < 10 ^ 12
        by_tests_lem true true e l p =
            let v : nat_abs z ≡ value_of s = let y : signed minus (value_of s) ≡ z = cc in ap nat_abs (sym y) ∙ abs_signed minus (value_of s) in
            rw v (raised_small e (leb-true _ _ l))
        by_tests_lem true false e l p = absurd (let z : ◌≡◌ {A = ℕ} 0 1 = cc in omega arith)
        by_tests_lem false u e l p = absurd (let z : ◌≡◌ {A = ℕ} 0 1 = cc in omega arith)

    pub zeros_twelve : zeros_behind f (length s) ≤ 12
    unfolding zeros_behind places_of
    zeros_twelve = by_test f.trailing
      where
        by_test : (t : Bool) → cond t (f.integers + f.decimals - length s) 0 + (6 - f.decimals) ≤ 12
        by_test true = omega (arith, h.ahead, h.behind)
        by_test false = omega arith
