-- What a format promises: in the newer edition's a coordinate is worth what it is written as, full digits do not tell which zeros are
-- left out, and every value is below 10 ^ 12; and the old book reads the newer edition's FS.
-- Assumes nothing.
use Rattle.std.specs.Prelude.{Err, Ok}
use Prim.Native.Nat.{ℕ, ◌+◌, ◌*◌, ◌^◌, ◌≤◌, ◌<◌}
use mathlib.Core.Path.{◌≡◌, refl, sym, ap, ◌∙◌}
use mathlib.Core.Bool.{Bool, true, false, not, cond}
use mathlib.Core.List.{List}
use native.Mathlib.Omega.{arith}
use lib.Dec.{leb, eqb}
use lib.IntN.{ℤ, nat_abs}
use lib.ListN.{length}
use borrow.Author.Tests.{leb-true}
use Rattle.base.specs.And.{◌and◌}
use Rattle.base.proofs.And.{ands, and_false}
use Rattle.base.proofs.Tests.{tests}
use Rattle.ints.specs.Ints.{signed}
use Rattle.ints.proofs.Bounded.{abs_signed}
use Rattle.digits.specs.Digits.{is_number, value_of}
use Rattle.digits.specs.Sign.{has_minus, after_sign}
use Rattle.digits.specs.Coordinate.{coordinate_of}
use Rattle.formats.specs.Format.{is_format, newer, no_format, in_force, places_of}
use Rattle.formats.specs.Values.{value_in, whole_in, coordinate_in}
use Rattle.formats.specs.Raised.{zeros_behind}
use Rattle.formats.specs.declared.Format.{Format}
use Rattle.formats.proofs.Raised.{few, raised_value, raised_small, whole_plain}
use Rattle.digits.specs.declared.answers.NumberError.TheVariants as number_error

-- the newer edition's format is in force as it is
newer_in_force : (n : ℕ) → n ≤ 6 → in_force (newer n) ≡ newer n
unfolding in_force is_format newer
newer_in_force n h = simp (tests, ands, and_false)

pub newer_coordinate : (n : ℕ) (s : List ℕ) → n ≤ 6 → coordinate_in (newer n) s ≡ coordinate_of s (n + 6)
unfolding coordinate_in coordinate_of newer places_of
newer_coordinate n s h =
    ap (λ (g : Format). whole_in g (has_minus s) (after_sign s)) (newer_in_force n h) ∙ sym (whole_plain (newer n) (has_minus s) (after_sign s) refl refl)

-- before FS twelve digits, as they are written
pub before_format : (s : List ℕ) → coordinate_in no_format s ≡ coordinate_of s 12
unfolding coordinate_in coordinate_of no_format in_force is_format newer places_of ◌and◌
before_format s = sym (whole_plain (newer 6) (has_minus s) (after_sign s) refl refl)

-- with all its digits written a coordinate has no zeros left out
module _ (n m : ℕ) (incremental : Bool) where
  abbrev leaving : Bool → Format
  leaving trailing = record { integers = n; decimals = m; trailing = trailing; incremental = incremental }

  no_zeros : (s : List ℕ) → length s ≡ n + m → zeros_behind (leaving true) (length s) ≡ zeros_behind (leaving false) (length s)
  unfolding zeros_behind places_of
  no_zeros s l = omega (arith, l)

  full_value : (s : List ℕ) → length s ≡ n + m → value_in (leaving true) s ≡ value_in (leaving false) s
  full_value s l = raised_value (leaving true) s ∙ ap (λ (k : ℕ). value_of s * 10 ^ k) (no_zeros s l) ∙ sym (raised_value (leaving false) s)

  full_whole : (minus : Bool) (s : List ℕ) → length s ≡ n + m → whole_in (leaving true) minus s ≡ whole_in (leaving false) minus s
  unfolding whole_in places_of
  full_whole minus s l = ap (λ (v : ℕ). cond (is_number s) (cond (leb (length s) (n + m)) (Ok (signed minus v)) (Err number_error.TooLong)) (Err number_error.NotForm)) (full_value s l)

  pub full_length : (s : List ℕ) → length (after_sign s) ≡ n + m → coordinate_in (leaving true) s ≡ coordinate_in (leaving false) s
  unfolding coordinate_in in_force is_format
  full_length s l = by_test (leb n 6 and leb m 6 and not (eqb n 0 and eqb m 0))
    where
      by_test : (t : Bool) → whole_in (cond t (leaving true) (newer 6)) (has_minus s) (after_sign s) ≡ whole_in (cond t (leaving false) (newer 6)) (has_minus s) (after_sign s)
      by_test true = full_whole (has_minus s) (after_sign s) l
      by_test false = refl

-- every value is below 10 ^ 12 in size
pub coordinate_small : (f : Format) (s : List ℕ) (z : ℤ) → coordinate_in f s ≡ Ok z → nat_abs z < 10 ^ 12
unfolding coordinate_in whole_in
coordinate_small f s z q = by_tests_lem (is_number (after_sign s)) (leb (length (after_sign s)) (places_of (in_force f))) refl refl q
  where
    by_tests_lem : (t u : Bool) → is_number (after_sign s) ≡ t → leb (length (after_sign s)) (places_of (in_force f)) ≡ u
        → cond t (cond u (Ok (signed (has_minus s) (value_in (in_force f) (after_sign s)))) (Err number_error.TooLong)) (Err number_error.NotForm) ≡ Ok z → nat_abs z < 10 ^ 12
    by_tests_lem true true e l p =
        let v : nat_abs z ≡ value_in (in_force f) (after_sign s) = let y : signed (has_minus s) (value_in (in_force f) (after_sign s)) ≡ z = cc in ap nat_abs (sym y) ∙ abs_signed (has_minus s) (value_in (in_force f) (after_sign s)) in
        rw (v, raised_value (in_force f) (after_sign s)) (raised_small (in_force f) (few f) (has_minus s) (after_sign s) e (leb-true _ _ l))
    by_tests_lem true false e l p = absurd (let z : ◌≡◌ {A = ℕ} 0 1 = cc in omega arith)
    by_tests_lem false u e l p = absurd (let z : ◌≡◌ {A = ℕ} 0 1 = cc in omega arith)
