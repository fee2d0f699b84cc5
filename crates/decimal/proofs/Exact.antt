-- A decimal is told to be rounded exactly when what is written is no whole number of millionths: of the digits that count after the point
-- the last is no zero, so that from the seventh on no number of millionths has them.
-- Assumes nothing.
use Rattle.std.specs.Prelude.{Err, Ok, Result}
use Prim.Native.Nat.{ℕ, suc, ◌+◌, ◌*◌, ◌-◌, ◌/◌, ◌^◌, ◌≤◌, ◌<◌}
use mathlib.Core.Path.{◌≡◌, refl, sym, ap, ◌∙◌, subst}
use mathlib.Core.Bool.{Bool, true, false, cond}
use mathlib.Core.List.{List, [], ◌∷◌}
use native.Mathlib.Nat.{one-le-pow, mul-div_cancel, pow-suc}
use native.Mathlib.Omega.{arith}
use lib.Dec.{eqb, leb}
use lib.IntN.{nat_abs}
use lib.ListN.{length}
use lib.Pow.{pow-add}
use borrow.Author.Tests.{eqb-true, eqb-false, leb-true, leb-false}
use Rattle.base.specs.And.{◌and◌}
use Rattle.base.specs.Trimmed.{kept_before, drop_trailing}
use Rattle.ints.specs.Ints.{signed}
use Rattle.ints.proofs.Bounded.{abs_signed}
use Rattle.digits.specs.Digits.{all_digits, value_of}
use Rattle.digits.specs.Sign.{has_minus, after_sign}
use Rattle.digits.specs.Zeros.{drop_leading_zeros, drop_trailing_zeros}
use Rattle.digits.proofs.Strings.{digit_bounds, first_digit, other_digits}
use Rattle.digits.proofs.Zeros.{leading_value}
use Rattle.decimal.specs.Decimal.{is_decimal, in_millionths, is_rounded, amount_of, numeral_of, decimal_of}
use Rattle.decimal.specs.Exact.{Worth, Writes}
use Rattle.decimal.specs.Point.{before_point, after_point}
use Rattle.decimal.specs.declared.answers.Amount.{Amount}
use Rattle.decimal.proofs.Rounding.{kept_exactly}
use Rattle.decimal.proofs.Ways.{numeral_digits}
use Rattle.digits.specs.declared.answers.NumberError.TheVariants as number_error
use Rattle.digits.specs.declared.answers.NumberError.{NumberError}
use Rattle.decimal.specs.declared.answers.Decimal.{Decimal}

-- ---- the digits after the point that count

-- digits that are fewer by k zeros after them
record Fewer (s r : List ℕ) : Type 0 where
  zeros : ℕ
  long : length s ≡ length r + zeros
  value : value_of s ≡ value_of r * 10 ^ zeros

digit_before : (b : ℕ) (s : List ℕ) → value_of (b ∷ s) ≡ (b - 48) * 10 ^ length s + value_of s
unfolding value_of
digit_before b s = refl

one_digit : (b : ℕ) → value_of (b ∷ []) ≡ b - 48
unfolding value_of
one_digit b = omega arith

fewer_before : (b : ℕ) (s r : List ℕ) → Fewer s r → Fewer (b ∷ s) (kept_before (λ b. eqb b 48) b r)
unfolding kept_before value_of
fewer_before b s [] f = by (eqb b 48) refl
  where
    power : 10 ^ length s ≡ 10 ^ f.zeros
    power = ap (λ (n : ℕ). 10 ^ n) (f.long ∙ omega arith)

    by : (t : Bool) → eqb b 48 ≡ t → Fewer (b ∷ s) (cond t [] (b ∷ []))
    by true e = record { zeros = suc f.zeros; long = omega (arith, f.long); value = rw (eqb-true b 48 e) (omega (arith, f.value)) }
    by false e = record { zeros = f.zeros; long = omega (arith, f.long); value = rw (one_digit b, power) (omega (arith, f.value)) }
fewer_before b s (c ∷ r) f =
    let p : 10 ^ length s ≡ 10 ^ length (c ∷ r) * 10 ^ f.zeros = ap (λ (n : ℕ). 10 ^ n) f.long ∙ pow-add 10 (length (c ∷ r)) f.zeros in
    record { zeros = f.zeros; long = omega (arith, f.long); value = rw (p, f.value) (omega arith) }

fewer : (s : List ℕ) → Fewer s (drop_trailing_zeros s)
unfolding drop_trailing value_of
fewer [] = record { zeros = 0; long = refl; value = refl }
fewer (b ∷ s) = fewer_before b s (drop_trailing_zeros s) (fewer s)

-- the last digit is no zero
data Counts : List ℕ → Type 0 where
  none : Counts []
  last : {r : List ℕ} (v d : ℕ) → value_of r ≡ v * 10 + d → 1 ≤ d → d ≤ 9 → Counts r

counts_before : (b : ℕ) (r : List ℕ) → (48 ≤ b) × (b ≤ 57) → Counts r → Counts (kept_before (λ b. eqb b 48) b r)
unfolding kept_before
counts_before b [] d c = by (eqb b 48) refl
  where
    by : (t : Bool) → eqb b 48 ≡ t → Counts (cond t [] (b ∷ []))
    by true e = none
    by false e =
        let n : b ≡ 48 → ⊥ = eqb-false b 48 e in
        let v : value_of (b ∷ []) ≡ 0 * 10 + (b - 48) = omega (arith, one_digit b) in
        last 0 (b - 48) v (omega (arith, d.0, n)) (omega (arith, d.1))
counts_before b (c ∷ r) d (last v e q l h) =
    let w : value_of (b ∷ c ∷ r) ≡ ((b - 48) * 10 ^ length r + v) * 10 + e = digit_before b (c ∷ r) ∙ rw (q, pow-suc) (omega arith) in
    last ((b - 48) * 10 ^ length r + v) e w l h

counts : (s : List ℕ) → all_digits s ≡ true → Counts (drop_trailing_zeros s)
unfolding drop_trailing
counts [] e = none
counts (b ∷ s) e = counts_before b (drop_trailing_zeros s) (digit_bounds b (first_digit b s e)) (counts s (other_digits b s e))

-- ---- what those digits are worth is what is written

cancelled : (x y p : ℕ) → 0 < p → x * p ≡ y * p → x ≡ y
cancelled x y p h e = sym (mul-div_cancel x h) ∙ ap (λ (z : ℕ). z / p) e ∙ mul-div_cancel y h

-- seven digits or more after the point, the last no zero: no number of millionths is that
no_millionths : (whole fraction r : List ℕ) → Fewer fraction r → 7 ≤ length r → Counts r → (m : ℕ) → Worth whole fraction m → ⊥
no_millionths whole fraction [] f h none m w = omega arith
no_millionths whole fraction r f h (last v d q l u) m w =
    let j : ℕ = length r - 7 in
    let e : length fraction ≡ 7 + j + f.zeros = omega (arith, f.long) in
    let unit : ℕ = 10 ^ 6 * 10 ^ f.zeros in
    let p : 10 ^ length fraction ≡ 10 * 10 ^ j * unit =
    ap (λ (n : ℕ). 10 ^ n) e ∙ pow-add 10 (7 + j) f.zeros ∙ ap (λ (x : ℕ). x * 10 ^ f.zeros) (pow-add 10 7 j) ∙ omega arith in
    let some : 0 < unit = omega (arith, one-le-pow f.zeros 10 (omega arith)) in
    let z : m * (10 * 10 ^ j) * unit ≡ (value_of whole * 10 ^ 7 * 10 ^ j + value_of r) * unit = omega (arith, rw (p, f.value) at w.equal) in
    omega (arith, cancelled _ _ unit some z, q)

-- up to six: the size is what is written
exact : (whole fraction : List ℕ) → length (drop_trailing_zeros fraction) ≤ 6 → Worth whole fraction (in_millionths (drop_leading_zeros whole) (drop_trailing_zeros fraction))
exact whole fraction h =
    let r : List ℕ = drop_trailing_zeros fraction in
    let f = fewer fraction in
    let k = kept_exactly (drop_leading_zeros whole) r h in
    let p : 10 ^ length fraction ≡ 10 ^ length r * 10 ^ f.zeros = ap (λ (n : ℕ). 10 ^ n) f.long ∙ pow-add 10 (length r) f.zeros in
    record { equal = rw (p, f.value, sym (leading_value whole)) (omega (arith, ap (λ (x : ℕ). x * 10 ^ f.zeros) k)) }

-- ---- the answer

-- what an answer tells of the digits before the point and after it
abbrev Told : List ℕ → List ℕ → Result Decimal NumberError → Type 0
Told whole fraction (Err number_error.NotForm) = Unit
Told whole fraction (Err number_error.TooLong) = Unit
Told whole fraction (Ok d) = elim d.rounded [ true ↦ (m : ℕ) → Worth whole fraction m → ⊥ | false ↦ Worth whole fraction (nat_abs d.amount.millionths) ]

module _ (minus : Bool) (whole fraction : List ℕ) (d : all_digits fraction ≡ true) where
  abbrev size : ℕ
  size = in_millionths (drop_leading_zeros whole) (drop_trailing_zeros fraction)

  value_told : (t : Bool) → is_rounded (drop_trailing_zeros fraction) ≡ t → Told whole fraction (Ok (record { amount = record { millionths = signed minus size }; rounded = t }))
  unfolding is_rounded
  value_told true e = no_millionths whole fraction (drop_trailing_zeros fraction) (fewer fraction) (leb-true 7 _ e) (counts fraction d)
  value_told false e = rw (abs_signed minus size) (exact whole fraction (omega (arith, leb-false 7 (length (drop_trailing_zeros fraction)) e)))

  amount_told : Told whole fraction (amount_of minus (drop_leading_zeros whole) (drop_trailing_zeros fraction))
  unfolding amount_of
  amount_told = by (leb (length (drop_leading_zeros whole)) 6 and leb (length (drop_trailing_zeros fraction)) 18) (leb (10 ^ 12) size)
    where
      by : (fits large : Bool) → Told whole fraction (cond fits (cond large (Err number_error.TooLong) (Ok (record { amount = record { millionths = signed minus size }; rounded = is_rounded (drop_trailing_zeros fraction) }))) (Err number_error.TooLong))
      by true true = tt
      by true false = value_told (is_rounded (drop_trailing_zeros fraction)) refl
      by false large = tt

numeral_told : (minus : Bool) (whole fraction : List ℕ) → Told whole fraction (numeral_of minus whole fraction)
unfolding numeral_of
numeral_told minus whole fraction = by (is_decimal whole fraction) refl
  where
    by : (t : Bool) → is_decimal whole fraction ≡ t → Told whole fraction (cond t (amount_of minus (drop_leading_zeros whole) (drop_trailing_zeros fraction)) (Err number_error.NotForm))
    by true e = amount_told minus whole fraction (numeral_digits minus whole fraction e).1
    by false e = tt

module _ (s : List ℕ) (a : Amount) where
  told : (rounded : Bool) → decimal_of s ≡ Ok (record { amount = a; rounded = rounded }) → Told (before_point (after_sign s)) (after_point (after_sign s)) (Ok (record { amount = a; rounded = rounded }))
  unfolding decimal_of
  told rounded e = subst (Told (before_point (after_sign s)) (after_point (after_sign s))) e (numeral_told (has_minus s) (before_point (after_sign s)) (after_point (after_sign s)))

  -- told to be rounded: what is written is no whole number of millionths
  pub rounded_writes_none : decimal_of s ≡ Ok (record { amount = a; rounded = true }) → (m : ℕ) → Writes s m → ⊥
  rounded_writes_none e = told true e

  -- told not to be: it is, and the amount is that number
  pub unrounded_writes : decimal_of s ≡ Ok (record { amount = a; rounded = false }) → Writes s (nat_abs a.millionths)
  unrounded_writes e = told false e
