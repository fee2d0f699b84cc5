-- The rounded size is what six digits after the point are worth, and one more where the seventh is five or above: the digits after it
-- never decide.
-- Assumes nothing.
use Prim.Native.Nat.{ℕ, zero, suc, ◌+◌, ◌*◌, ◌-◌, ◌^◌, ◌≤◌, ◌<◌}
use Prim.Native.Char.{code}
use mathlib.Core.Path.{◌≡◌, refl, sym, ap, ◌∙◌}
use mathlib.Core.Bool.{Bool, true, false, cond}
use mathlib.Core.List.{List, [], ◌∷◌}
use native.Mathlib.Nat.{one-le-pow, mul-le-mul_right, div-eq_of_lt-le, mul-div-mul_right, min-eq_left}
use native.Mathlib.Omega.{arith}
use lib.Dec.{leb}
use lib.ListN.{length, take, drop, get_or, length-take, length-drop, get_or-eq_default}
use lib.Seq.{take_all}
use lib.Pow.{pow-add}
use borrow.Author.Tests.{leb-true, leb-false}
use Rattle.base.proofs.And.{true_and}
use Rattle.base.proofs.Lists.{drop_next}
use Rattle.digits.specs.Digits.{all_digits, value_of}
use Rattle.digits.proofs.Strings.{value_bound, digit_at, first_digit, other_digits}
use Rattle.decimal.specs.Decimal.{nearest, in_millionths}
use Rattle.decimal.specs.Kept.{in_six, carry_of}

-- wholes, and g of the m parts of one: one more from a half on
pub nearest_down : (whole m g : ℕ) → 2 * g < m → nearest (whole * m + g) m ≡ whole
unfolding nearest
nearest_down whole m g h = div-eq_of_lt-le (2 * m) (omega arith) (omega arith)

pub nearest_up : (whole m g : ℕ) → g < m → m ≤ 2 * g → nearest (whole * m + g) m ≡ whole + 1
unfolding nearest
nearest_up whole m g h k = div-eq_of_lt-le (2 * m) (omega arith) (omega arith)

-- a part of a million of them is the same part
nearest_scaled : (a b : ℕ) → nearest (a * 10 ^ 6) (b * 10 ^ 6) ≡ nearest a b
unfolding nearest
nearest_scaled a b =
    let p : 2 * (a * 10 ^ 6) + b * 10 ^ 6 ≡ (2 * a + b) * 10 ^ 6 = omega arith in
    let q : 2 * (b * 10 ^ 6) ≡ 2 * b * 10 ^ 6 = omega arith in
    rw (p, q) (mul-div-mul_right (2 * a + b) (2 * b) (omega arith))

digits_drop : (k : ℕ) (s : List ℕ) → all_digits s ≡ true → all_digits (drop k s) ≡ true
digits_drop zero s e = e
digits_drop (suc k) [] e = e
digits_drop (suc k) (b ∷ s) e = digits_drop k s (other_digits b s e)

pub digits_take : (k : ℕ) (s : List ℕ) → all_digits s ≡ true → all_digits (take k s) ≡ true
unfolding all_digits
digits_take zero s e = refl
digits_take (suc k) [] e = refl
digits_take (suc k) (b ∷ s) e = rw (first_digit b s e) (true_and _ ∙ digits_take k s (other_digits b s e))

taken : (k : ℕ) (s : List ℕ) → k ≤ length s → length (take k s) ≡ k
taken k s h = length-take k s ∙ min-eq_left h

-- digits up to a place, and those from there on
value_split : (k : ℕ) (s : List ℕ) → k ≤ length s → value_of (take k s) * 10 ^ (length s - k) + value_of (drop k s) ≡ value_of s
unfolding value_of
value_split zero s h = omega arith
value_split (suc k) [] h = absurd (omega arith)
value_split (suc k) (b ∷ s) h =
    let l : k ≤ length s = omega arith in
    let n : length (take k s) ≡ k = taken k s l in
    let z : length (b ∷ s) - suc k ≡ length s - k = omega arith in
    let e : k + (length s - k) ≡ length s = omega arith in
    let p : 10 ^ k * 10 ^ (length s - k) ≡ 10 ^ length s = sym (pow-add 10 k (length s - k)) ∙ ap (λ (x : ℕ). 10 ^ x) e in
    let q : (b - 48) * (10 ^ k * 10 ^ (length s - k)) ≡ (b - 48) * 10 ^ length s = ap (λ (x : ℕ). (b - 48) * x) p in
    rw (n, z) (omega (arith, q, value_split k s l))

-- up to six digits after the point: nothing is rounded
module _ (whole fraction : List ℕ) (h : length fraction ≤ 6) where
  exact_short : (value_of whole * 10 ^ length fraction + value_of fraction) * 10 ^ 6 ≡ in_six whole fraction * 10 ^ length fraction + 0
  unfolding in_six
  exact_short =
      let n : ℕ = length fraction in
      let e : n + (6 - n) ≡ 6 = omega arith in
      let p : 10 ^ n * 10 ^ (6 - n) ≡ 10 ^ 6 = sym (pow-add 10 n (6 - n)) ∙ ap (λ (x : ℕ). 10 ^ x) e in
      let q : value_of fraction * (10 ^ n * 10 ^ (6 - n)) ≡ value_of fraction * 10 ^ 6 = ap (λ (x : ℕ). value_of fraction * x) p in
      omega (arith, q)

  rounds_short : in_millionths whole fraction ≡ in_six whole fraction
  unfolding in_millionths
  rounds_short =
      let n : ℕ = length fraction in
      rw exact_short (nearest_down (in_six whole fraction) (10 ^ n) 0 (one-le-pow n 10 (omega arith)))

  pub kept_exactly : in_millionths whole fraction * 10 ^ length fraction ≡ (value_of whole * 10 ^ length fraction + value_of fraction) * 10 ^ 6
  kept_exactly = rw rounds_short (omega (arith, exact_short))

-- more: the seventh digit tells whether those from it on are a half or above
module _ (whole fraction : List ℕ) (d : all_digits fraction ≡ true) (h : 6 < length fraction) where
  abbrev behind : ℕ
  behind = length fraction - 6

  abbrev six : ℕ
  six = value_of whole * 10 ^ 6 + value_of (take 6 fraction)

  -- a million and the digits after the sixth are left out of the division
  reduced : in_millionths whole fraction ≡ nearest (six * 10 ^ behind + value_of (drop 6 fraction)) (10 ^ behind)
  unfolding in_millionths
  reduced =
      let e : behind + 6 ≡ length fraction = omega arith in
      let p : 10 ^ length fraction ≡ 10 ^ behind * 10 ^ 6 = ap (λ (x : ℕ). 10 ^ x) (sym e) ∙ pow-add 10 behind 6 in
      let v = value_split 6 fraction (omega arith) in
      let q : value_of whole * 10 ^ length fraction ≡ value_of whole * (10 ^ behind * 10 ^ 6) = ap (λ (x : ℕ). value_of whole * x) p in
      let z : value_of whole * 10 ^ length fraction + value_of fraction ≡ six * 10 ^ behind + value_of (drop 6 fraction) = omega (arith, q, v) in
      rw (z, p) (nearest_scaled _ _)

  -- the digits after the seventh are less than one of it
  seventh : value_of (drop 6 fraction) ≡ (get_or fraction 6 0 - 48) * 10 ^ (behind - 1) + value_of (drop 7 fraction)
  unfolding value_of
  seventh =
      let l : length (drop 7 fraction) ≡ behind - 1 = length-drop 7 fraction ∙ omega arith in
      rw (drop_next fraction 6 h, l) refl

  tenth : 10 ^ behind ≡ 10 * 10 ^ (behind - 1)
  tenth =
      let e : behind ≡ 1 + (behind - 1) = omega arith in
      ap (λ (x : ℕ). 10 ^ x) e ∙ pow-add 10 1 (behind - 1)

  less : value_of (drop 7 fraction) < 10 ^ (behind - 1)
  less =
      let l : length (drop 7 fraction) ≡ behind - 1 = length-drop 7 fraction ∙ omega arith in
      rw l at (value_bound (drop 7 fraction) (digits_drop 7 fraction d))

  rounds_long : in_millionths whole fraction ≡ six + carry_of fraction
  unfolding carry_of
  rounds_long = go (leb (code "5") (get_or fraction 6 0)) refl
    where
      go : (t : Bool) → leb (code "5") (get_or fraction 6 0) ≡ t → in_millionths whole fraction ≡ six + cond t 1 0
      go true e =
          let b = digit_at fraction 6 h (digits_drop 6 fraction d) in
          let low : 5 * 10 ^ (behind - 1) ≤ (get_or fraction 6 0 - 48) * 10 ^ (behind - 1) =
          mul-le-mul_right (10 ^ (behind - 1)) (omega (arith, leb-true (code "5") (get_or fraction 6 0) e)) in
          let high : (get_or fraction 6 0 - 48) * 10 ^ (behind - 1) ≤ 9 * 10 ^ (behind - 1) = mul-le-mul_right (10 ^ (behind - 1)) (omega (arith, b.1)) in
          reduced ∙ nearest_up six (10 ^ behind) (value_of (drop 6 fraction)) (omega (arith, seventh, tenth, less, high)) (omega (arith, seventh, tenth, low))
      go false e =
          let high : (get_or fraction 6 0 - 48) * 10 ^ (behind - 1) ≤ 4 * 10 ^ (behind - 1) =
          mul-le-mul_right (10 ^ (behind - 1)) (omega (arith, leb-false (code "5") (get_or fraction 6 0) e)) in
          reduced ∙ nearest_down six (10 ^ behind) (value_of (drop 6 fraction)) (omega (arith, seventh, tenth, less, high)) ∙ omega arith

-- six digits after the point, and what the seventh adds
pub rounds : (whole fraction : List ℕ) → all_digits fraction ≡ true → in_six whole (take 6 fraction) + carry_of fraction ≡ in_millionths whole fraction
unfolding in_six carry_of
rounds whole fraction d = go (leb (length fraction) 6) refl
  where
    go : (t : Bool) → leb (length fraction) 6 ≡ t → in_six whole (take 6 fraction) + carry_of fraction ≡ in_millionths whole fraction
    go true e =
        let h = leb-true (length fraction) 6 e in
        rw (take_all 6 fraction h, get_or-eq_default fraction 0 h) (omega (arith, rounds_short whole fraction h))
    go false e =
        let h : 6 < length fraction = omega (arith, leb-false (length fraction) 6 e) in
        rw (taken 6 fraction (omega arith)) (omega (arith, rounds_long whole fraction d h))

pub carry_one : (fraction : List ℕ) → carry_of fraction ≤ 1
unfolding carry_of
carry_one fraction = go (leb (code "5") (get_or fraction 6 0))
  where
    go : (t : Bool) → cond {A = ℕ} t 1 0 ≤ 1
    go true = omega arith
    go false = omega arith
