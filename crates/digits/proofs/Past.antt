-- Laws of `past_digits`: a digit is passed and nothing else is, so what was passed is digits; and their value, digit by digit.
-- Assumes nothing.
use Rattle.std.proofs.Common.{◌≡◌, ℕ, zero, suc, ◌+◌, ◌-◌, ◌*◌, ◌^◌, ◌<◌, ◌≤◌, min, Bool, true, false, not, eqb, leb, List, [], ◌∷◌, ◌++◌, length, get_or, take, drop, refl, ap, ◌∙◌, add-zero, pow-suc, zero-add, add-one, arith, length-append, length-take-le, take-suc, eq-eqb, ne_eqb, eqb-true, leb-false, leb-true}
use lib.Seq.{slice, take-nil, take-length, drop-append-le, length-slice}
use Rattle.base.specs.And.{◌and◌}
use Rattle.base.proofs.And.{and_i, and_true, true_and, false_and}
use Rattle.base.proofs.Lists.{slice_take}
use Rattle.text.specs.First.{first_in}
use Rattle.text.proofs.First.{first_at_lem, first_end, in_from, first_to}
use Rattle.digits.specs.Digits.{is_digit, past_digits, all_digits, is_number, value_of, digits_in}
use Rattle.digits.specs.declared.answers.Digits.{Digits}

-- one byte
module _ (s : List ℕ) (at : ℕ) where
  pub past_digit : at < length s → is_digit (get_or s at 0) ≡ true → past_digits s at ≡ past_digits s (at + 1)
  past_digit h e = first_at_lem _ s at h (ap not e)

  pub past_other : at < length s → is_digit (get_or s at 0) ≡ false → past_digits s at ≡ at
  past_other h e = first_at_lem _ s at h (ap not e)

  -- one that was passed is a digit
  passed_inside : at < past_digits s at → at < length s
  passed_inside h = by_test (leb (length s) at) refl
    where
      by_test : (t : Bool) → leb (length s) at ≡ t → at < length s
      by_test true e = omega (arith, first_end (λ b. not (is_digit b)) s at (leb-true _ _ e))
      by_test false e = leb-false _ _ e

  passed_digit : at < past_digits s at → is_digit (get_or s at 0) ≡ true
  passed_digit h = by_test (is_digit (get_or s at 0)) refl
    where
      by_test : (t : Bool) → is_digit (get_or s at 0) ≡ t → is_digit (get_or s at 0) ≡ true
      by_test true e = e
      by_test false e = absurd (omega (arith, past_other (passed_inside h) e))

-- from one place that is passed to another
passed : (k : ℕ) (s : List ℕ) (from : ℕ) → from + k ≤ past_digits s from → past_digits s (from + k) ≡ past_digits s from
passed zero s from h = ap (past_digits s) (add-zero from)
passed (suc k) s from h =
    let e : past_digits s from ≡ past_digits s (from + 1) = past_digit s from (passed_inside s from (omega arith)) (passed_digit s from (omega arith)) in
    let n : from + suc k ≡ from + 1 + k = omega arith in
    rw (n, e) (passed k s (from + 1) (omega (arith, e)))

pub passed_on : (s : List ℕ) (from at : ℕ) → from ≤ at → at ≤ past_digits s from → past_digits s at ≡ past_digits s from
passed_on s from at h k =
    let n : from + (at - from) ≡ at = omega arith in
    rw n at (passed (at - from) s from (omega arith))

-- what was passed is digits
all_in : (s : List ℕ) (at : ℕ) → all_digits (take (first_in (λ b. not (is_digit b)) s at - at) s) ≡ true
unfolding first_in all_digits
all_in [] at = rw take-nil
all_in (b ∷ s) at = by_test (is_digit b) refl (all_in s (at + 1)) (in_from (λ b. not (is_digit b)) s (at + 1)).0
  where
    by_test : (t : Bool) → is_digit b ≡ t → all_digits (take (first_in (λ b. not (is_digit b)) s (at + 1) - (at + 1)) s) ≡ true →
        at + 1 ≤ first_in (λ b. not (is_digit b)) s (at + 1) →
        all_digits (take (elim (not t) [ true ↦ at | false ↦ first_in (λ b. not (is_digit b)) s (at + 1) ] - at) (b ∷ s)) ≡ true
    by_test true e ih h =
        let n : first_in (λ b. not (is_digit b)) s (at + 1) - at ≡ suc (first_in (λ b. not (is_digit b)) s (at + 1) - (at + 1)) = omega arith in
        rw n (and_i _ _ e ih)
    by_test false e ih h = let n : at - at ≡ 0 = omega arith in rw n

pub digits_passed : (s : List ℕ) (from : ℕ) → all_digits (slice from (past_digits s from) s) ≡ true
digits_passed s from = rw slice_take (all_in (drop from s) from)

-- all of a text is passed where all of it is digits
all_by : (s : List ℕ) (at : ℕ) → eqb (first_in (λ b. not (is_digit b)) s at) (at + length s) ≡ all_digits s
unfolding first_in all_digits
all_by [] at = eq-eqb at (at + 0) (omega arith)
all_by (b ∷ s) at = by_test (is_digit b) refl (all_by s (at + 1))
  where
    by_test : (t : Bool) → is_digit b ≡ t → eqb (first_in (λ b. not (is_digit b)) s (at + 1)) (at + 1 + length s) ≡ all_digits s →
        eqb (elim (not t) [ true ↦ at | false ↦ first_in (λ b. not (is_digit b)) s (at + 1) ]) (at + suc (length s)) ≡ (t and all_digits s)
    by_test true e ih = let n : at + suc (length s) ≡ at + 1 + length s = omega arith in rw (n, true_and) ih
    by_test false e ih = rw false_and (ne_eqb at (at + suc (length s)) (λ p. omega (arith, p)))

pub all_passed : (s : List ℕ) → eqb (past_digits s 0) (length s) ≡ all_digits s
all_passed s = rw zero-add at (all_by s 0)

-- they are a number where there is one at least
pub number_passed : (s : List ℕ) (from : ℕ) → from ≤ length s → is_number (slice from (past_digits s from) s) ≡ leb 1 (past_digits s from - from)
unfolding is_number
number_passed s from h =
    simp (digits_passed s from, length-slice from (past_digits s from) s (first_to (λ b. not (is_digit b)) s from h), and_true)

-- one digit more after others
value_snoc : (s : List ℕ) (b : ℕ) → value_of (s ++ (b ∷ [])) ≡ value_of s * 10 + (b - 48)
unfolding value_of
value_snoc [] b = omega arith
value_snoc (a ∷ s) b =
    let one_more : length (s ++ (b ∷ [])) ≡ suc (length s) = simp length-append (omega arith) in
    let e : (a - 48) * 10 ^ length (s ++ (b ∷ [])) + value_of (s ++ (b ∷ [])) ≡ ((a - 48) * 10 ^ length s + value_of s) * 10 + (b - 48) =
    rw (one_more, value_snoc s b, pow-suc) (omega arith) in
    e

pub value_next : (s : List ℕ) (from at : ℕ) → from ≤ at → at < length s → value_of (slice from (at + 1) s) ≡ value_of (slice from at s) * 10 + (get_or s at 0 - 48)
value_next s from at h k =
    let n : from ≤ length (take at s) = rw (length-take-le at s (omega arith)) h in
    rw (add-one, take-suc s at 0 k, drop-append-le from (take at s) (get_or s at 0 ∷ []) n) (value_snoc (slice from at s) (get_or s at 0))

-- the digits in a part, by where they end
pub digits_are : (s : List ℕ) (from to : ℕ) (d : Digits) → min to (past_digits s from) ≡ d.next → d.value ≡ value_of (slice from d.next s) → d ≡ digits_in s from to
unfolding digits_in
digits_are s from to d e v = rw e (λ i. record { value = v i; next = d.next })

-- the value of a text that is digits alone
pub value_whole : (s : List ℕ) → all_digits s ≡ true → (digits_in s 0 (length s)).value ≡ value_of s
unfolding digits_in
value_whole s e =
    let n : min (length s) (past_digits s 0) ≡ length s = omega (arith, eqb-true (past_digits s 0) (length s) (all_passed s ∙ e)) in
    rw (n, take-length)
