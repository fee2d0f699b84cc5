-- Laws of `coordinate_at`: the sign parted from the digits, and each way out of the reading.
-- Assumes nothing.
use Rattle.std.proofs.Common.{◌≡◌, ℕ, suc, ◌+◌, ◌-◌, ◌^◌, ◌<◌, ◌≤◌, min, Bool, true, false, not, eqb, leb, List, [], ◌∷◌, length, get_or, ℤ, sym, refl, ap, ◌∙◌, add-one, arith, le-leb, leb-false, leb-true, Err, Ok, Result}
use lib.Seq.{slice, slice-cons, slice_empty, length-slice}
use Rattle.base.specs.And.{◌and◌}
use borrow.Author.Tests.{lt-leb}
use Rattle.ints.specs.Ints.{signed}
use Rattle.text.proofs.First.{first_from_lem, first_to}
use Rattle.digits.specs.Digits.{is_digit, past_digits, all_digits, is_number, value_of, digits_in}
use Rattle.digits.specs.Sign.{is_sign, has_minus, after_sign, past_sign}
use Rattle.digits.specs.Coordinate.{whole_of, coordinate_of, coordinate_end, coordinate_at}
use Rattle.digits.specs.declared.answers.Digits.{Digits}
use Rattle.digits.proofs.Strings.{value_bound, bound_at}
use Rattle.digits.proofs.Past.{passed_on, digits_passed, number_passed}
use Rattle.digits.proofs.Sign.{sign_passed, sign_missing, past_sign_to}
use Rattle.digits.proofs.Ways.{whole_other, whole_long, whole_value}
use Rattle.digits.specs.declared.answers.NumberError.TheVariants as number_error
use Rattle.digits.specs.declared.answers.NumberError.{NumberError}

-- a first byte that is a sign, one that is none, and no byte
module _ (b : ℕ) (limit : ℕ) where
  behind_sign : (r : List ℕ) → is_sign b ≡ true → coordinate_of (b ∷ r) limit ≡ whole_of (eqb b 45) r limit
  unfolding coordinate_of has_minus after_sign
  behind_sign r e = rw e

  without_sign : (r : List ℕ) → is_sign b ≡ false → coordinate_of (b ∷ r) limit ≡ whole_of (eqb b 45) (b ∷ r) limit
  unfolding coordinate_of has_minus after_sign
  without_sign r e = rw e

  without_any : coordinate_of [] limit ≡ whole_of (eqb b 45) [] limit
  unfolding coordinate_of has_minus after_sign whole_of is_number ◌and◌
  without_any = refl

-- the sign of the coordinate at a place, and what stands after it
module _ (s : List ℕ) (at : ℕ) (h : at ≤ length s) where
  end_from : past_sign s at ≤ coordinate_end s at
  unfolding coordinate_end
  end_from = first_from_lem (λ b. not (is_digit b)) s (past_sign s at)

  end_to : coordinate_end s at ≤ length s
  unfolding coordinate_end
  end_to = first_to (λ b. not (is_digit b)) s (past_sign s at) (past_sign_to s at h)

  parted : (limit : ℕ) → coordinate_of (slice at (coordinate_end s at) s) limit ≡ whole_of (eqb (get_or s at 0) 45) (slice (past_sign s at) (coordinate_end s at) s) limit
  parted limit = by_test (is_sign (get_or s at 0)) (leb (coordinate_end s at) at) refl refl
    where
      text : ℕ → List ℕ
      text n = slice n (coordinate_end s at) s

      begins : at < coordinate_end s at → text at ≡ get_or s at 0 ∷ text (suc at)
      begins k = slice-cons at (coordinate_end s at) s 0 k end_to

      by_test : (t u : Bool) → is_sign (get_or s at 0) ≡ t → leb (coordinate_end s at) at ≡ u → coordinate_of (text at) limit ≡ whole_of (eqb (get_or s at 0) 45) (text (past_sign s at)) limit
      by_test true u e f =
          let k : at < coordinate_end s at = omega (arith, sign_passed s at e, end_from) in
          ap (λ t. coordinate_of t limit) (begins k) ∙ behind_sign (get_or s at 0) limit (text (suc at)) e ∙ ap (λ n. whole_of (eqb (get_or s at 0) 45) (text n) limit) (sym (sign_passed s at e ∙ add-one at))
      by_test false false e f =
          let k = begins (leb-false (coordinate_end s at) at f) in
          ap (λ t. coordinate_of t limit) k ∙ without_sign (get_or s at 0) limit (text (suc at)) e ∙ ap (λ t. whole_of (eqb (get_or s at 0) 45) t limit) (sym k ∙ ap text (sym (sign_missing s at e)))
      by_test false true e f =
          let n : coordinate_end s at ≡ at = omega (arith, leb-true (coordinate_end s at) at f, sign_missing s at e, end_from) in
          let none : text at ≡ [] = ap (λ n. slice at n s) n ∙ slice_empty at s in
          ap (λ t. coordinate_of t limit) none ∙ without_any (get_or s at 0) limit ∙ ap (λ t. whole_of (eqb (get_or s at 0) 45) t limit) (sym none ∙ ap text (sym (sign_missing s at e)))

  -- a coordinate by what stands after its sign
  by_whole : (limit next : ℕ) (c : Result ℤ NumberError) → next ≡ coordinate_end s at → c ≡ whole_of (eqb (get_or s at 0) 45) (slice (past_sign s at) (coordinate_end s at) s) limit →
      record { coordinate = c; next = next } ≡ coordinate_at s at limit
  unfolding coordinate_at
  by_whole limit next c n e = λ i. record { coordinate = (e ∙ sym (parted limit)) i; next = n i }

-- digits read up to a limit, and the place after all of them: what they say of the coordinate
module _ (s : List ℕ) (at limit from to next : ℕ) (d : Digits) (h : at ≤ length s) (l : limit ≤ 12)
    (p : from ≡ past_sign s at) (o : to ≡ min (length s) (from + limit)) (e : d ≡ digits_in s from to) (n : next ≡ past_digits s d.next) where
  from_to : from ≤ length s
  from_to = rw p (past_sign_to s at h)

  stops : d.next ≡ min to (past_digits s from)
  unfolding digits_in
  stops = ap (λ d. d.next) e

  all_passed : next ≡ past_digits s from
  all_passed = n ∙ passed_on s from d.next (omega (arith, stops, from_to, first_from_lem (λ b. not (is_digit b)) s from)) (omega (arith, stops))

  ends : next ≡ coordinate_end s at
  unfolding coordinate_end
  ends = all_passed ∙ ap (past_digits s) p

  in_text : next ≤ length s
  in_text = rw all_passed (first_to (λ b. not (is_digit b)) s from from_to)

  counted : is_number (slice from next s) ≡ leb 1 (next - from)
  counted = rw all_passed (number_passed s from from_to)

  says : (c : Result ℤ NumberError) → c ≡ whole_of (eqb (get_or s at 0) 45) (slice from next s) limit → record { coordinate = c; next = next } ≡ coordinate_at s at limit
  says c q = by_whole s at h limit next c ends (q ∙ λ i. whole_of (eqb (get_or s at 0) 45) (slice (p i) (ends i) s) limit)

  pub read_none : next ≡ from → record { coordinate = Err number_error.NotForm; next = next } ≡ coordinate_at s at limit
  read_none z = says _ (whole_other _ _ _ (counted ∙ lt-leb 1 (next - from) (omega arith)))

  pub read_long : d.next < next → record { coordinate = Err number_error.TooLong; next = next } ≡ coordinate_at s at limit
  read_long z =
      let k : from + limit < next = omega (arith, stops, all_passed, in_text) in
      says _ (whole_long _ _ _ (counted ∙ le-leb 1 (next - from) (omega arith)) (rw (length-slice from next s in_text) (omega arith)))

  -- none is left over
  module _ (u : next ≤ d.next) where
    last : d.next ≡ next
    last = omega (arith, stops, all_passed)

    worth : d.value ≡ value_of (slice from next s)
    unfolding digits_in
    worth = ap (λ d. d.value) e ∙ ap (λ n. value_of (slice from n s)) (sym stops ∙ last)

    all : all_digits (slice from next s) ≡ true
    all = rw all_passed (digits_passed s from)

    few : next - from ≤ limit
    few = omega (arith, stops, last)

    pub read_small : d.value < 10 ^ 12
    read_small = rw worth (bound_at (value_of (slice from next s)) (next - from) 12 (rw (length-slice from next s in_text) at (value_bound (slice from next s) all)) (omega (arith, few)))

    pub read_value : (z : ℤ) → (next ≡ from → ⊥) → z ≡ signed (eqb (get_or s at 0) 45) d.value → record { coordinate = Ok z; next = next } ≡ coordinate_at s at limit
    read_value z x v =
        says _ (whole_value _ _ _ z (counted ∙ le-leb 1 (next - from) (omega (arith, all_passed, first_from_lem (λ b. not (is_digit b)) s from))) (rw (length-slice from next s in_text) few) (v ∙ ap (signed (eqb (get_or s at 0) 45)) worth))
