-- What the answers of the evaluators say of a text s.
use Rattle.std.specs.Prelude.{ℕ, ◌^◌, ◌≤◌, ◌<◌, ◌≡◌, Bool, true, false, cond, List, ℤ, pos, nat_abs, length, get_or, drop, None, Option, Some}
use Rattle.macro_tokens.specs.Tokens.{tokens}
use Rattle.macro_tokens.specs.declared.Token.{Token}
use Rattle.expression.specs.Grammar.{Reading, refused, reads, Next, stop, go, head, tail, following, after, joined, negated}
use Rattle.expression.specs.declared.Operator.{Operator}
use Rattle.expression.specs.declared.Sign.{Sign}
use Rattle.expression.specs.declared.Sign.TheVariants as sign
use Rattle.expression.specs.declared.Worked.{Worked}

-- every variable is below 10 ^ 12 millionths in size
pub record Fits (variables : List ℤ) : Type 0 where
  pub each : (i : ℕ) → nat_abs (get_or variables i (pos 0)) < 10 ^ 12

-- the value, and the tokens from `next` on
unfoldable pub as_read : List ℕ → Worked → Reading
as_read s r = cond r.fine (reads r.value.millionths (tokens (drop r.next s))) refused

-- r is this reading of what stands from `at` on
pub record Reads (s : List ℕ) (at : ℕ) (r : Worked) (w : Reading) : Type 0 where
  pub says : as_read s r ≡ w
  pub further : at ≤ r.next
  pub small : nat_abs r.value.millionths < 10 ^ 12

unfoldable pub operator_of : Sign → ℕ → ℕ → Operator
operator_of sign.Nothing at next = record { any = false; second = false; next = at }
operator_of sign.First at next = record { any = true; second = false; next = next }
operator_of sign.Second at next = record { any = true; second = true; next = next }

unfoldable pub next_of : List ℕ → Operator → Next
next_of s o = cond o.any (go o.second (tokens (drop o.next s))) stop

-- o is the operator of a rank at a place, if there is one; its operand stands further on
pub record Follows (rank : Token → Sign) (s : List ℕ) (at : ℕ) (o : Operator) : Type 0 where
  pub says : next_of s o ≡ following (rank (head (tokens (drop at s)))) (tail (tokens (drop at s)))
  pub inside : o.any ≡ true → at < length s
  pub further : at ≤ o.next
  pub beyond : o.any ≡ true → at < o.next
  pub none : o.any ≡ false → o.next ≡ at
  pub plain : o.any ≡ false → o.second ≡ false

-- o is the operator of a rank after what was read, if there is one
pub record After (rank : Token → Sign) (s : List ℕ) (w : Worked) (o : Operator) : Type 0 where
  pub says : next_of s o ≡ after rank (as_read s w)
  pub inside : o.any ≡ true → w.next < length s
  pub beyond : o.any ≡ true → w.next < o.next

unfoldable pub worked_of : Option ℤ → ℕ → Worked
worked_of None next = record { fine = false; value = record { millionths = pos 0 }; next = next }
worked_of (Some a) next = record { fine = true; value = record { millionths = a }; next = next }

-- r is the operation of a and b, for every text
pub record Joins (op : ℤ → ℤ → Option ℤ) (a b r : Worked) : Type 0 where
  pub says : (s : List ℕ) → as_read s r ≡ joined op (as_read s a) (as_read s b)
  pub next : r.next ≡ b.next
  pub small : nat_abs r.value.millionths < 10 ^ 12

-- r is w, with the other sign where it has a minus
pub record Negates (minus : Bool) (w r : Worked) : Type 0 where
  pub says : (s : List ℕ) → as_read s r ≡ negated minus (as_read s w)
  pub next : r.next ≡ w.next
  pub small : nat_abs r.value.millionths < 10 ^ 12
