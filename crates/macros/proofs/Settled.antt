-- Variables stay small: all are at the start, and whatever is set is.
-- Assumes nothing.
use Prim.Native.Nat.{ℕ, zero, suc, ◌+◌, ◌^◌, ◌<◌, ◌≤◌}
use mathlib.Core.Path.{◌≡◌}
use mathlib.Core.List.{List, [], ◌∷◌}
use native.Mathlib.Omega.{arith}
use lib.IntN.{ℤ, pos, nat_abs}
use lib.ListN.{length, drop, get_or, set, replicate}
use lib.Seq.{slice}
use Rattle.text.specs.First.{place}
use Rattle.command.specs.Numbers.{size_of}
use Rattle.expression.specs.Reading.{Fits}
use Rattle.text.specs.Pieces.{pieces}
use Rattle.text.proofs.Pieces.{pieces_next, pieces_end}
use Rattle.macros.specs.Given.{given}

small_set : (l : List ℤ) (i j : ℕ) (z : ℤ) → nat_abs z < 10 ^ 12 → ((k : ℕ) → nat_abs (get_or l k (pos 0)) < 10 ^ 12) → nat_abs (get_or (set l i z) j (pos 0)) < 10 ^ 12
small_set [] i j z h f = f j
small_set (x ∷ l) zero zero z h f = h
small_set (x ∷ l) zero (suc j) z h f = f (suc j)
small_set (x ∷ l) (suc i) zero z h f = f zero
small_set (x ∷ l) (suc i) (suc j) z h f = small_set l i j z h (λ k. f (suc k))

pub fits_set : (l : List ℤ) (i : ℕ) (z : ℤ) → Fits l → nat_abs z < 10 ^ 12 → Fits (set l i z)
fits_set l i z f h = record { each = λ j. small_set l i j z h f.each }

zeros : (n k : ℕ) → nat_abs (get_or (replicate n (pos 0)) k (pos 0)) < 10 ^ 12
zeros zero k = omega arith
zeros (suc n) zero = omega arith
zeros (suc n) (suc k) = zeros n k

pub fits_none : (n : ℕ) → Fits (replicate n (pos 0))
fits_none n = record { each = zeros n }

-- the next parameter, and those after it
module _ (m : ℕ) (s : List ℕ) (at i : ℕ) (l : List ℤ) where
  pub given_next : at < length s →
      given i l (pieces m (drop at s))
      ≡ given (i + 1) (set l i (size_of (slice (at + 1) (place m s (at + 1)) s)).value.millionths) (pieces m (drop (place m s (at + 1)) s))
  unfolding given
  given_next h = rw (pieces_next m s at h)

  pub given_end : length s ≤ at → given i l (pieces m (drop at s)) ≡ l
  unfolding given
  given_end h = rw (pieces_end m s at h)
