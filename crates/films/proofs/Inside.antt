-- A byte other than 0 stands inside its text.
-- Assumes nothing.
use Prim.Native.Nat.{ℕ, ◌≤◌, ◌<◌}
use mathlib.Core.Path.{◌≡◌, refl}
use mathlib.Core.Bool.{Bool, true, false}
use mathlib.Core.List.{List}
use native.Mathlib.Omega.{arith}
use lib.Dec.{leb}
use lib.ListN.{length, get_or, get_or-eq_default}
use borrow.Author.Tests.{leb-true, leb-false}

pub inside : (s : List ℕ) (at : ℕ) → 1 ≤ get_or s at 0 → at < length s
inside s at h = by_test (leb (length s) at) refl
  where
    by_test : (t : Bool) → leb (length s) at ≡ t → at < length s
    by_test true e = absurd (omega (arith, get_or-eq_default s 0 (leb-true (length s) at e)))
    by_test false e = leb-false (length s) at e
