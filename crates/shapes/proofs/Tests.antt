-- A test by what is left, for one by a sum.
-- Assumes nothing.
use Prim.Native.Nat.{ℕ, ◌+◌, ◌-◌, ◌≤◌}
use mathlib.Core.Path.{◌≡◌, refl, sym, ◌∙◌}
use mathlib.Core.Bool.{Bool, true, false}
use native.Mathlib.Omega.{arith}
use lib.Dec.{ltb}
use borrow.Author.Tests.{lt-ltb, le-ltb, ltb-true, ltb-false}

pub over_rest : (used first len : ℕ) → first ≤ used → ltb (used - first) len ≡ ltb used (first + len)
over_rest used first len h = go (ltb (used - first) len) refl
  where
    go : (b : Bool) → ltb (used - first) len ≡ b → ltb (used - first) len ≡ ltb used (first + len)
    go true e = let l = ltb-true (used - first) len e in e ∙ sym (lt-ltb used (first + len) (omega arith))
    go false e = let l = ltb-false (used - first) len e in e ∙ sym (le-ltb used (first + len) (omega arith))
