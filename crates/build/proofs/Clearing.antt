-- A list set to one value from a place on, up to another or to its end.
-- Assumes nothing.
use Prim.Native.Nat.{ℕ, zero, suc, ◌+◌, ◌-◌, ◌≤◌, ◌<◌}
use mathlib.Core.Path.{◌≡◌, refl, sym, ◌∙◌}
use mathlib.Core.List.{List, ◌++◌, append-nil, append_assoc}
use native.Mathlib.Nat.{le_refl}
use native.Mathlib.Numerals.{add-one}
use native.Mathlib.Omega.{arith}
use lib.ListN.{length, get_or, set, take, drop, replicate, length-append, length-replicate, take-append-drop, drop_of_length-le, replicate-append-replicate}
use lib.Seq.{length-take-le, drop-cons, set_at}

module _ {A : Type 0} (z : A) where
  -- what is read of nothing but z is z
  pub zeros_read : (n k : ℕ) → get_or (replicate n z) k z ≡ z
  zeros_read zero k = refl
  zeros_read (suc n) zero = refl
  zeros_read (suc n) (suc k) = zeros_read n k

  -- from p up to i all is z
  pub cleared : List A → ℕ → ℕ → List A
  cleared e p i = take p e ++ replicate (i - p) z ++ drop i e

  pub cleared_none : (e : List A) (p : ℕ) → e ≡ cleared e p p
  unfolding cleared
  cleared_none e p = let none : p - p ≡ 0 = omega arith in rw (none, append-nil) (sym (take-append-drop p e))

  pub cleared_more : (e : List A) (p i : ℕ) → p ≤ i → i < length e → set (cleared e p i) i z ≡ cleared e p (i + 1)
  unfolding cleared
  cleared_more e p i l inside =
      let front : length (take p e ++ replicate (i - p) z) ≡ i = length-append (take p e) (replicate (i - p) z) ∙ rw (length-take-le p e (omega arith), length-replicate (i - p) z) (omega arith) in
      let one : i + 1 - p ≡ i - p + 1 = omega arith in
      let seam = set_at (take p e ++ replicate (i - p) z) (get_or e i z) (drop (suc i) e) z i front in
      rw (drop-cons e i z inside, seam, one, ← replicate-append-replicate (i - p) 1 z, add-one i) (simp append_assoc)

  pub cleared_all : (e : List A) (p i : ℕ) → i ≤ length e → length e ≤ i → cleared e p i ≡ take p e ++ replicate (length e - p) z
  unfolding cleared
  cleared_all e p i l m = let whole : i ≡ length e = omega arith in rw (whole, drop_of_length-le e (le_refl _)) (append-nil _)
