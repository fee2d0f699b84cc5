-- Where the numbers fit, they stand in the room one after the other and the pen after them; where they do not, the pen stands at the end of
-- the room and is over: 17 is given exactly where more numbers are used than there is room for.
-- Assumes nothing.
use Prim.Native.Nat.{ℕ, ◌+◌, ◌<◌, ◌≤◌}
use mathlib.Core.Path.{◌≡◌, refl, sym, ◌∙◌}
use mathlib.Core.Bool.{Bool, true, false}
use mathlib.Core.List.{List, [], ◌∷◌, ◌++◌, append_assoc}
use native.Mathlib.Numerals.{add-one}
use native.Mathlib.Omega.{arith}
use lib.Dec.{ltb}
use lib.IntN.{ℤ}
use lib.ListN.{length, take, drop, set, length-set, take-append-drop}
use lib.Seq.{take-suc-set, drop-set-lt}
use borrow.Author.Tests.{lt-ltb, le-ltb, ltb-true, ltb-false}
use Rattle.macros.specs.Pen.{penned, pens, laid}
use Rattle.macros.specs.declared.Pen.{Pen}

abbrev pub at_place : ℕ → Bool → Pen
at_place n over = record { at = n; over = over }

module _ (room : ℕ) where
  penned_in : (n : ℕ) → n < room → penned room (at_place n false) ≡ at_place (n + 1) false
  unfolding penned
  penned_in n h = rw (lt-ltb n room h)

  penned_out : (n : ℕ) (over : Bool) → room ≤ n → penned room (at_place n over) ≡ at_place n true
  unfolding penned
  penned_out n over h = rw (le-ltb n room h)

  pub pens_fit : (n : ℕ) (zs : List ℤ) → n + length zs ≤ room → pens room (at_place n false) zs ≡ at_place (n + length zs) false
  unfolding pens
  pens_fit n [] h = let e : n + 0 ≡ n = omega arith in rw e
  pens_fit n (z ∷ zs) h =
      let e : n + 1 + length zs ≡ n + length (z ∷ zs) = omega arith in
      rw (penned_in n (omega arith)) (pens_fit (n + 1) zs (omega arith) ∙ rw e)

  pens_over : (zs : List ℤ) → pens room (at_place room true) zs ≡ at_place room true
  unfolding pens
  pens_over [] = refl
  pens_over (z ∷ zs) = rw (penned_out room true (omega arith)) (pens_over zs)

  pub pens_full : (n : ℕ) (zs : List ℤ) → n ≤ room → room < n + length zs → pens room (at_place n false) zs ≡ at_place room true
  unfolding pens
  pens_full n [] h k = absurd (omega arith)
  pens_full n (z ∷ zs) h k = by (pens_full (n + 1) zs) (ltb n room) refl
    where
      by : (n + 1 ≤ room → room < n + 1 + length zs → pens room (at_place (n + 1) false) zs ≡ at_place room true) →
          (x : Bool) → ltb n room ≡ x → pens room (penned room (at_place n false)) zs ≡ at_place room true
      by ih true e = let l = ltb-true n room e in rw (penned_in n l) (ih (omega arith) (omega arith))
      by ih false e =
          let l = ltb-false n room e in
          let q : n ≡ room = omega arith in
          rw (penned_out n false l, q) (pens_over zs)

-- where they fit they stand between what was there before them and what was there after them
pub laid_fit : (l : List ℤ) (n : ℕ) (zs : List ℤ) → n + length zs ≤ length l →
    laid l (at_place n false) zs ≡ take n l ++ (zs ++ drop (n + length zs) l)
unfolding laid
laid_fit l n [] h = let e : n + 0 ≡ n = omega arith in rw e (sym (take-append-drop n l))
laid_fit l n (z ∷ zs) h =
    let m : length (set l n z) ≡ length l = length-set l n z in
    let e : n + 1 + length zs ≡ n + length (z ∷ zs) = omega arith in
    rw (penned_in (length l) n (omega arith))
    (laid_fit (set l n z) (n + 1) zs (omega arith)
    ∙ rw (e, drop-set-lt (n + length (z ∷ zs)) l n z (omega arith), add-one, take-suc-set l n z (omega arith))
    (append_assoc (take n l) (z ∷ []) (zs ++ drop (n + length (z ∷ zs)) l)))
