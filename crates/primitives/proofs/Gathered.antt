-- What is asked of parameters that come one after the other.
-- Assumes nothing.
use Prim.Native.Nat.{ℕ, zero, suc, ◌+◌}
use mathlib.Core.Path.{◌≡◌, refl, sym, ap, ◌∙◌}
use mathlib.Core.Bool.{cond}
use mathlib.Core.List.{List, [], ◌∷◌, ◌++◌, reverse, reverse-append, append_assoc, append-nil}
use lib.Dec.{eqb, eqb-zero-suc, eqb-suc-zero, eqb-suc-suc}
use lib.IntN.{ℤ, pos}
use lib.ListN.{length, get_or, length-append}
use Rattle.primitives.specs.Asked.{amount, none, asked, added}
use Rattle.primitives.specs.declared.Asked.{Asked}
use Rattle.decimal.specs.declared.answers.Amount.{Amount}

nth_last : (zs : List ℤ) (z d : ℤ) (i : ℕ) → amount (get_or (zs ++ (z ∷ [])) i d) ≡ cond (eqb (length zs) i) (amount z) (amount (get_or zs i d))
nth_last [] z d zero = refl
nth_last [] z d (suc i) = rw (eqb-zero-suc i)
nth_last (y ∷ zs) z d zero = rw (eqb-suc-zero (length zs))
nth_last (y ∷ zs) z d (suc i) = rw (eqb-suc-suc (length zs) i) (nth_last zs z d i)

pub added_last : (zs : List ℤ) (z : ℤ) → asked none (zs ++ (z ∷ [])) ≡ added (asked none zs) (amount z)
unfolding asked added none
added_last zs z =
    let back : reverse (zs ++ (z ∷ [])) ≡ z ∷ reverse zs = reverse-append zs (z ∷ []) in
    λ i.
    record {
      count = length-append zs (z ∷ []) i;
      first = nth_last zs z (pos 0) 0 i;
      second = nth_last zs z (pos 0) 1 i;
      third = nth_last zs z (pos 0) 2 i;
      fourth = nth_last zs z (pos 0) 3 i;
      fifth = nth_last zs z (pos 0) 4 i;
      antepenult = amount (get_or (back i) 2 (pos 0));
      penult = amount (get_or (back i) 1 (pos 0));
      last = amount (get_or (back i) 0 (pos 0));
    }

-- those from here on, after those before
unfoldable pub gathered : Asked → List ℤ → Asked
gathered q [] = q
gathered q (z ∷ zs) = gathered (added q (amount z)) zs

gathered_behind : (before zs : List ℤ) → gathered (asked none before) zs ≡ asked none (before ++ zs)
unfolding gathered
gathered_behind before [] = ap (asked none) (sym (append-nil before))
gathered_behind before (z ∷ zs) =
    ap (λ (q : Asked). gathered q zs) (sym (added_last before z))
    ∙ gathered_behind (before ++ (z ∷ [])) zs
    ∙ ap (asked none) (append_assoc before (z ∷ []) zs)

pub gathered_is : (zs : List ℤ) → gathered (asked none []) zs ≡ asked none zs
gathered_is zs = gathered_behind [] zs
