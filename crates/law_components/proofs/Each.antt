-- Laws of `each`: pieces one after the other, and by numbers.
-- Assumes nothing.
use Prim.Native.Nat.{ℕ, suc, ◌+◌, ◌<◌}
use mathlib.Core.Path.{◌≡◌, refl, sym, ap, ◌∙◌}
use mathlib.Core.Bool.{Bool, true, false, cond}
use mathlib.Core.List.{List, [], ◌∷◌, ◌++◌, append_assoc, append-nil}
use native.Mathlib.Nat.{add-zero}
use native.Mathlib.Omega.{arith}
use lib.ListN.{length, take}
use lib.Seq.{take-suc}
use Rattle.law_components.specs.Parts.{Part, nothing}
use Rattle.law_components.specs.Outlines.{at}
use Rattle.law_components.specs.Placements.{each}
use Rattle.law_components.specs.Numbers.{numbers_from, by_number}

each_append : (f : Part → List ℕ) (l m : List Part) → each f (l ++ m) ≡ each f l ++ each f m
unfolding each
each_append f [] m = refl
each_append f (p ∷ l) m = ap (λ s. f p ++ s) (each_append f l m) ∙ sym (append_assoc (f p) (each f l) (each f m))

-- as a loop goes: an item more
pub each_more : (f : Part → List ℕ) (ps : List Part) (k : ℕ) → k < length ps → each f (take (suc k) ps) ≡ each f (take k ps) ++ f (at ps k)
unfolding each
each_more f ps k l =
    ap (each f) (take-suc ps k nothing l) ∙ each_append f (take k ps) (at ps k ∷ []) ∙ ap (λ s. each f (take k ps) ++ s) (append-nil (f (at ps k)))

-- only the items that pass a test put out something
module _ (test : Part → Bool) where
  pub each_numbered : (f g : Part → List ℕ) → ((p : Part) → f p ≡ cond (test p) (g p) []) → (all ps : List Part) (i : ℕ) →
      ((k : ℕ) → at all (i + k) ≡ at ps k) → each f ps ≡ by_number (λ k. g (at all k)) (numbers_from test i ps)
  unfolding each by_number numbers_from
  each_numbered f g h all [] i lie = refl
  each_numbered f g h all (p ∷ ps) i lie =
      go (test p) refl (each_numbered f g h all ps (suc i) (λ k. let e : suc i + k ≡ i + suc k = omega arith in rw e (lie (suc k))))
    where
      here : at all i ≡ p
      here = rw (add-zero i) at (lie 0)

      go : (t : Bool) → test p ≡ t → each f ps ≡ by_number (λ k. g (at all k)) (numbers_from test (suc i) ps) →
          f p ++ each f ps ≡ by_number (λ k. g (at all k)) (elim t [ true ↦ i ∷ numbers_from test (suc i) ps | false ↦ numbers_from test (suc i) ps ])
      go true q ih = let e : f p ≡ g p = rw q at (h p) in let e' : f p ≡ g (at all i) = e ∙ ap g (sym here) in λ j. e' j ++ ih j
      go false q ih = let e : f p ≡ [] = rw q at (h p) in λ j. e j ++ ih j
