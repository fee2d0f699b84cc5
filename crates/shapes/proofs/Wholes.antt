-- Whole primitives, from the front: the first, and those after it.
-- Assumes nothing.
use Prim.Native.Nat.{ℕ, zero, suc, ◌+◌, ◌-◌, ◌≤◌, ◌<◌}
use mathlib.Core.Path.{◌≡◌, refl, sym, ap, ◌∙◌}
use mathlib.Core.Bool.{Bool, true, false}
use mathlib.Core.List.{List, [], ◌∷◌}
use native.Mathlib.Nat.{add-zero}
use native.Mathlib.Omega.{arith}
use lib.IntN.{ℤ}
use lib.ListN.{length, get_or, drop, length-drop}
use lib.Seq.{get_or-drop, drop-drop}
use Rattle.shapes.specs.Primitives.{primitive_at, behind, stands, onto, primitives_in}
use Rattle.shapes.specs.declared.Primitive.{Primitive}
use Rattle.shapes.proofs.Cutting.{in_end, in_on, in_broken, stands_within}
use Rattle.shapes.specs.Runs.{Whole, zero_primitive}

module _ (n : List ℤ) (at end : ℕ) where
  abbrev pub list_at : ℕ → List Primitive
  list_at i = (primitives_in n i end).list

  pub whole_ends : end ≤ at → list_at at ≡ []
  whole_ends h = ap (λ c. c.list) (in_end n end at h)

  module _ (h : at < end) (w : Whole n at end) where
    whole_stands : stands n at end ≡ true
    whole_stands = go (stands n at end) refl
      where
        go : (t : Bool) → stands n at end ≡ t → stands n at end ≡ true
        go true e = e
        go false e = absurd (let q : true ≡ false = sym w.whole ∙ ap (λ c. c.whole) (in_broken n end at h e) in let z : ◌≡◌ {A = ℕ} 0 1 = cc in omega arith)

    pub whole_list : list_at at ≡ primitive_at n at ∷ list_at (behind n at)
    unfolding onto
    whole_list = ap (λ c. c.list) (in_on n end at h whole_stands)

    pub whole_on : Whole n (behind n at) end
    unfolding onto
    whole_on = record {
      ordered = stands_within n end at whole_stands;
      inside = w.inside;
      whole = sym (ap (λ c. c.whole) (in_on n end at h whole_stands)) ∙ w.whole;
    }

pub drop_step : (left : ℕ) (p : Primitive) (ps : List Primitive) → 0 < left → drop left (p ∷ ps) ≡ drop (left - 1) ps
drop_step zero p ps h = absurd (omega arith)
drop_step (suc left) p ps h = let e : suc left - 1 ≡ left = omega arith in rw e

pub drop_none : (left : ℕ) → ◌≡◌ {A = List Primitive} (drop left []) []
drop_none zero = refl
drop_none (suc left) = refl

-- the list from primitive j on
module _ (ps rest : List Primitive) (j : ℕ) (p : Primitive) (e : p ∷ rest ≡ drop j ps) where
  pub list_first : p ≡ get_or ps j zero_primitive
  list_first = ap (λ l. get_or l 0 zero_primitive) e ∙ rw (add-zero j) at (get_or-drop j ps 0 zero_primitive)

  pub list_next : rest ≡ drop (j + 1) ps
  list_next = ap (drop 1) e ∙ drop-drop 1 j ps

pub list_past : (ps : List Primitive) (j : ℕ) → [] ≡ drop j ps → length ps ≤ j
list_past ps j e = let f = ap length e ∙ length-drop j ps in omega arith
