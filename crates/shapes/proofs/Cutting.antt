-- Numbers cut into primitives, from the front: the first, and those after it.
-- Assumes nothing.
use Prim.Native.Nat.{ℕ, zero, suc, ◌+◌, ◌-◌, ◌≤◌, ◌<◌}
use mathlib.Core.Path.{◌≡◌, refl, sym, ap, ◌∙◌}
use mathlib.Core.Bool.{Bool, true, false}
use mathlib.Core.List.{List, []}
use native.Mathlib.Omega.{arith}
use lib.Dec.{ltb}
use Rattle.std.specs.Prelude.{Option, Some, None}
use lib.IntN.{ℤ}
use lib.ListN.{length}
use borrow.Author.Tests.{lt-ltb, le-ltb, leb-true}
use Rattle.base.proofs.And.{and_l, and_r}
use Rattle.shapes.specs.Primitives.{primitive_at, behind, stands, Cut, onto, cut_from, primitives_in, counted_by, counted_as}

pub first_is : (n : List ℤ) (at : ℕ) → (primitive_at n at).first ≡ at + 1
unfolding primitive_at
first_is n at = refl

-- where the next one stands, by the primitive itself
pub behind_is : (n : List ℤ) (at : ℕ) → (primitive_at n at).first + (primitive_at n at).count ≡ behind n at
unfolding primitive_at
behind_is n at = refl

module _ (n : List ℤ) (end : ℕ) where
  abbrev whole : Cut
  whole = record { whole = true; list = [] }

  abbrev broken : Cut
  broken = record { whole = false; list = [] }

  step_as : (steps at : ℕ) {t u : Bool} → ltb at end ≡ t → stands n at end ≡ u →
      cut_from n (suc steps) at end ≡ elim t [ true ↦ elim u [ true ↦ onto (primitive_at n at) (cut_from n steps (behind n at) end) | false ↦ broken ] | false ↦ whole ]
  unfolding cut_from
  step_as steps at p q =
      λ x. elim (p x) [ true ↦ elim (q x) [ true ↦ onto (primitive_at n at) (cut_from n steps (behind n at) end) | false ↦ broken ] | false ↦ whole ]

  from_end : (steps at : ℕ) → end ≤ at → cut_from n steps at end ≡ whole
  unfolding cut_from
  from_end zero at h = rw (le-ltb at end h)
  from_end (suc steps) at h = step_as steps at (le-ltb at end h) refl

  from_on_lem : (steps at : ℕ) → at < end → stands n at end ≡ true → cut_from n (suc steps) at end ≡ onto (primitive_at n at) (cut_from n steps (behind n at) end)
  from_on_lem steps at h e = step_as steps at (lt-ltb at end h) e

  from_broken : (steps at : ℕ) → at < end → stands n at end ≡ false → cut_from n (suc steps) at end ≡ broken
  from_broken steps at h e = step_as steps at (lt-ltb at end h) e

  -- steps enough for the numbers left are enough
  enough : (k j at : ℕ) → end ≤ at + k → end ≤ at + j → cut_from n k at end ≡ cut_from n j at end
  enough zero j at h l = from_end zero at (omega arith) ∙ sym (from_end j at (omega arith))
  enough (suc k) zero at h l = from_end (suc k) at (omega arith) ∙ sym (from_end zero at (omega arith))
  enough (suc k) (suc j) at h l = go (ltb at end) refl (stands n at end) refl (enough k j (behind n at) (omega arith) (omega arith))
    where
      go : (t : Bool) → ltb at end ≡ t → (u : Bool) → stands n at end ≡ u → cut_from n k (behind n at) end ≡ cut_from n j (behind n at) end →
          cut_from n (suc k) at end ≡ cut_from n (suc j) at end
      go true e true f rest = step_as k at e f ∙ ap (onto (primitive_at n at)) rest ∙ sym (step_as j at e f)
      go true e false f rest = step_as k at e f ∙ sym (step_as j at e f)
      go false e u f rest = step_as k at e f ∙ sym (step_as j at e f)

  pub in_end : (at : ℕ) → end ≤ at → primitives_in n at end ≡ whole
  unfolding primitives_in
  in_end at h = from_end (end - at) at h

  module _ (at : ℕ) (h : at < end) where
    left : end - at ≡ suc (end - at - 1)
    left = omega arith

    pub in_on : stands n at end ≡ true → primitives_in n at end ≡ onto (primitive_at n at) (primitives_in n (behind n at) end)
    unfolding primitives_in
    in_on e =
        ap (λ (k : ℕ). cut_from n k at end) left ∙ from_on_lem (end - at - 1) at h e
        ∙ ap (onto (primitive_at n at)) (enough (end - at - 1) (end - behind n at) (behind n at) (omega arith) (omega arith))

    pub in_broken : stands n at end ≡ false → primitives_in n at end ≡ broken
    unfolding primitives_in
    in_broken e = ap (λ (k : ℕ). cut_from n k at end) left ∙ from_broken (end - at - 1) at h e

  -- a whole primitive ends where the numbers do, or before
  pub stands_within : (at : ℕ) → stands n at end ≡ true → behind n at ≤ end
  unfolding stands
  stands_within at e = leb-true (behind n at) end (and_r _ _ (and_l _ _ e))

-- so many are counted already
unfoldable pub counted_on : ℕ → Cut → Option ℕ
counted_on k c = counted_by c.whole (k + length c.list)

pub count_starts : (c : Cut) → counted_on 0 c ≡ counted_as c
unfolding counted_on counted_as
count_starts c = let e : 0 + length c.list ≡ length c.list = omega arith in ap (counted_by c.whole) e

module _ (n : List ℤ) (end k at : ℕ) where
  pub count_on : at < end → stands n at end ≡ true → counted_on k (primitives_in n at end) ≡ counted_on (k + 1) (primitives_in n (behind n at) end)
  unfolding counted_on onto
  count_on h e =
      let c = primitives_in n (behind n at) end in
      let q : k + suc (length c.list) ≡ k + 1 + length c.list = omega arith in
      rw (in_on n end at h e, q)

  pub count_broken : at < end → stands n at end ≡ false → counted_on k (primitives_in n at end) ≡ None
  unfolding counted_on counted_by
  count_broken h e = rw (in_broken n end at h e)

  pub count_ends : end ≤ at → counted_on k (primitives_in n at end) ≡ Some k
  unfolding counted_on counted_by
  count_ends h = let q : k + 0 ≡ k = omega arith in rw (in_end n end at h) (ap Some q)
