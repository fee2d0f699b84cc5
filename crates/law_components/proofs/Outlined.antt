-- Every item belongs to one run of joined items, and `began` is where the first of these starts.
-- Assumes nothing.
use Prim.Native.Nat.{ℕ, zero, suc, ◌+◌, ◌≤◌, ◌<◌}
use mathlib.Core.Path.{◌≡◌, refl, sym, ap, ◌∙◌}
use mathlib.Core.Bool.{Bool, true, false, cond}
use mathlib.Core.List.{List}
use native.Mathlib.Omega.{arith}
use lib.Dec.{eqb}
use borrow.Author.Tests.{eqb-true, eqb-false}
use Rattle.law_components.specs.Parts.{Part}
use Rattle.law_components.specs.Outlines.{at, joins, began}
use Rattle.law_components.specs.Outlined.{Outlined}

module _ (ps : List Part) where
  shorter : (i k : ℕ) → (i ≡ suc k → ⊥) → Outlined ps i (suc k) → Outlined ps i k
  shorter i k ne o =
      let l = o.inside in
      record { inside = omega arith; joined = λ j a b. o.joined j a (omega arith); first = o.first }

  pub began_is : (i k : ℕ) → Outlined ps i k → began ps k ≡ (at ps i).start
  unfolding began
  began_is i zero o = let l = o.inside in let e : i ≡ 0 = omega arith in rw e
  began_is i (suc k) o = go (eqb i (suc k)) refl (λ ne. began_is i k (shorter i k ne o))
    where
      go : (t : Bool) → eqb i (suc k) ≡ t → ((i ≡ suc k → ⊥) → began ps k ≡ (at ps i).start) → began ps (suc k) ≡ (at ps i).start
      go true q ih = let e : i ≡ suc k = eqb-true i (suc k) q in let f = rw e at (o.first k e) in rw (f, e)
      go false q ih =
          let ne = eqb-false i (suc k) q in
          let l = o.inside in
          let m : i ≤ k = omega arith in
          rw (o.joined k m (omega arith)) (ih ne)

  alone : (k : ℕ) → joins (at ps k) (at ps (suc k)) ≡ false → Outlined ps (suc k) (suc k)
  alone k f = record {
    inside = omega arith;
    joined = λ j a b. absurd (omega arith);
    first = λ j e. let q : j ≡ k = omega arith in rw q f;
  }

  longer : (i k : ℕ) → joins (at ps k) (at ps (suc k)) ≡ true → Outlined ps i k → Outlined ps i (suc k)
  longer i k t o =
      let l = o.inside in
      record { inside = omega arith; joined = λ j a b. by j a b (eqb j k) refl; first = o.first }
    where
      by : (j : ℕ) → i ≤ j → j < suc k → (x : Bool) → eqb j k ≡ x → joins (at ps j) (at ps (suc j)) ≡ true
      by j a b true q = let e = eqb-true j k q in rw e t
      by j a b false q = let ne = eqb-false j k q in o.joined j a (omega arith)

  pub outline_of_lem : (k : ℕ) → (i : ℕ) × Outlined ps i k
  outline_of_lem zero = (0, record { inside = omega arith; joined = λ j a b. absurd (omega arith); first = λ j e. absurd (omega arith) })
  outline_of_lem (suc k) = go (joins (at ps k) (at ps (suc k))) refl (outline_of_lem k)
    where
      go : (t : Bool) → joins (at ps k) (at ps (suc k)) ≡ t → (i : ℕ) × Outlined ps i k → (i : ℕ) × Outlined ps i (suc k)
      go true q o = (o.0, longer o.0 k q o.1)
      go false q o = (suc k, alone k q)
