-- The pass finds the first item at fault: the outline that it carries is the one that the item before belongs to.
-- Assumes nothing.
use Prim.Native.Nat.{ℕ, zero, suc, ◌+◌, ◌≤◌}
use mathlib.Core.Path.{◌≡◌, refl, sym, ap, ◌∙◌}
use mathlib.Core.Bool.{Bool, true, false, cond, not}
use mathlib.Core.List.{List, [], ◌∷◌}
use native.Mathlib.Omega.{arith}
use lib.Dec.{eqb}
use lib.ListN.{length}
use Rattle.base.specs.And.{◌and◌}
use Rattle.base.proofs.And.{and_true, and_false}
use Rattle.points.specs.Points.{same_point}
use Rattle.law_components.specs.Parts.{Part, nothing, is_outline}
use Rattle.law_components.specs.Outlines.{at, joins, began, ends_open}
use Rattle.law_components.specs.Faults.{lacks, repeats, fault_at, fault, fault_from, fault_of}
use Rattle.law_components.specs.Pass.{met_of, no_outline, goes_on, is_open, outline_after, step_fault, end_fault, pass}
use Rattle.law_components.specs.declared.Fault.{Fault}
use Rattle.law_components.specs.declared.Outline.{Outline}

-- past the last item there is none
past_end : (ps : List Part) (k : ℕ) → length ps ≤ k → at ps k ≡ nothing
past_end [] k l = refl
past_end (p ∷ ps) zero l = absurd (omega arith)
past_end (p ∷ ps) (suc k) l = past_end ps k (omega arith)

-- the outline that item j belongs to
abbrev outline_at : List Part → ℕ → Outline
outline_at ps j = record { under = is_outline (at ps j).role; start = began ps j; end = (at ps j).end; place = (at ps j).place }

-- where what is left agrees, so does the step with it, whatever the four tests say
step_agrees :
    (open-before lack again open-here : Bool) (x y : ℕ) (rest found : Fault)
    → rest ≡ cond open-here (fault 28 y) found
    → elim (eqb (cond open-before (fault 28 x) (cond lack (fault 26 y) (cond again (fault 27 y) (fault 0 0)))).number 0)
    [ true ↦ rest | false ↦ cond open-before (fault 28 x) (cond lack (fault 26 y) (cond again (fault 27 y) (fault 0 0))) ]
    ≡ cond open-before (fault 28 x)
    (elim (eqb (cond lack 26 (cond again 27 (cond open-here 28 0))) 0)
    [ true ↦ found | false ↦ fault (cond lack 26 (cond again 27 (cond open-here 28 0))) y ])
step_agrees true lack again open-here x y rest found e = refl
step_agrees false true again open-here x y rest found e = refl
step_agrees false false true open-here x y rest found e = refl
step_agrees false false false true x y rest found e = e
step_agrees false false false false x y rest found e = e

module _ (ps : List Part) where
  last_open : (j : ℕ) → length ps ≤ suc j → ends_open ps j ≡ is_open (outline_at ps j)
  unfolding ends_open is_open joins nothing is_outline ◌and◌
  last_open j l = rw (past_end ps (suc j) l, and_false (is_outline (at ps j).role)) (and_true _)

  behind : (j n : ℕ) → suc j + n ≡ length ps →
      pass ps (outline_at ps j) (suc j) n ≡ cond (ends_open ps j) (fault 28 (at ps j).place) (fault_from ps (suc j) n)
  unfolding pass met_of fault_from end_fault step_fault fault_at ends_open is_open goes_on joins outline_after began
  behind j zero e = ap (λ t. cond t (fault 28 (at ps j).place) (fault 0 0)) (sym (last_open j (omega arith)))
  behind j (suc n) e =
      step_agrees
      (is_open (outline_at ps j) and not (goes_on (outline_at ps j) (met_of (at ps (suc j)))))
      (lacks (at ps (suc j)))
      (repeats ps (suc j))
      (ends_open ps (suc j))
      _ _ _ _
      (behind (suc j) n (omega arith))

  from_first : (n : ℕ) → n ≡ length ps → pass ps no_outline 0 n ≡ fault_from ps 0 n
  unfolding pass met_of fault_from end_fault step_fault fault_at is_open goes_on outline_after began ◌and◌
  from_first zero e = refl
  from_first (suc n) e = step_agrees false (lacks (at ps 0)) (repeats ps 0) (ends_open ps 0) 0 _ _ _ (behind 0 n (omega arith))

  pub pass_finds : pass ps no_outline 0 (length ps) ≡ fault_of ps
  unfolding fault_of
  pass_finds = from_first (length ps) refl
