-- Where the links lead: step by step, to a record that has the number, and, where all records are led to, to the only one.
-- Assumes nothing.
use Prim.Native.Nat.{ℕ, zero, suc, ◌-◌, ◌/◌, ◌≤◌, ◌<◌}
use mathlib.Core.Path.{◌≡◌, refl, sym, ap, ◌∙◌}
use mathlib.Core.Bool.{Bool, true, false}
use mathlib.Core.List.{List}
use native.Mathlib.Nat.{zero-add}
use native.Mathlib.Omega.{arith}
use lib.Dec.{eqb, ltb}
use borrow.Author.Tests.{eq-eqb, ne_eqb, eqb-true, lt-ltb, le-ltb}
use Rattle.sheet.proofs.Every.{every_at}
use Rattle.summary.specs.Links.{number_at, link_at, leads_to, record_of, is_led, is_linked}

module _ (a : List ℕ) (n : ℕ) where
  pub lead_end : (b key k : ℕ) → leads_to a n 0 b key k ≡ n
  unfolding leads_to
  lead_end b key k = refl

  -- one step, by its two tests
  step_as : (steps b key k : ℕ) {t u : Bool} → ltb b n ≡ t → eqb (number_at a b) k ≡ u →
      leads_to a n (suc steps) b key k ≡ elim t [ true ↦ elim u [ true ↦ b | false ↦ leads_to a n steps (link_at a b key) (key / 2) k ] | false ↦ n ]
  unfolding leads_to
  step_as steps b key k p q = λ i. elim (p i) [ true ↦ elim (q i) [ true ↦ b | false ↦ leads_to a n steps (link_at a b key) (key / 2) k ] | false ↦ n ]

  pub lead_past : (steps b key k : ℕ) → n ≤ b → leads_to a n steps b key k ≡ n
  lead_past zero b key k h = lead_end b key k
  lead_past (suc steps) b key k h = step_as steps b key k (le-ltb b n h) refl

  pub lead_here : (steps b key k : ℕ) → 0 < steps → b < n → number_at a b ≡ k → leads_to a n steps b key k ≡ b
  lead_here zero b key k s h e = absurd (omega arith)
  lead_here (suc steps) b key k s h e = step_as steps b key k (lt-ltb b n h) (eq-eqb _ _ e)

  pub lead_on : (steps b key k : ℕ) → 0 < steps → b < n → (number_at a b ≡ k → ⊥) → leads_to a n steps b key k ≡ leads_to a n (steps - 1) (link_at a b key) (key / 2) k
  lead_on zero b key k s h e = absurd (omega arith)
  lead_on (suc steps) b key k s h e =
      let one : steps ≡ suc steps - 1 = omega arith in
      step_as steps b key k (lt-ltb b n h) (ne_eqb _ _ e) ∙ ap (λ (m : ℕ). leads_to a n m (link_at a b key) (key / 2) k) one

  lead_sound : (steps b key k : ℕ) → leads_to a n steps b key k < n → number_at a (leads_to a n steps b key k) ≡ k
  unfolding leads_to
  lead_sound zero b key k h = absurd (omega arith)
  lead_sound (suc steps) b key k h = go (ltb b n) (eqb (number_at a b) k) refl h (lead_sound steps (link_at a b key) (key / 2) k)
    where
      go : (t u : Bool) → eqb (number_at a b) k ≡ u →
          elim t [ true ↦ elim u [ true ↦ b | false ↦ leads_to a n steps (link_at a b key) (key / 2) k ] | false ↦ n ] < n →
          (leads_to a n steps (link_at a b key) (key / 2) k < n → number_at a (leads_to a n steps (link_at a b key) (key / 2) k) ≡ k) →
          number_at a (elim t [ true ↦ elim u [ true ↦ b | false ↦ leads_to a n steps (link_at a b key) (key / 2) k ] | false ↦ n ]) ≡ k
      go true true e l ih = eqb-true _ _ e
      go true false e l ih = ih l
      go false u e l ih = absurd (omega arith)

  pub record_sound : (k : ℕ) → record_of a n k < n → number_at a (record_of a n k) ≡ k
  unfolding record_of
  record_sound k h = lead_sound 65 0 k k h

  pub record_start : (k : ℕ) → leads_to a n 65 0 k k ≡ record_of a n k
  unfolding record_of
  record_start k = refl

  module _ (linked : is_linked a n ≡ true) where
    pub record_is : (b : ℕ) → b < n → record_of a n (number_at a b) ≡ b
    unfolding is_linked is_led
    record_is b l = let t = every_at (is_led a n) 0 n linked b l in eqb-true (record_of a n (number_at a b)) b (rw (zero-add b) at t)

    -- another record has another number; and where none is found, none has it
    pub number_other : (k b : ℕ) → b < n → (b ≡ record_of a n k → ⊥) → number_at a b ≡ k → ⊥
    number_other k b l ne e = ne (sym (record_is b l) ∙ ap (record_of a n) e)

    pub number_none : (k b : ℕ) → b < n → n ≤ record_of a n k → number_at a b ≡ k → ⊥
    number_none k b l h e = let q = sym (record_is b l) ∙ ap (record_of a n) e in omega arith
