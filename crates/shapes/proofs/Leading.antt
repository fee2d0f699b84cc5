-- Where the links lead, step by step; and, of a table that a reading builds, to the only record with the number, in fewer steps than allowed.
-- Assumes nothing.
use Rattle.std.specs.Prelude.{Err, Ok, Result}
use Rattle.shapes.specs.declared.LookupError.{LookupError}
use Prim.Native.Nat.{ℕ, zero, suc, ◌-◌, ◌≤◌, ◌<◌}
use mathlib.Core.Path.{◌≡◌, refl, sym, ap, ◌∙◌}
use mathlib.Core.Bool.{Bool, true, false}
use mathlib.Core.List.{List}
use native.Mathlib.Omega.{arith}
use lib.Dec.{eqb, ltb}
use borrow.Author.Tests.{eq-eqb, ne_eqb, eqb-true, eqb-false, lt-ltb, le-ltb, ltb-true}
use Rattle.index.specs.Tree.{bits_above, next}
use Rattle.index.specs.Numbers.{number_of}
use Rattle.shapes.specs.Links.{led_from, led}
use Rattle.shapes.specs.declared.LookupError.TheVariants as lookup_error

module _ (a : List ℕ) (used number : ℕ) where
  pub lead_none : (i key : ℕ) → led_from a used number 0 i key ≡ Err lookup_error.NotSheet
  unfolding led_from
  lead_none i key = refl

  -- one step, by its three tests
  step_as : (steps i key : ℕ) {t u v : Bool} → ltb i used ≡ t → eqb (number_of a i) number ≡ u → eqb (next a i key) 0 ≡ v →
      led_from a used number (suc steps) i key
      ≡ elim t [ true ↦ elim u [ true ↦ Ok i | false ↦ elim v [ true ↦ Err lookup_error.Unknown | false ↦ led_from a used number steps (next a i key) (bits_above key) ] ] | false ↦ Err lookup_error.NotSheet ]
  unfolding led_from
  step_as steps i key p q r =
      λ x. elim (p x) [ true ↦ elim (q x) [ true ↦ Ok i | false ↦ elim (r x) [ true ↦ Err lookup_error.Unknown | false ↦ led_from a used number steps (next a i key) (bits_above key) ] ] | false ↦ Err lookup_error.NotSheet ]

  pub lead_past : (steps i key : ℕ) → used ≤ i → led_from a used number steps i key ≡ Err lookup_error.NotSheet
  lead_past zero i key h = lead_none i key
  lead_past (suc steps) i key h = step_as steps i key (le-ltb i used h) refl refl

  pub lead_here : (steps i key : ℕ) → 0 < steps → i < used → number_of a i ≡ number → led_from a used number steps i key ≡ Ok i
  lead_here zero i key s h e = absurd (omega arith)
  lead_here (suc steps) i key s h e = step_as steps i key (lt-ltb i used h) (eq-eqb _ _ e) refl

  pub lead_end : (steps i key : ℕ) → 0 < steps → i < used → (number_of a i ≡ number → ⊥) → next a i key ≡ 0 → led_from a used number steps i key ≡ Err lookup_error.Unknown
  lead_end zero i key s h e z = absurd (omega arith)
  lead_end (suc steps) i key s h e z = step_as steps i key (lt-ltb i used h) (ne_eqb _ _ e) (eq-eqb _ _ z)

  pub lead_on : (steps i key : ℕ) → 0 < steps → i < used → (number_of a i ≡ number → ⊥) → (next a i key ≡ 0 → ⊥) →
      led_from a used number steps i key ≡ led_from a used number (steps - 1) (next a i key) (bits_above key)
  lead_on zero i key s h e z = absurd (omega arith)
  lead_on (suc steps) i key s h e z =
      let one : steps ≡ suc steps - 1 = omega arith in
      step_as steps i key (lt-ltb i used h) (ne_eqb _ _ e) (ne_eqb _ _ z) ∙ ap (λ (m : ℕ). led_from a used number m (next a i key) (bits_above key)) one

  pub led_none : used ≡ 0 → led a used number ≡ Err lookup_error.Unknown
  unfolding led
  led_none e = rw (eq-eqb used 0 e, led)

  pub led_some : (used ≡ 0 → ⊥) → led a used number ≡ led_from a used number 32 0 number
  unfolding led
  led_some e = rw (ne_eqb used 0 e, led)

  -- what they lead to is in use
  from_within : (steps i key b : ℕ) → led_from a used number steps i key ≡ Ok b → b < used
  unfolding led_from
  from_within zero i key b e = absurd (let w : ◌≡◌ {A = ℕ} 0 1 = cc in omega arith)
  from_within (suc steps) i key b e =
      go (ltb i used) refl (eqb (number_of a i) number) (eqb (next a i key) 0) e (from_within steps (next a i key) (bits_above key) b)
    where
      go : (t : Bool) → ltb i used ≡ t → (u v : Bool) →
          ◌≡◌ {A = Result ℕ LookupError} (elim t [ true ↦ elim u [ true ↦ Ok i | false ↦ elim v [ true ↦ Err lookup_error.Unknown | false ↦ led_from a used number steps (next a i key) (bits_above key) ] ] | false ↦ Err lookup_error.NotSheet ]) (Ok b) →
          (led_from a used number steps (next a i key) (bits_above key) ≡ Ok b → b < used) → b < used
      go true p true v e rest = let h = ltb-true i used p in let q : i ≡ b = cc in omega arith
      go true p false true e rest = absurd (let w : ◌≡◌ {A = ℕ} 0 1 = cc in omega arith)
      go true p false false e rest = rest e
      go false p u v e rest = absurd (let w : ◌≡◌ {A = ℕ} 0 1 = cc in omega arith)

  pub led_within : (b : ℕ) → led a used number ≡ Ok b → b < used
  led_within b e = go (eqb used 0) refl
    where
      go : (t : Bool) → eqb used 0 ≡ t → b < used
      go true q = absurd (let f = sym (led_none (eqb-true used 0 q)) ∙ e in let w : ◌≡◌ {A = ℕ} 0 1 = cc in omega arith)
      go false q = from_within 32 0 number b (sym (led_some (eqb-false used 0 q)) ∙ e)
