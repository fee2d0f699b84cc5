-- Of a table that a reading builds, the links lead to the only record with a number, and nowhere where none has it: no record lies deeper than
-- numbers have bits.
-- Assumes nothing.
use Rattle.std.specs.Prelude.{Err, Ok}
use Prim.Native.Nat.{ℕ, zero, suc, ◌+◌, ◌-◌, ◌^◌, ◌≤◌, ◌<◌}
use mathlib.Core.Path.{◌≡◌, refl, sym, ap, ◌∙◌}
use mathlib.Core.Bool.{Bool, true, false}
use mathlib.Core.List.{List}
use native.Mathlib.Omega.{arith}
use lib.Dec.{eqb}
use borrow.Author.Tests.{eqb-true, eqb-false}
use Rattle.index.specs.Tree.{bits_above, next}
use Rattle.index.specs.Indexed.{Leads, here, on}
use Rattle.index.specs.Layered.{above}
use Rattle.index.specs.Numbers.{number_of, Numbered}
use Rattle.index.proofs.Layers.{Walks, walk_deep}
use Rattle.shapes.specs.Links.{led_from, led}
use Rattle.shapes.proofs.Leading.{lead_here, lead_end, lead_on, led_none, led_some}
use Rattle.shapes.specs.declared.LookupError.TheVariants as lookup_error

-- the numbers of apertures have 31 bits
abbrev pub most_numbers : ℕ
most_numbers = 2147483648

module _ (a : List ℕ) (used : ℕ) (t : Numbered a used) (low : (i : ℕ) → i < used → number_of a i < most_numbers) where
  -- from a record as deep as that nothing leads on: it would have the same number
  deep_ends : (i key : ℕ) → i < used → t.layers.depth i ≡ 31 → next a i key ≡ 0
  deep_ends i key h e = go (eqb (next a i key) 0) refl
    where
      go : (x : Bool) → eqb (next a i key) 0 ≡ x → next a i key ≡ 0
      go true p = eqb-true (next a i key) 0 p
      go false p =
          let q = eqb-false (next a i key) 0 p in
          let some : 0 < next a i key = omega (arith, q) in
          let l = t.tree.later i key h some in
          let sought : ℕ = number_of a (next a i key) in
          let w : Walks a (number_of a) used t.tree t.layers sought i (above 31 sought) 31 =
          record { standing = h; rest = refl; deep = e; alike = rw e at (t.layers.alike i key h some) } in
          let same = walk_deep a (number_of a) used t.tree t.layers w (low (next a i key) l.1) (low i h) in
          let one = t.distinct (next a i key) i l.1 h same in
          absurd (omega (arith, one, l.0))

  -- a link to follow: where it leads to is in use, and no deeper than 31
  record Onward (i key d : ℕ) : Type 0 where
    inside : next a i key < used
    depth : t.layers.depth (next a i key) ≡ suc d
    few : suc d ≤ 31

  onward : (i key d : ℕ) → i < used → t.layers.depth i ≡ d → d ≤ 31 → (next a i key ≡ 0 → ⊥) → Onward i key d
  onward i key d h e l q =
      let some : 0 < next a i key = omega (arith, q) in
      record {
        inside = (t.tree.later i key h some).1;
        depth = t.layers.deeper i key h some ∙ ap suc e;
        few = go (eqb d 31) refl;
      }
    where
      go : (x : Bool) → eqb d 31 ≡ x → suc d ≤ 31
      go true p = absurd (q (deep_ends i key h (e ∙ eqb-true d 31 p)))
      go false p = let r = eqb-false d 31 p in omega (arith, r, l)

  leads_to_lem : (steps d i key j : ℕ) → steps + d ≡ 32 → d ≤ 31 → i < used → t.layers.depth i ≡ d → j < used → Leads a key i j → led_from a used (number_of a j) steps i key ≡ Ok j
  leads_to_lem steps d i key j s l h e k here = lead_here a used (number_of a i) steps i key (omega (arith, s, l)) h refl
  leads_to_lem steps d i key j s l h e k (on p rest) =
      go (eqb (number_of a i) (number_of a j)) refl
      (λ o. leads_to_lem (steps - 1) (suc d) (next a i key) (bits_above key) j (omega (arith, s, l)) o.few o.inside o.depth k rest)
    where
      go : (x : Bool) → eqb (number_of a i) (number_of a j) ≡ x → (Onward i key d → led_from a used (number_of a j) (steps - 1) (next a i key) (bits_above key) ≡ Ok j) →
          led_from a used (number_of a j) steps i key ≡ Ok j
      go true q further =
          let same = eqb-true (number_of a i) (number_of a j) q in
          lead_here a used (number_of a j) steps i key (omega (arith, s, l)) h same ∙ ap Ok (t.distinct i j h k same)
      go false q further =
          let z : next a i key ≡ 0 → ⊥ = λ w. omega (arith, w, p) in
          lead_on a used (number_of a j) steps i key (omega (arith, s, l)) h (eqb-false _ _ q) z ∙ further (onward i key d h e l z)

  pub led_to : (j : ℕ) → j < used → led a used (number_of a j) ≡ Ok j
  led_to j h =
      led_some a used (number_of a j) (λ z. omega (arith, z, h))
      ∙ leads_to_lem 32 0 0 (number_of a j) j refl (omega arith) (omega (arith, h)) t.layers.root h (t.tree.found j h)

  module _ (number : ℕ) (other : (i : ℕ) → i < used → number_of a i ≡ number → ⊥) where
    leads_nowhere : (steps d i key : ℕ) → steps + d ≡ 32 → d ≤ 31 → i < used → t.layers.depth i ≡ d → led_from a used number steps i key ≡ Err lookup_error.Unknown
    leads_nowhere zero d i key s l h e = absurd (omega (arith, s, l))
    leads_nowhere (suc steps) d i key s l h e =
        go (eqb (next a i key) 0) refl (λ o. leads_nowhere steps (suc d) (next a i key) (bits_above key) (omega (arith, s)) o.few o.inside o.depth)
      where
        go : (x : Bool) → eqb (next a i key) 0 ≡ x → (Onward i key d → led_from a used number steps (next a i key) (bits_above key) ≡ Err lookup_error.Unknown) → led_from a used number (suc steps) i key ≡ Err lookup_error.Unknown
        go true q further = lead_end a used number (suc steps) i key (omega arith) h (other i h) (eqb-true _ 0 q)
        go false q further =
            let z = eqb-false (next a i key) 0 q in
            let one : suc steps - 1 ≡ steps = omega arith in
            rw one at (lead_on a used number (suc steps) i key (omega arith) h (other i h) z) ∙ further (onward i key d h e l z)

    pub led_nowhere : led a used number ≡ Err lookup_error.Unknown
    led_nowhere = go (eqb used 0) refl
      where
        go : (x : Bool) → eqb used 0 ≡ x → led a used number ≡ Err lookup_error.Unknown
        go true p = led_none a used number (eqb-true used 0 p)
        go false p = let q = eqb-false used 0 p in led_some a used number q ∙ leads_nowhere 32 0 0 number refl (omega arith) (omega (arith, q)) t.layers.root
