-- The role of an item by the number of what its aperture is for is its role: no function is two of the three.
-- Assumes nothing.
use Prim.Native.Nat.{ℕ}
use mathlib.Core.Path.{◌≡◌, refl, ap}
use mathlib.Core.Bool.{Bool, true, false, cond}
use mathlib.Core.List.{List}
use lib.Dec.{eqb}
use Rattle.base.specs.And.{◌and◌}
use Rattle.base.specs.Bytes.{same_bytes}
use Rattle.base.proofs.Lists.{same_is}
use Rattle.text.specs.Text.{text, ◌is◌}
use Rattle.place.specs.Kind as kind
use Rattle.law_components.specs.Values.{Value, field}
use Rattle.law_components.specs.Parts.{is_drawn, role_of}
use Rattle.law_components.specs.declared.Role.{Role}
use Rattle.law_components.specs.declared.Role.TheVariants.{Main, Pin, Outline, Other}
use Rattle.notes.specs.Functions.{function_is, function_number}
use Rattle.seeing.specs.Roles.{role_by}

-- the roles by three tests
abbrev by_tests : Bool → Bool → Bool → Bool → Bool → Role
by_tests flash drawn main pin outline = cond (flash and main) Main (cond (flash and pin) Pin (cond (drawn and outline) Outline Other))

by_number_lem : (flash drawn main pin outline : Bool) → (main ≡ true → (pin ≡ false) × (outline ≡ false)) → (pin ≡ true → outline ≡ false) → (n : ℕ) →
    n ≡ cond main 1 (cond pin 2 (cond outline 3 0)) → by_tests flash drawn (eqb n 1) (eqb n 2) (eqb n 3) ≡ by_tests flash drawn main pin outline
by_number_lem flash drawn true pin outline f g n e = let h = f refl in rw (e, h.0, h.1)
by_number_lem flash drawn false true outline f g n e = let h = g refl in rw (e, h)
by_number_lem flash drawn false false true f g n e = rw e
by_number_lem flash drawn false false false f g n e = rw e

module _ (s : List ℕ) where
  not_pin : s is "ComponentMain" ≡ true → s is "ComponentPin" ≡ false
  unfolding same_bytes
  not_pin e = ap (λ (x : List ℕ). same_bytes x (text "ComponentPin")) (same_is s (text "ComponentMain") e)

  not_outline : s is "ComponentMain" ≡ true → s is "ComponentOutline" ≡ false
  unfolding same_bytes
  not_outline e = ap (λ (x : List ℕ). same_bytes x (text "ComponentOutline")) (same_is s (text "ComponentMain") e)

  pin_not_outline : s is "ComponentPin" ≡ true → s is "ComponentOutline" ≡ false
  unfolding same_bytes
  pin_not_outline e = ap (λ (x : List ℕ). same_bytes x (text "ComponentOutline")) (same_is s (text "ComponentPin") e)

pub role_by_lem : (k : ℕ) (v : Value) → role_by k (function_number v) ≡ role_of k v
unfolding role_by role_of function_number function_is
role_by_lem k v =
    by_number_lem (eqb k kind.flash) (is_drawn k) (field 0 v is "ComponentMain") (field 0 v is "ComponentPin") (field 0 v is "ComponentOutline")
    (λ e. (not_pin (field 0 v) e, not_outline (field 0 v) e)) (pin_not_outline (field 0 v)) (function_number v) refl
