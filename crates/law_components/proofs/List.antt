-- The list by its pieces: a main's entry, and its pins by their numbers.
-- Assumes nothing.
use Prim.Native.Nat.{ℕ}
use mathlib.Core.Path.{◌≡◌, refl, sym, ap, ◌∙◌}
use mathlib.Core.Bool.{true, false, cond, false≢true}
use mathlib.Core.List.{List, [], ◌++◌}
use native.Mathlib.Nat.{zero-add}
use Rattle.base.specs.And.{◌and◌}
use Rattle.base.specs.Bytes.{same_bytes}
use Rattle.law_components.specs.Parts.{Part, is_main, is_pin, designator}
use Rattle.law_components.specs.Outlines.{at}
use Rattle.law_components.specs.Records.{main_record, pin_record}
use Rattle.law_components.specs.Placements.{each, pin_as, pin_for, entry_as, entry_for}
use Rattle.law_components.specs.Numbers.{a_pin_of, pins_by}
use Rattle.law_components.proofs.Each.{each_numbered}
use Rattle.law_components.specs.declared.Role.{Role}
use Rattle.law_components.specs.declared.Role.TheVariants.{Main, Pin, Outline, Other}

-- an item puts out its record where it is a main, or a pin of the designator, and nothing else does
pin_if : (d : List ℕ) (p : Part) → pin_for d p ≡ cond (a_pin_of d p) (pin_record p) []
unfolding pin_for a_pin_of pin_as is_pin ◌and◌
pin_if d p = go p.role
  where
    go : (r : Role) → pin_as r d p ≡ cond (is_pin r and same_bytes (designator p) d) (pin_record p) []
    go Main = refl
    go Pin = refl
    go Outline = refl
    go Other = refl

pins_by_number : (ps : List Part) (d : List ℕ) → each (pin_for d) ps ≡ pins_by ps d
unfolding pins_by
pins_by_number ps d = each_numbered (a_pin_of d) (pin_for d) pin_record (pin_if d) ps ps 0 (λ k. ap (at ps) (zero-add k))

module _ (all : List Part) (p : Part) where
  pub main_entry : is_main p.role ≡ true → entry_for all p ≡ main_record p ++ pins_by all (designator p)
  unfolding entry_for entry_as is_main
  main_entry e = go p.role e
    where
      go : (r : Role) → is_main r ≡ true → entry_as r all p ≡ main_record p ++ pins_by all (designator p)
      go Main e = ap (λ s. main_record p ++ s) (pins_by_number all (designator p))
      go Pin e = absurd (false≢true e)
      go Outline e = absurd (false≢true e)
      go Other e = absurd (false≢true e)

  pub other_entry : is_main p.role ≡ false → entry_for all p ≡ []
  unfolding entry_for entry_as is_main
  other_entry e = go p.role e
    where
      go : (r : Role) → is_main r ≡ false → entry_as r all p ≡ []
      go Main e = absurd (false≢true (sym e))
      go Pin e = refl
      go Outline e = refl
      go Other e = refl
