-- The current aperture: its record's items are few, and what reading knows of a block is what its record says.
-- Assumes nothing.
use Prim.Native.Nat.{ℕ, ◌≤◌, ◌<◌}
use mathlib.Core.Path.{◌≡◌, refl, sym, ap, ◌∙◌}
use mathlib.Core.Bool.{Bool, true, false}
use mathlib.Core.List.{List}
use native.Mathlib.Omega.{arith}
use Rattle.sheet.specs.Records.{aperture_of}
use Rattle.sheet.specs.Valid.{is_block}
use Rattle.law_reading.specs.State.{Aperture}
use Rattle.graphics.specs.Graphics.{no_aperture}
use Rattle.graphics.specs.declared.Selected.{Selected}
use Rattle.operation_rules.specs.Counts.{most}
use Rattle.law_reading.specs.Apertures.{block, block_of, selected}
use Rattle.progress.specs.Tables.{as_read, ApertureTable, Chosen}
use Rattle.progress.proofs.AsRead.{block_as_read, items_as_read, kind_as_read}

-- a block that is selected
pub record IsBlock (a : List ℕ) (used : ℕ) (c : Selected) : Type 0 where
  pub inside : c.slot < used
  pub is : is_block a c.slot ≡ true
  pub number : (aperture_of a c.slot).number ≡ c.number
  pub items : (aperture_of a c.slot).items ≡ c.items
  pub height : (aperture_of a c.slot).height ≡ c.height

module _ (a : List ℕ) (used : ℕ) (known : List Aperture) (c : Selected) (table : ApertureTable a used known) (chosen : Chosen a used c) where
  pub selected_few : c.items ≤ most
  unfolding selected no_aperture
  selected_few = go c.set refl
    where
      go : (t : Bool) → c.set ≡ t → c.items ≤ most
      go true q =
          let few = table.few c.slot (chosen.known q) in
          let is : (as_read (aperture_of a c.slot)).items ≡ c.items = ap (λ (d : Selected). d.items) (chosen.is q) in
          let same = items_as_read (aperture_of a c.slot) in
          omega arith
      go false q = let none : c.items ≡ 0 = ap (λ (d : Selected). d.items) (chosen.unset q) in omega arith

  pub selected_block : c.set ≡ true → c.block ≡ true → IsBlock a used c
  unfolding selected is_block block_of
  selected_block set q =
      let is = chosen.is set in
      let kind = sym (kind_as_read (aperture_of a c.slot)) ∙ ap (λ (d : Selected). d.block) is ∙ q in
      let says = block_as_read (aperture_of a c.slot) kind in
      record {
        inside = chosen.known set;
        is = kind;
        number = ap (λ (r : Aperture). r.number) (sym says) ∙ ap (λ (d : Selected). d.number) is;
        items = ap (λ (r : Aperture). r.items) (sym says) ∙ ap (λ (d : Selected). d.items) is;
        height = ap (λ (r : Aperture). r.height) (sym says) ∙ ap (λ (d : Selected). d.height) is;
      }
