-- A record as reading knows it: where a block's entries lie changes neither its number, its kind and its items nor what Dn selects.
-- Assumes nothing.
use Prim.Native.Nat.{ℕ}
use mathlib.Core.Path.{◌≡◌, refl}
use mathlib.Core.Bool.{Bool, true, false, cond}
use lib.Dec.{eqb}
use borrow.Author.Tests.{eqb-true}
use Rattle.base.specs.And.{◌and◌}
use Rattle.sheet.specs.declared.Aperture.{Aperture}
use Rattle.law_reading.specs.Apertures.{block, block_of, selected}
use Rattle.progress.specs.Tables.{as_stored, as_read}

pub block_as_read : (r : Aperture) → eqb r.kind block ≡ true → as_read r ≡ block_of r.number r.items r.height
unfolding as_read
block_as_read r q = rw q

pub other_as_read : (r : Aperture) → eqb r.kind block ≡ false → as_read r ≡ as_stored r
unfolding as_read
other_as_read r q = rw q

pub number_as_read : (r : Aperture) → (as_read r).number ≡ r.number
unfolding as_read as_stored block_of
number_as_read r = go (eqb r.kind block)
  where
    go : (b : Bool) → (cond b (block_of r.number r.items r.height) (as_stored r)).number ≡ r.number
    go true = refl
    go false = refl

pub items_as_read : (r : Aperture) → (as_read r).items ≡ r.items
unfolding as_read as_stored block_of
items_as_read r = go (eqb r.kind block)
  where
    go : (b : Bool) → (cond b (block_of r.number r.items r.height) (as_stored r)).items ≡ r.items
    go true = refl
    go false = refl

pub kind_as_read : (r : Aperture) → eqb (as_read r).kind block ≡ eqb r.kind block
unfolding as_read as_stored block_of
kind_as_read r = go (eqb r.kind block) refl
  where
    go : (b : Bool) → eqb r.kind block ≡ b → eqb (cond b (block_of r.number r.items r.height) (as_stored r)).kind block ≡ b
    go true q = refl
    go false q = q

pub selected_as_read : (i : ℕ) (r : Aperture) → selected i (as_read r) ≡ selected i (as_stored r)
unfolding as_read as_stored block_of selected ◌and◌
selected_as_read i r = go (eqb r.kind block) refl
  where
    go : (b : Bool) → eqb r.kind block ≡ b → selected i (cond b (block_of r.number r.items r.height) (as_stored r)) ≡ selected i (as_stored r)
    go true e = let k : r.kind ≡ 6 = eqb-true r.kind 6 e in rw k
    go false e = refl
