-- Where no rule is broken, no test of its table holds.
-- Assumes nothing.
use Rattle.std.specs.Prelude.{Option, ℤ}
use Prim.Native.Nat.{ℕ, ◌≤◌}
use mathlib.Core.Path.{◌≡◌}
use mathlib.Core.Bool.{Bool, true, false}
use native.Mathlib.Omega.{arith}
use lib.Dec.{ltb, lit≤}
use borrow.Author.Tests.{ltb-false, eqb-false, leb-true, not-false}
use Rattle.base.specs.And.{◌and◌}
use Rattle.graphics.specs.declared.Graphics.{Graphics}
use Rattle.operation_tests.specs.Fits.{draw_misfits, flash_misfits, askew, too_tall}
use Rattle.graphics.specs.declared.Level.{Level}
use Rattle.operation_rules.specs.Counts.{most, counted, too_many}
use Rattle.base.proofs.Faults.{unbroken}
use Rattle.law_bounds.proofs.Tables.{neither}
use Rattle.operation_rules.specs.Faults.{draw_items, draw_fault, flash_items, flash_fault}
use Rattle.command.specs.declared.Offset.{Offset}

-- both do not hold, and the first does
pub and_rest : (a b : Bool) → a ≡ true → (a and b) ≡ false → b ≡ false
unfolding ◌and◌
and_rest true b p q = q
and_rest false b p q = cc

few : (l : Level) (n : ℕ) → too_many l n ≡ false → counted l n ≤ most
unfolding too_many
few l n q = leb-true _ _ (not-false _ q)

-- D01
module _ (g : Graphics) (l : Level) (room : ℕ) (x y : Option ℤ) (o : Option Offset) (none : draw_fault g l room x y o ≡ 0) where
  draw_passes : (draw_misfits g o ≡ false) × (too_many l (draw_items g) ≡ false) × (ltb room (draw_items g) ≡ false)
  unfolding draw_fault
  draw_passes =
      let near = unbroken (lit≤ tt) none in
      let ready = unbroken (lit≤ tt) near.1 in
      let fits = unbroken (lit≤ tt) ready.1 in
      let moved = unbroken (lit≤ tt) fits.1 in
      let centred = unbroken (lit≤ tt) moved.1 in
      let chosen = unbroken (lit≤ tt) centred.1 in
      let counts = unbroken (lit≤ tt) chosen.1 in
      let rooms = unbroken (lit≤ tt) counts.1 in
      (fits.0, counts.0, rooms.0)

  pub draw_mode : 1 ≤ g.mode
  unfolding draw_misfits
  draw_mode =
      let q = (neither _ _ (neither _ _ (neither _ _ draw_passes.0).0).0).1 in
      above (eqb-false _ _ q)
    where
      above : (g.mode ≡ 0 → ⊥) → 1 ≤ g.mode
      above ne = omega arith

  pub draw_counts : counted l (draw_items g) ≤ most
  draw_counts = few l _ draw_passes.1

  pub draw_room : draw_items g ≤ room
  draw_room = ltb-false _ _ draw_passes.2

-- D03
module _ (g : Graphics) (l : Level) (room : ℕ) (x y : Option ℤ) (none : flash_fault g l room x y ≡ 0) where
  flash_passes : (g.region.on ≡ false) × (flash_misfits g x y ≡ false) × (askew g ≡ false) × (too_tall g l ≡ false) × (too_many l (flash_items g) ≡ false) × (ltb room 1 ≡ false)
  unfolding flash_fault
  flash_passes =
      let near = unbroken (lit≤ tt) none in
      let ready = unbroken (lit≤ tt) near.1 in
      let outside = unbroken (lit≤ tt) ready.1 in
      let fits = unbroken (lit≤ tt) outside.1 in
      let straight = unbroken (lit≤ tt) fits.1 in
      let low = unbroken (lit≤ tt) straight.1 in
      let counts = unbroken (lit≤ tt) low.1 in
      let rooms = unbroken (lit≤ tt) counts.1 in
      (outside.0, fits.0, straight.0, low.0, counts.0, rooms.0)

  pub flash_outside : g.region.on ≡ false
  flash_outside = flash_passes.0

  pub flash_set : g.aperture.set ≡ true
  unfolding flash_misfits
  flash_set = not-false _ (neither _ _ flash_passes.1).1

  pub flash_straight : askew g ≡ false
  flash_straight = flash_passes.2

  pub flash_low : too_tall g l ≡ false
  flash_low = flash_passes.3

  pub flash_counts : counted l (flash_items g) ≤ most
  flash_counts = few l _ flash_passes.4

  pub flash_room : 1 ≤ room
  flash_room = ltb-false _ _ flash_passes.5
