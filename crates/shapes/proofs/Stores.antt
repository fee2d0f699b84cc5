-- What the conditions of a lookup say of the rooms.
-- Assumes nothing.
use Prim.Native.Nat.{ℕ, ◌≤◌}
use mathlib.Core.Path.{◌≡◌}
use mathlib.Core.Bool.{true}
use mathlib.Core.List.{List}
use lib.IntN.{ℤ}
use lib.ListN.{length}
use borrow.Author.Tests.{leb-true}
use Rattle.base.proofs.And.{and_l, and_r}
use Rattle.sheet.specs.Records.{aperture_room}
use Rattle.sheet.specs.Containers.{apertures_used}
use Rattle.shapes.specs.Shapes.{numbers_used, ok_store}

module _ (head a : List ℕ) (n : List ℤ) (ok : ok_store head a n ≡ true) where
  pub apertures_there : apertures_used head ≤ aperture_room a
  unfolding ok_store
  apertures_there = leb-true _ _ (and_l _ _ (and_r _ _ ok))

  pub numbers_there : numbers_used head ≤ length n
  unfolding ok_store
  numbers_there = leb-true _ _ (and_r _ _ (and_r _ _ ok))
