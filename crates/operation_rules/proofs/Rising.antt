-- The numbers of every table rise: so the first row that holds is the lowest rule broken (crates/demands).
-- Assumes nothing.
use Rattle.std.specs.Prelude.{Option, ℤ}
use Prim.Native.Nat.{ℕ}
use mathlib.Core.Path.{◌≡◌, refl}
use mathlib.Core.Bool.{true}
use Rattle.base.specs.And.{◌and◌}
use Rattle.graphics.specs.declared.Graphics.{Graphics}
use Rattle.graphics.specs.declared.Level.{Level}
use Rattle.operation_rules.specs.Faults.{draw_rules, move_rules, flash_rules, region_end_rules}
use Rattle.operation_rules.specs.Order.{order, rank_in, rises_from, rises}
use Rattle.command.specs.declared.Offset.{Offset}

pub draw_rises : (g : Graphics) (l : Level) (room : ℕ) (x y : Option ℤ) (o : Option Offset) → rises (draw_rules g l room x y o) ≡ true
unfolding rises_from order rank_in ◌and◌
draw_rises g l room x y o = refl

pub move_rises : (g : Graphics) (x y : Option ℤ) → rises (move_rules g x y) ≡ true
unfolding rises_from order rank_in ◌and◌
move_rises g x y = refl

pub flash_rises : (g : Graphics) (l : Level) (room : ℕ) (x y : Option ℤ) → rises (flash_rules g l room x y) ≡ true
unfolding rises_from order rank_in ◌and◌
flash_rises g l room x y = refl

pub region_end_rises : (g : Graphics) → rises (region_end_rules g) ≡ true
unfolding rises_from order rank_in ◌and◌
region_end_rises g = refl
