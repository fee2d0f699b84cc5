-- The numbers of every table rise, but that AD has one row for either 9 or 10, whose number is the outcome of the template or the macro:
-- so the first row that holds is the lowest rule broken (crates/demands).
-- Assumes nothing.
use Prim.Native.Nat.{ℕ}
use mathlib.Core.Path.{◌≡◌, refl}
use mathlib.Core.Bool.{Bool, true}
use Rattle.base.specs.And.{◌and◌}
use Rattle.command.specs.declared.Setting.{Setting}
use Rattle.command.specs.declared.Setting.TheVariants as setting
use Rattle.graphics.specs.declared.Graphics.{Graphics}
use Rattle.graphics.specs.declared.Level.{Level}
use Rattle.operation_rules.specs.Order.{order, rank_in, rises_from, rises}
use Rattle.operation_rules.proofs.Rising.{region_end_rises}
use Rattle.command_rules.specs.Rules.{region_rules, select_rules, macro_rules, block_start_rules, closing_rules, repeat_start_rules, file_attribute_rules, end_rules}
use Rattle.command_rules.specs.Settings.{setting_rules}

pub region_rises : (g : Graphics) → rises (region_rules g) ≡ true
unfolding rises_from order rank_in ◌and◌
region_rises g = refl

pub select_rises : (g : Graphics) (known : Bool) → rises (select_rules g known) ≡ true
unfolding rises_from order rank_in ◌and◌
select_rises g known = refl

pub macro_rises : (g : Graphics) (taken deep full : Bool) → rises (macro_rules g taken deep full) ≡ true
unfolding rises_from order rank_in ◌and◌
macro_rises g taken deep full = refl

pub block_start_rises : (g : Graphics) (l : Level) (taken full : Bool) → rises (block_start_rules g l taken full) ≡ true
unfolding rises_from order rank_in ◌and◌
block_start_rises g l taken full = refl

pub closing_rises : (g : Graphics) (l : Level) (opened : ℕ) → rises (closing_rules g l opened) ≡ true
unfolding rises_from order rank_in ◌and◌
closing_rises g l opened = refl

pub repeat_start_rises : (g : Graphics) (l : Level) (in_bounds full : Bool) → rises (repeat_start_rules g l in_bounds full) ≡ true
unfolding rises_from order rank_in ◌and◌
repeat_start_rises g l in_bounds full = refl

pub file_attribute_rises : (g : Graphics) (twice : Bool) → rises (file_attribute_rules g twice) ≡ true
unfolding rises_from order rank_in ◌and◌
file_attribute_rises g twice = refl

pub end_rises : (g : Graphics) (l : Level) → rises (end_rules g l) ≡ true
unfolding rises_from order rank_in ◌and◌
end_rises g l = refl

pub setting_rises : (g : Graphics) (x : Setting) → rises (setting_rules g x) ≡ true
unfolding setting_rules rises_from order rank_in ◌and◌
setting_rises g setting.Linear = refl
setting_rises g setting.Clockwise = refl
setting_rises g setting.Counterclockwise = refl
setting_rises g setting.SingleQuadrant = refl
setting_rises g setting.MultiQuadrant = refl
setting_rises g setting.Absolute = refl
setting_rises g setting.Incremental = refl
setting_rises g setting.CodedMillimetres = refl
setting_rises g setting.CodedInches = refl
setting_rises g setting.Halt = refl
setting_rises g setting.RegionStart = refl
setting_rises g setting.RegionEnd = region_end_rises g
setting_rises g (setting.Format f) = refl
setting_rises g setting.Millimetres = refl
setting_rises g setting.Inches = refl
setting_rises g setting.Dark = refl
setting_rises g setting.Clear = refl
setting_rises g (setting.Mirror x y) = refl
setting_rises g (setting.Rotation a rounded) = refl
setting_rises g (setting.Scale a rounded) = refl
