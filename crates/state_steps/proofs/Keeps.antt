-- What is known stays known where the graphics state changes and nothing else does.
-- Assumes nothing.
use Rattle.std.specs.Prelude.{Option, ℤ}
use Prim.Native.Nat.{ℕ, ◌^◌, ◌≤◌}
use mathlib.Core.Path.{◌≡◌, refl, sym, ◌∙◌}
use mathlib.Core.Bool.{Bool, true, false, false≢true}
use native.Mathlib.Omega.{arith}
use Rattle.points.specs.Points.{Within}
use Rattle.command.specs.declared.Setting.{Setting}
use Rattle.command.specs.declared.Setting.TheVariants as setting
use Rattle.command.specs.declared.Command.{Command}
use Rattle.command.specs.declared.Command.TheVariants.{Broken, Note, End, Set, Operate, Coded, Select, Define, Contain, Attribute}
use Rattle.graphics.specs.Graphics.{no_region, with_header, with_notation, with_point, with_mode, with_quadrants, with_transform, with_region}
use Rattle.graphics.specs.declared.Graphics.{Graphics}
use Rattle.graphics.specs.declared.Header.{Header}
use Rattle.graphics.specs.declared.Level.{Level}
use Rattle.graphics.specs.declared.Transform.{Transform}
use Rattle.graphics.specs.declared.Region.{Region}
use Rattle.changes.specs.After.{target, going_to, empty_region, ended, after_setting, after, Reached}
use Rattle.operation_rules.specs.Faults.{move_fault}
use Rattle.operation_rules.proofs.Reached.{move_reached}
use Rattle.law_reading.specs.State.{State}
use Rattle.law_reading.specs.Steps as state
use Rattle.progress.specs.Parts.{with_graphics}
use Rattle.progress.specs.Lent.{Lent}
use Rattle.progress.specs.Levels.{level_of}
use Rattle.progress.specs.Knows.{Knows}
use Rattle.progress.specs.declared.Progress.{Progress}
use Rattle.state_steps.specs.KeepsRooms.{keeps_rooms, fault_of}

-- h in the place of g: the same aperture, and no contour that was not open in g
pub record Keeps (g h : Graphics) : Type 0 where
  pub point : Within (10 ^ 12) h.point.at
  pub mode : h.mode ≤ 3
  pub inside : h.region.contour ≡ true → h.region.on ≡ true
  pub aperture : h.aperture ≡ g.aperture
  pub contour : h.region.contour ≡ true → g.region.contour ≡ true

module _ (w : Lent) (p : Progress) (s : State) (k : Knows w p s) where
  pub keeps_itself : Keeps s.graphics s.graphics
  keeps_itself = record { point = k.point; mode = k.mode; inside = k.inside; aperture = refl; contour = λ e. e }

  pub still_known : (h : Graphics) → Keeps s.graphics h → Knows w (with_graphics h p) (state.with_graphics h s)
  unfolding state.with_graphics level_of
  still_known h c = record {
    graphics = refl;
    point = c.point;
    mode = c.mode;
    inside = c.inside;
    aperture = rw c.aperture k.aperture;
    level = k.level;
    counts = k.counts;
    around = k.around;
    apertures = k.apertures;
    macros = k.macros;
    numbers = k.numbers;
    entries = k.entries;
    shows = k.shows;
    contour = λ e. k.contour (c.contour e);
  }

-- each command that keeps the rooms keeps what is known of the graphics state
module _ (g : Graphics) (k : Keeps g g) where
  header_keeps : (h : Header) → Keeps g (with_header h g)
  unfolding with_header
  header_keeps h = record { point = k.point; mode = k.mode; inside = k.inside; aperture = refl; contour = λ e. e }

  notation_keeps : (b : Bool) → Keeps g (with_notation b g)
  unfolding with_notation
  notation_keeps b = record { point = k.point; mode = k.mode; inside = k.inside; aperture = refl; contour = λ e. e }

  format_keeps : (b : Bool) (h : Header) → Keeps g (with_notation b (with_header h g))
  unfolding with_notation with_header
  format_keeps b h = record { point = k.point; mode = k.mode; inside = k.inside; aperture = refl; contour = λ e. e }

  mode_keeps : (m : ℕ) → m ≤ 3 → Keeps g (with_mode m g)
  unfolding with_mode
  mode_keeps m l = record { point = k.point; mode = l; inside = k.inside; aperture = refl; contour = λ e. e }

  quadrants_keep : (b : Bool) → Keeps g (with_quadrants b g)
  unfolding with_quadrants
  quadrants_keep b = record { point = k.point; mode = k.mode; inside = k.inside; aperture = refl; contour = λ e. e }

  transform_keeps : (t : Transform) → Keeps g (with_transform t g)
  unfolding with_transform
  transform_keeps t = record { point = k.point; mode = k.mode; inside = k.inside; aperture = refl; contour = λ e. e }

  region_keeps : (r : Region) → r.contour ≡ false → Keeps g (with_region r g)
  unfolding with_region
  region_keeps r none = record {
    point = k.point;
    mode = k.mode;
    inside = λ e. absurd (false≢true (sym none ∙ e));
    aperture = refl;
    contour = λ e. absurd (false≢true (sym none ∙ e));
  }

  pub move_keeps : (x y : Option ℤ) → move_fault g x y ≡ 0 → Keeps g (going_to (target g x y) (with_region (ended g.region) g))
  unfolding going_to with_point with_region ended
  move_keeps x y l = record {
    point = move_reached g x y l;
    mode = k.mode;
    inside = λ e. absurd (false≢true e);
    aperture = refl;
    contour = λ e. absurd (false≢true e);
  }

  pub setting_keeps : (s : Setting) → Keeps g (after_setting s g)
  unfolding after_setting empty_region no_region
  setting_keeps setting.Linear = mode_keeps 1 (omega arith)
  setting_keeps setting.Clockwise = mode_keeps 2 (omega arith)
  setting_keeps setting.Counterclockwise = mode_keeps 3 (omega arith)
  setting_keeps setting.SingleQuadrant = quadrants_keep false
  setting_keeps setting.MultiQuadrant = quadrants_keep true
  setting_keeps setting.RegionStart = region_keeps _ refl
  setting_keeps setting.RegionEnd = region_keeps _ refl
  setting_keeps (setting.Format f) = format_keeps _ _
  setting_keeps setting.Absolute = notation_keeps false
  setting_keeps setting.Incremental = notation_keeps true
  setting_keeps setting.Millimetres = header_keeps _
  setting_keeps setting.Inches = header_keeps _
  setting_keeps setting.CodedMillimetres = header_keeps _
  setting_keeps setting.CodedInches = header_keeps _
  setting_keeps setting.Halt = k
  setting_keeps setting.Dark = transform_keeps _
  setting_keeps setting.Clear = transform_keeps _
  setting_keeps (setting.Mirror x y) = transform_keeps _
  setting_keeps (setting.Rotation a rounded) = transform_keeps _
  setting_keeps (setting.Scale a rounded) = transform_keeps _

  pub after_keeps : (c : Command) → keeps_rooms c ≡ true → (l : Level) → fault_of g l c ≡ 0 → Keeps g (after c g)
  unfolding keeps_rooms fault_of after
  after_keeps (Broken flaw) q l e = k
  after_keeps Note q l e = k
  after_keeps End q l e = k
  after_keeps (Set s) q l e = setting_keeps s
  after_keeps (Operate o) q l e = absurd (false≢true q)
  after_keeps (Coded code o) q l e = absurd (false≢true q)
  after_keeps (Attribute d) q l e = k
  after_keeps (Select n) q l e = absurd (false≢true q)
  after_keeps (Define d) q l e = absurd (false≢true q)
  after_keeps (Contain b) q l e = absurd (false≢true q)

-- a command that keeps the rooms goes nowhere
pub state_reached : (g : Graphics) (l : Level) (c : Command) → keeps_rooms c ≡ true → fault_of g l c ≡ 0 → Reached c g
unfolding keeps_rooms fault_of Reached
state_reached g l (Broken flaw) q e = tt
state_reached g l Note q e = tt
state_reached g l End q e = tt
state_reached g l (Set s) q e = tt
state_reached g l (Operate o) q e = absurd (false≢true q)
state_reached g l (Coded code o) q e = absurd (false≢true q)
state_reached g l (Attribute d) q e = tt
state_reached g l (Select n) q e = tt
state_reached g l (Define d) q e = tt
state_reached g l (Contain b) q e = tt
