-- Settings leave the aperture as it is, and what D01 and D03 draw is of the aperture that is selected.
-- Assumes nothing.
use Rattle.std.specs.Prelude.{Option, ℤ}
use Prim.Native.Nat.{ℕ, ◌+◌, ◌≤◌}
use mathlib.Core.Path.{◌≡◌, refl, sym, ◌∙◌}
use mathlib.Core.Bool.{Bool, true, false, cond, not, true≢false, false≢true}
use mathlib.Core.List.{List, ◌∷◌, []}
use native.Mathlib.Omega.{arith}
use lib.Dec.{lit≤}
use borrow.Author.Tests.{le-leb, lt-leb, not-false}
use Rattle.base.specs.And.{◌and◌}
use Rattle.base.specs.Or.{◌or◌}
use Rattle.base.proofs.And.{and_l, and_r}
use Rattle.base.proofs.Faults.{unbroken}
use Rattle.law_bounds.proofs.Tables.{neither}
use Rattle.points.specs.declared.Point.{Point}
use Rattle.command.specs.declared.Setting.{Setting}
use Rattle.command.specs.declared.Setting.TheVariants as setting
use Rattle.place.specs.Kind as kind
use Rattle.place.specs.Item.{is_oriented}
use Rattle.place.specs.Mark as mark
use Rattle.graphics.specs.Graphics.{with_header, with_notation, with_mode, with_quadrants, with_transform, with_region}
use Rattle.graphics.specs.declared.Graphics.{Graphics}
use Rattle.graphics.specs.declared.Level.{Level}
use Rattle.changes.specs.After.{target, starts_contour, after_setting}
use Rattle.operation_tests.specs.Fits.{circular, has_brush, brushless, draw_misfits, flash_misfits}
use Rattle.arcs.specs.Arcs.{rests, kind_drawn}
use Rattle.operation_rules.specs.Faults.{draw_fault, flash_fault}
use Rattle.marks.specs.Items.{drawn, edge, contour, flashed, pose}
use Rattle.marks.specs.Marks.{draw_marks, flash_marks}
use Rattle.law_reading.specs.State.{Aperture, Opened}
use Rattle.law_summary.specs.Tools.{tools, Tooled}
use Rattle.law_summary.proofs.Knowing.{none, block, draws, contours, edges, flashes, AllMarked, more, Knowing}
use Rattle.command.specs.declared.Offset.{Offset}

-- ---- settings

pub setting_aperture : (x : Setting) (g : Graphics) → (after_setting x g).aperture ≡ g.aperture
unfolding after_setting with_header with_notation with_mode with_quadrants with_transform with_region
setting_aperture setting.Linear g = refl
setting_aperture setting.Clockwise g = refl
setting_aperture setting.Counterclockwise g = refl
setting_aperture setting.SingleQuadrant g = refl
setting_aperture setting.MultiQuadrant g = refl
setting_aperture setting.RegionStart g = refl
setting_aperture setting.RegionEnd g = refl
setting_aperture (setting.Format f) g = refl
setting_aperture setting.Absolute g = refl
setting_aperture setting.Incremental g = refl
setting_aperture setting.Millimetres g = refl
setting_aperture setting.Inches g = refl
setting_aperture setting.CodedMillimetres g = refl
setting_aperture setting.CodedInches g = refl
setting_aperture setting.Halt g = refl
setting_aperture setting.Dark g = refl
setting_aperture setting.Clear g = refl
setting_aperture (setting.Mirror x y) g = refl
setting_aperture (setting.Rotation a rounded) g = refl
setting_aperture (setting.Scale a rounded) g = refl

pub setting_mode : (x : Setting) (g : Graphics) → g.mode ≤ 3 → (after_setting x g).mode ≤ 3
unfolding after_setting with_header with_notation with_mode with_quadrants with_transform with_region
setting_mode setting.Linear g h = lit≤ tt
setting_mode setting.Clockwise g h = lit≤ tt
setting_mode setting.Counterclockwise g h = lit≤ tt
setting_mode setting.SingleQuadrant g h = h
setting_mode setting.MultiQuadrant g h = h
setting_mode setting.RegionStart g h = h
setting_mode setting.RegionEnd g h = h
setting_mode (setting.Format f) g h = h
setting_mode setting.Absolute g h = h
setting_mode setting.Incremental g h = h
setting_mode setting.Millimetres g h = h
setting_mode setting.Inches g h = h
setting_mode setting.CodedMillimetres g h = h
setting_mode setting.CodedInches g h = h
setting_mode setting.Halt g h = h
setting_mode setting.Dark g h = h
setting_mode setting.Clear g h = h
setting_mode (setting.Mirror x y) g h = h
setting_mode (setting.Rotation a rounded) g h = h
setting_mode (setting.Scale a rounded) g h = h

-- another graphics state with the same aperture
pub graphics_knows : {g g' : Graphics} {known : List Aperture} {os : List Opened} {ms : List mark.Mark} → g'.aperture ≡ g.aperture → g'.mode ≤ 3 → Knowing g known os ms → Knowing g' known os ms
graphics_knows e m k = record {
  mode = m;
  chosen = rw e k.chosen;
  solid = rw e k.solid;
  distinct = k.distinct;
  around = k.around;
  marks = k.marks;
}

-- ---- what D01 and D03 draw

module _ (g : Graphics) (known : List Aperture) (mode-low : g.mode ≤ 3)
    (chosen : g.aperture.set ≡ true → g.aperture.block ≡ false → tools g.aperture.number known ≡ 1) where
  contour_tooled : (place : ℕ) → Tooled known (contour g place)
  unfolding contour is_oriented
  contour_tooled place = record { drawn = λ o. absurd (false≢true o); region = λ o. refl }

  -- the kind of what a D01 draws
  kind_low : (end : Point) → kind_drawn g end ≤ 3
  unfolding kind_drawn
  kind_low end = go (rests g end)
    where
      go : (t : Bool) → cond t kind.line g.mode ≤ 3
      go true = lit≤ tt
      go false = mode-low

  edge_tooled : (x y : Option ℤ) (o : Option Offset) (place : ℕ) → Tooled known (edge g (target g x y) o place)
  unfolding edge is_oriented
  edge_tooled x y o place = record {
    drawn = λ q. absurd (true≢false (sym q ∙ lt-leb (5 + kind_drawn g (target g x y)) 4 (omega arith)));
    region = λ q. refl;
  }

  draw_tooled : (x y : Option ℤ) (o : Option Offset) (place : ℕ) → g.aperture.set ≡ true → g.aperture.block ≡ false → Tooled known (drawn g (target g x y) o place)
  unfolding drawn is_oriented
  draw_tooled x y o place s b = record {
    drawn = λ q. chosen s b;
    region = λ q. let low = kind_low (target g x y) in absurd (true≢false (sym (le-leb (kind_drawn g (target g x y)) 4 (omega arith)) ∙ q));
  }

  flash_tooled : (x y : Option ℤ) (place : ℕ) → g.aperture.set ≡ true → g.aperture.block ≡ false → Tooled known (flashed g (target g x y) place)
  unfolding flashed is_oriented
  flash_tooled x y place s b = record { drawn = λ q. chosen s b; region = λ q. absurd (true≢false q) }

  -- outside a region a brush is selected
  brush : (l : Level) (room : ℕ) (x y : Option ℤ) (o : Option Offset) → draw_fault g l room x y o ≡ 0 → g.region.on ≡ false → has_brush g ≡ true
  unfolding draw_fault draw_misfits brushless has_brush circular ◌and◌
  brush l room x y o f off =
      let misfits = (unbroken (lit≤ tt) (unbroken (lit≤ tt) (unbroken (lit≤ tt) f).1).1).0 in
      let b = (neither _ _ (neither _ _ misfits).0).1 in
      not-false _ (rw off at b)

  -- which is set, and solid
  brush_set : has_brush g ≡ true → g.aperture.set ≡ true
  unfolding has_brush
  brush_set b = and_l _ _ b

  brush_solid : has_brush g ≡ true → (g.aperture.circle or g.aperture.rectangle) ≡ true
  unfolding has_brush ◌and◌ ◌or◌
  brush_solid b = go g.aperture.circle g.old g.aperture.rectangle (and_r g.aperture.set _ b)
    where
      go : (c old r : Bool) → (c or (old and (r and not (circular g)))) ≡ true → (c or r) ≡ true
      go true old r e = refl
      go false true r e = and_l _ _ e
      go false false r e = absurd (false≢true e)

  pub draw_marked : (l : Level) (room : ℕ) (x y : Option ℤ) (o : Option Offset) (place : ℕ) → ((g.aperture.circle or g.aperture.rectangle) ≡ true → g.aperture.block ≡ false) → draw_fault g l room x y o ≡ 0 →
      AllMarked known (draw_marks g x y o place)
  unfolding draw_marks
  draw_marked l room x y o place solid f = go g.region.on refl
    where
      starts : (t : Bool) → AllMarked known (cond t (mark.contour (contour g place) ∷ mark.edge (edge g (target g x y) o place) ∷ []) (mark.edge (edge g (target g x y) o place) ∷ []))
      starts true = more (contours (contour_tooled place)) (more (edges (edge_tooled x y o place)) none)
      starts false = more (edges (edge_tooled x y o place)) none

      go : (t : Bool) → g.region.on ≡ t → AllMarked known
          (cond t
          (cond (starts_contour g.region) (mark.contour (contour g place) ∷ mark.edge (edge g (target g x y) o place) ∷ []) (mark.edge (edge g (target g x y) o place) ∷ []))
          (mark.draw (drawn g (target g x y) o place) ∷ []))
      go true e = starts (starts_contour g.region)
      go false e = let b = brush l room x y o f e in more (draws (draw_tooled x y o place (brush_set b) (solid (brush_solid b)))) none

  pub flash_marked : (l : Level) (room : ℕ) (x y : Option ℤ) (place : ℕ) → flash_fault g l room x y ≡ 0 → AllMarked known (flash_marks g x y place)
  unfolding flash_marks flash_fault flash_misfits
  flash_marked l room x y place f = go g.aperture.block refl
    where
      is_set : g.aperture.set ≡ true
      is_set = not-false _ (neither _ _ (unbroken (lit≤ tt) (unbroken (lit≤ tt) (unbroken (lit≤ tt) (unbroken (lit≤ tt) f).1).1).1).0).1

      go : (t : Bool) → g.aperture.block ≡ t → AllMarked known
          (cond t (mark.flash g.aperture.number (pose g (target g x y)) place ∷ []) (mark.draw (flashed g (target g x y) place) ∷ []))
      go true e = more flashes none
      go false e = more (draws (flash_tooled x y place is_set e)) none
