-- The rules of D01, D02, D03 and G37, in the order of their numbers, 29 between 11 and 12 and 31 right after 12 (01, Numbers the reader
-- answers; 02, [7] and [9]; decisions 52, 81 to 101, 312 and 519).
use Rattle.std.specs.Prelude.{ℕ, cond, not, [], ◌∷◌, ltb, Option, ℤ}
use Rattle.base.specs.Faults.{Table, first_fault}
use Rattle.points.specs.declared.Point.{Point}
use Rattle.graphics.specs.declared.Graphics.{Graphics}
use Rattle.graphics.specs.declared.Level.{Level}
use Rattle.changes.specs.After.{target, starts_contour}
use Rattle.operation_tests.specs.Far.{goes_far}
use Rattle.operation_tests.specs.Fits.{draws_far, unready, placeless, draw_misfits, flash_misfits, moveless, unclosed, askew, too_tall}
use Rattle.arcs.specs.Arcs.{bad_centre, centreless}
use Rattle.operation_rules.specs.Counts.{too_many}
use Rattle.command.specs.declared.Offset.{Offset}

-- a D01 draws one item and uses one entry, two with the contour that it starts
unfoldable pub draw_items : Graphics → ℕ
draw_items g = cond (starts_contour g.region) 2 1

-- a D01 to `end`; room is the number of entries left
abbrev pub near_draw_rules : Graphics → Level → ℕ → Point → Option Offset → Table
near_draw_rules g l room end o =
    (unready g, 6)
    ∷ (draw_misfits g o, 11)
    ∷ (moveless g, 29)
    ∷ (bad_centre g end o, 12)
    ∷ (centreless g end o, 31)
    ∷ (too_many l (draw_items g), 16)
    ∷ (ltb room (draw_items g), 17)
    ∷ []

abbrev pub draw_rules : Graphics → Level → ℕ → Option ℤ → Option ℤ → Option Offset → Table
draw_rules g l room x y o = (draws_far g x y o, 5) ∷ near_draw_rules g l room (target g x y) o

unfoldable pub draw_fault : Graphics → Level → ℕ → Option ℤ → Option ℤ → Option Offset → ℕ
draw_fault g l room x y o = first_fault (draw_rules g l room x y o)

abbrev pub move_rules : Graphics → Option ℤ → Option ℤ → Table
move_rules g x y =
    (goes_far g x y, 5)
    ∷ (unready g, 6)
    ∷ (placeless g x y, 11)
    ∷ (unclosed g, 13)
    ∷ []

unfoldable pub move_fault : Graphics → Option ℤ → Option ℤ → ℕ
move_fault g x y = first_fault (move_rules g x y)

-- a flash draws one item, or those of its block
unfoldable pub flash_items : Graphics → ℕ
flash_items g = cond g.aperture.block g.aperture.items 1

abbrev pub flash_rules : Graphics → Level → ℕ → Option ℤ → Option ℤ → Table
flash_rules g l room x y =
    (goes_far g x y, 5)
    ∷ (unready g, 6)
    ∷ (g.region.on, 7)
    ∷ (flash_misfits g x y, 11)
    ∷ (askew g, 14)
    ∷ (too_tall g l, 15)
    ∷ (too_many l (flash_items g), 16)
    ∷ (ltb room 1, 17)
    ∷ []

unfoldable pub flash_fault : Graphics → Level → ℕ → Option ℤ → Option ℤ → ℕ
flash_fault g l room x y = first_fault (flash_rules g l room x y)

abbrev pub region_end_rules : Graphics → Table
region_end_rules g =
    (not g.region.on, 7)
    ∷ (unclosed g, 13)
    ∷ []

unfoldable pub region_end_fault : Graphics → ℕ
region_end_fault g = first_fault (region_end_rules g)
