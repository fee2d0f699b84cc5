-- The rules of every command but D01, D02, D03 and G37, each a table in the order of its numbers (01, Numbers the reader answers).
-- A test that needs the stores is handed in: whether a number or a name is known or taken, the outcome of a macro, whether room is full.
use Rattle.std.specs.Prelude.{ℕ, Bool, not, [], ◌∷◌, eqb, leb}
use Rattle.base.specs.Or.{◌or◌}
use Rattle.base.specs.Faults.{Table, first_fault}
use Rattle.decimal.specs.Amounts.{above_zero}
use Rattle.decimal.specs.declared.answers.Amount.{Amount}
use Rattle.graphics.specs.Level.{top_level}
use Rattle.graphics.specs.declared.Graphics.{Graphics}
use Rattle.graphics.specs.declared.Level.{Level}
use Rattle.operation_tests.specs.Far.{is_formatted}
use Rattle.operation_tests.specs.Fits.{unready}

-- "In a region only G01, G02, G03, G75, G04, D01, D02, G37", and G74 (decision 520): G36, LP, LM, LR, TA, TO and TD, and the old book's
-- G70, G71, G90, G91, M00 and M01 have this rule alone
abbrev pub region_rules : Graphics → Table
region_rules g = (g.region.on, 7) ∷ []

unfoldable pub region_fault : Graphics → ℕ
region_fault g = first_fault (region_rules g)

-- FS and MO (decision 49); MO after a G70 or G71 is no second MO
abbrev pub format_rules : Graphics → Table
format_rules g = (is_formatted g, 6) ∷ (g.region.on, 7) ∷ []

unfoldable pub format_fault : Graphics → ℕ
format_fault g = first_fault (format_rules g)

abbrev pub unit_rules : Graphics → Table
unit_rules g = (not (eqb g.header.unit 0), 6) ∷ (g.region.on, 7) ∷ []

unfoldable pub unit_fault : Graphics → ℕ
unit_fault g = first_fault (unit_rules g)

-- LS
abbrev pub scale_rules : Graphics → Amount → Table
scale_rules g a = (g.region.on, 7) ∷ (not (above_zero a), 10) ∷ []

unfoldable pub scale_fault : Graphics → Amount → ℕ
scale_fault g a = first_fault (scale_rules g a)

-- Dn: the number of a closed block or another aperture (decision 79)
abbrev pub select_rules : Graphics → Bool → Table
select_rules g known = (g.region.on, 7) ∷ (not known, 8) ∷ []

unfoldable pub select_fault : Graphics → Bool → ℕ
select_fault g known = first_fault (select_rules g known)

-- AD: 8 where its number is taken or its macro unknown; then the outcome of the template or the macro, 9 or 10; then room
abbrev pub aperture_rules : Graphics → Bool → ℕ → Bool → Table
aperture_rules g taken worked full =
    (g.region.on, 7)
    ∷ (taken, 8)
    ∷ (not (eqb worked 0), worked)
    ∷ (full, 17)
    ∷ []

unfoldable pub aperture_fault : Graphics → Bool → ℕ → Bool → ℕ
aperture_fault g taken worked full = first_fault (aperture_rules g taken worked full)

-- AM
abbrev pub macro_rules : Graphics → Bool → Bool → Bool → Table
macro_rules g taken deep full =
    (g.region.on, 7)
    ∷ (taken, 8)
    ∷ (deep, 15)
    ∷ (full, 17)
    ∷ []

unfoldable pub macro_fault : Graphics → Bool → Bool → Bool → ℕ
macro_fault g taken deep full = first_fault (macro_rules g taken deep full)

-- AB: "a ninth open AB, is 15"
abbrev pub block_start_rules : Graphics → Level → Bool → Bool → Table
block_start_rules g l taken full =
    (g.region.on, 7)
    ∷ (taken, 8)
    ∷ (leb 8 l.depth, 15)
    ∷ (full, 17)
    ∷ []

unfoldable pub block_start_fault : Graphics → Level → Bool → Bool → ℕ
block_start_fault g l taken full = first_fault (block_start_rules g l taken full)

-- "closings match the innermost"
abbrev pub closing_rules : Graphics → Level → ℕ → Table
closing_rules g l opened = (g.region.on or not (eqb l.inside opened), 7) ∷ []

unfoldable pub closing_fault : Graphics → Level → ℕ → ℕ
closing_fault g l opened = first_fault (closing_rules g l opened)

-- "SR only at top level" (decision 57)
abbrev pub repeat_start_rules : Graphics → Level → Bool → Bool → Table
repeat_start_rules g l in_bounds full =
    (g.region.on or not (eqb l.inside top_level), 7)
    ∷ (not in_bounds, 10)
    ∷ (full, 17)
    ∷ []

unfoldable pub repeat_start_fault : Graphics → Level → Bool → Bool → ℕ
repeat_start_fault g l in_bounds full = first_fault (repeat_start_rules g l in_bounds full)

-- TF
abbrev pub file_attribute_rules : Graphics → Bool → Table
file_attribute_rules g twice = (g.region.on, 7) ∷ (twice, 19) ∷ []

unfoldable pub file_attribute_fault : Graphics → Bool → ℕ
file_attribute_fault g twice = first_fault (file_attribute_rules g twice)

-- M02 (decision 55)
abbrev pub end_rules : Graphics → Level → Table
end_rules g l = (unready g, 6) ∷ (g.region.on or not (eqb l.inside top_level), 7) ∷ []

unfoldable pub end_fault : Graphics → Level → ℕ
end_fault g l = first_fault (end_rules g l)
