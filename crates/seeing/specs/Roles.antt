-- The role of an item by its kind and by the number of what its aperture is for (02, [4]; decision 581).
use Rattle.std.specs.Prelude.{ℕ, cond, eqb}
use Rattle.base.specs.And.{◌and◌}
use Rattle.place.specs.Kind as kind
use Rattle.law_components.specs.Parts.{is_drawn}
use Rattle.law_components.specs.declared.Role.{Role}
use Rattle.law_components.specs.declared.Role.TheVariants.{Main, Pin, Outline, Other}

unfoldable pub role_by : ℕ → ℕ → Role
role_by k function =
    cond (eqb k kind.flash and eqb function 1) Main
    (cond (eqb k kind.flash and eqb function 2) Pin
    (cond (is_drawn k and eqb function 3) Outline Other))
