-- Worked examples: what the rule chooses, by computing it.
-- Assumes nothing.
use Rattle.std.specs.Prelude.{None, Option, Some}
use mathlib.Core.Path.{◌≡◌, refl}
use mathlib.Core.Bool.{true, false}
use mathlib.Core.List.{List, [], ◌∷◌}
use lib.IntN.{pos, negsuc}
use Rattle.base.specs.And.{◌and◌}
use Rattle.ints.specs.Ints.{eq_z, is_neg}
use Rattle.points.specs.Points.{pt, same_point, shift}
use Rattle.reckon.specs.ArcCentre.{seen_from}
use Rattle.quadrant.specs.Lists.{those, all, once, least}
use Rattle.quadrant.specs.Vectors.{dot, cross}
use Rattle.quadrant.specs.Centre.{four_centres, turns, spans, kept, uneven, the_only, chosen_centre}
use Rattle.points.specs.declared.Point.{Point}

-- a quarter circle about (0, 0) in each quadrant, counterclockwise and clockwise; I or J is 0, so two candidates are one, twice
quarters :
    ◌≡◌ {A = List (Option Point)}
    (chosen_centre (pt (pos 10) (pos 0)) (pt (pos 0) (pos 10)) 10 0 false
    ∷ chosen_centre (pt (pos 0) (pos 10)) (pt (pos 10) (pos 0)) 0 10 true
    ∷ chosen_centre (pt (pos 0) (pos 10)) (pt (negsuc 9) (pos 0)) 0 10 false
    ∷ chosen_centre (pt (negsuc 9) (pos 0)) (pt (pos 0) (pos 10)) 10 0 true
    ∷ chosen_centre (pt (negsuc 9) (pos 0)) (pt (pos 0) (negsuc 9)) 10 0 false
    ∷ chosen_centre (pt (pos 0) (negsuc 9)) (pt (negsuc 9) (pos 0)) 0 10 true
    ∷ chosen_centre (pt (pos 0) (negsuc 9)) (pt (pos 10) (pos 0)) 0 10 false
    ∷ chosen_centre (pt (pos 10) (pos 0)) (pt (pos 0) (negsuc 9)) 10 0 true
    ∷ [])
    (Some (pt (pos 0) (pos 0)) ∷ Some (pt (pos 0) (pos 0)) ∷ Some (pt (pos 0) (pos 0)) ∷ Some (pt (pos 0) (pos 0)) ∷ Some (pt (pos 0) (pos 0)) ∷ Some (pt (pos 0) (pos 0)) ∷ Some (pt (pos 0) (pos 0)) ∷ Some (pt (pos 0) (pos 0)) ∷ [])
unfolding chosen_centre the_only least those once all four_centres kept spans turns uneven dot cross seen_from same_point shift eq_z is_neg ◌and◌
quarters = refl

-- 001, 5.3.1.3: from (11, 6) in four quarters of radius 4 about (7, 6), counterclockwise; and back, clockwise
book :
    ◌≡◌ {A = List (Option Point)}
    (chosen_centre (pt (pos 11000000) (pos 6000000)) (pt (pos 7000000) (pos 10000000)) 4000000 0 false
    ∷ chosen_centre (pt (pos 7000000) (pos 10000000)) (pt (pos 3000000) (pos 6000000)) 0 4000000 false
    ∷ chosen_centre (pt (pos 3000000) (pos 6000000)) (pt (pos 7000000) (pos 2000000)) 4000000 0 false
    ∷ chosen_centre (pt (pos 7000000) (pos 2000000)) (pt (pos 11000000) (pos 6000000)) 0 4000000 false
    ∷ chosen_centre (pt (pos 11000000) (pos 6000000)) (pt (pos 7000000) (pos 2000000)) 4000000 0 true
    ∷ chosen_centre (pt (pos 7000000) (pos 2000000)) (pt (pos 3000000) (pos 6000000)) 0 4000000 true
    ∷ chosen_centre (pt (pos 3000000) (pos 6000000)) (pt (pos 7000000) (pos 10000000)) 4000000 0 true
    ∷ chosen_centre (pt (pos 7000000) (pos 10000000)) (pt (pos 11000000) (pos 6000000)) 0 4000000 true
    ∷ [])
    (Some (pt (pos 7000000) (pos 6000000)) ∷ Some (pt (pos 7000000) (pos 6000000)) ∷ Some (pt (pos 7000000) (pos 6000000)) ∷ Some (pt (pos 7000000) (pos 6000000)) ∷ Some (pt (pos 7000000) (pos 6000000)) ∷ Some (pt (pos 7000000) (pos 6000000)) ∷ Some (pt (pos 7000000) (pos 6000000)) ∷ Some (pt (pos 7000000) (pos 6000000)) ∷ [])
unfolding chosen_centre the_only least those once all four_centres kept spans turns uneven dot cross seen_from same_point shift eq_z is_neg ◌and◌
book = refl

-- of two that are kept the one whose squares differ less: (0, 0) by 0 and (6, 0) by 84; (0, 0) by 0 and (-8, 0) by 112
nearer :
    ◌≡◌ {A = List (Option Point)}
    (chosen_centre (pt (pos 3) (pos 4)) (pt (negsuc 3) (pos 3)) 3 4 false
    ∷ chosen_centre (pt (negsuc 3) (pos 3)) (pt (pos 3) (pos 4)) 4 3 true
    ∷ [])
    (Some (pt (pos 0) (pos 0)) ∷ Some (pt (pos 0) (pos 0)) ∷ [])
unfolding chosen_centre the_only least those once all four_centres kept spans turns uneven dot cross seen_from same_point shift eq_z is_neg ◌and◌
nearer = refl

-- two that are kept, (1, -5) and (-1, -5), differ by 8 each; clockwise (1, 5) and (-1, 5) do
tied :
    ◌≡◌ {A = List (Option Point)}
    (chosen_centre (pt (pos 0) (pos 0)) (pt (negsuc 3) (negsuc 1)) 1 5 false
    ∷ chosen_centre (pt (pos 0) (pos 0)) (pt (negsuc 3) (pos 2)) 1 5 true
    ∷ [])
    (None ∷ None ∷ [])
unfolding chosen_centre the_only least those once all four_centres kept spans turns uneven dot cross seen_from same_point shift eq_z is_neg ◌and◌
tied = refl

-- a quarter is kept, and a little more is not
beyond :
    ◌≡◌ {A = List (Option Point)}
    (chosen_centre (pt (pos 10) (pos 0)) (pt (pos 0) (pos 10)) 10 0 false
    ∷ chosen_centre (pt (pos 10) (pos 0)) (pt (negsuc 0) (pos 10)) 10 0 false
    ∷ [])
    (Some (pt (pos 0) (pos 0)) ∷ None ∷ [])
unfolding chosen_centre the_only least those once all four_centres kept spans turns uneven dot cross seen_from same_point shift eq_z is_neg ◌and◌
beyond = refl

-- clockwise about (0, 0) it is 270 degrees; (20, 0) is kept and alone, and its squares differ by 400: nothing bounds that
unequal :
    ◌≡◌ {A = List (Option Point)}
    (chosen_centre (pt (pos 10) (pos 0)) (pt (pos 0) (pos 10)) 10 0 true
    ∷ [])
    (Some (pt (pos 20) (pos 0)) ∷ [])
unfolding chosen_centre the_only least those once all four_centres kept spans turns uneven dot cross seen_from same_point shift eq_z is_neg ◌and◌
unequal = refl

-- I and J both 0; from a point to itself
nothing :
    ◌≡◌ {A = List (Option Point)}
    (chosen_centre (pt (pos 10) (pos 0)) (pt (pos 0) (pos 10)) 0 0 false
    ∷ chosen_centre (pt (pos 10) (pos 0)) (pt (pos 0) (pos 10)) 0 0 true
    ∷ chosen_centre (pt (pos 10) (pos 0)) (pt (pos 10) (pos 0)) 5 5 false
    ∷ [])
    (None ∷ None ∷ None ∷ [])
unfolding chosen_centre the_only least those once all four_centres kept spans turns uneven dot cross seen_from same_point shift eq_z is_neg ◌and◌
nothing = refl

-- at the ends of the range: a quarter of the largest radius, one a millionth more, and the longest vectors
large :
    ◌≡◌ {A = List (Option Point)}
    (chosen_centre (pt (pos 999999999999) (pos 0)) (pt (pos 0) (pos 999999999999)) 999999999999 0 false
    ∷ chosen_centre (pt (pos 999999999999) (pos 0)) (pt (negsuc 0) (pos 999999999999)) 999999999999 0 false
    ∷ chosen_centre (pt (pos 1000000000000) (pos 1000000000000)) (pt (negsuc 999999999999) (pos 0)) 999999999999 999999999999 true
    ∷ chosen_centre (pt (negsuc 999999999999) (negsuc 999999999999)) (pt (pos 1000000000000) (pos 999999999999)) 999999999999 999999999999 false
    ∷ [])
    (Some (pt (pos 0) (pos 0)) ∷ None ∷ Some (pt (pos 1) (pos 1999999999999)) ∷ Some (pt (negsuc 1999999999998) (negsuc 0)) ∷ [])
unfolding chosen_centre the_only least those once all four_centres kept spans turns uneven dot cross seen_from same_point shift eq_z is_neg ◌and◌
large = refl
