-- The centre of an arc in single quadrant mode, where I and J have no signs (02, [9]; decision 480): "Of the distinct centres given by
-- their signs, those off both ends whose arc in the drawn direction spans above 0 and at most 90 degrees are kept, and the one with the
-- least difference between the squared start and end radii is taken"; none where no centre remains or two tie.
use Rattle.std.specs.Prelude.{ℕ, Bool, not, cond, List, [], ◌∷◌, ℤ, pos, neg_ℤ, nat_abs, ◌-ℤ◌, None, Option, Some}
use Rattle.std.specs.Int.Signed.{lt_z}
use Rattle.base.specs.And.{◌and◌}
use Rattle.ints.specs.Ints.{is_neg}
use Rattle.points.specs.Points.{pt, same_point, shift}
use Rattle.points.specs.declared.Point.{Point}
use Rattle.reckon.specs.ArcCentre.{seen_from}
use Rattle.quadrant.specs.Lists.{those, once, least}
use Rattle.quadrant.specs.Vectors.{dot, cross}

-- start + (±I, ±J)
unfoldable pub four_centres : Point → ℕ → ℕ → List Point
four_centres start i j =
    shift start (pt (pos i) (pos j))
    ∷ shift start (pt (neg_ℤ (pos i)) (pos j))
    ∷ shift start (pt (pos i) (neg_ℤ (pos j)))
    ∷ shift start (pt (neg_ℤ (pos i)) (neg_ℤ (pos j)))
    ∷ []

-- above 0 for counterclockwise, below 0 for clockwise
unfoldable pub turns : Bool → ℤ → Bool
turns clockwise z = cond clockwise (is_neg z) (lt_z (pos 0) z)

-- seen from the centre, the arc spans above 0 and at most 90 degrees
unfoldable pub spans : Bool → Point → Point → Bool
spans clockwise s e = turns clockwise (cross s e) and not (is_neg (dot s e))

unfoldable pub kept : Bool → Point → Point → Point → Bool
kept clockwise start end c =
    not (same_point c start) and not (same_point c end) and spans clockwise (seen_from c start) (seen_from c end)

-- by how much the squares of the two radii differ
unfoldable pub uneven : Point → Point → Point → ℕ
uneven start end c = nat_abs (dot (seen_from c start) (seen_from c start) -ℤ dot (seen_from c end) (seen_from c end))

-- the one there is
unfoldable pub the_only : List Point → Option Point
the_only [] = None
the_only (c ∷ []) = Some c
the_only (c ∷ d ∷ l) = None

unfoldable pub chosen_centre : Point → Point → ℕ → ℕ → Bool → Option Point
chosen_centre start end i j clockwise =
    the_only (least (uneven start end) (those (kept clockwise start end) (once same_point (four_centres start i j))))
