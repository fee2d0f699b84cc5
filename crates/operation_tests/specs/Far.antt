-- How far operations may go (02, [9]; decision 517): 5 "for a point of 10^12 millionths or more in size".
use Rattle.std.specs.Prelude.{Bool, not, eqb, leb, nat_abs, Option, ℤ}
use Rattle.base.specs.And.{◌and◌}
use Rattle.base.specs.Or.{◌or◌}
use Rattle.points.specs.declared.Point.{Point}
use Rattle.graphics.specs.declared.Graphics.{Graphics}
use Rattle.changes.specs.After.{target}

-- FS is given
unfoldable pub is_formatted : Graphics → Bool
is_formatted g = not (eqb g.header.format.integers 0 and eqb g.header.format.decimals 0)

-- 5 (02, [9]; decision 517): "a point of 10^12 millionths or more in size", which incremental notation alone can write
unfoldable pub is_far : Point → Bool
is_far p = leb 1_000_000_000_000 (nat_abs p.x) or leb 1_000_000_000_000 (nat_abs p.y)

-- the point from which and the one to which an operation goes; before FS it is 6
unfoldable pub goes_far : Graphics → Option ℤ → Option ℤ → Bool
goes_far g x y = is_formatted g and (is_far g.point.at or is_far (target g x y))
