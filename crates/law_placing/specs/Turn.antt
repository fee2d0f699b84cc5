-- The multiples of 90 degrees below a full turn, counterclockwise.
use Rattle.std.specs.Prelude.{ℕ, Bool, cond}

pub data Turn : Type 0 where
  ahead left back right : Turn

-- in millionths of a degree, as a pose has its angle
unfoldable pub degrees : Turn → ℕ
degrees ahead = 0
degrees left = 90_000_000
degrees back = 180_000_000
degrees right = 270_000_000

-- 90 degrees more
unfoldable pub next : Turn → Turn
next ahead = left
next left = back
next back = right
next right = ahead

-- one turn and another: what is over a full turn falls away
unfoldable pub plus : Turn → Turn → Turn
plus ahead r = r
plus left r = next r
plus back r = next (next r)
plus right r = next (next (next r))

-- as far the other way round
unfoldable pub opposite : Turn → Turn
opposite ahead = ahead
opposite left = right
opposite back = back
opposite right = left

-- a turn seen through a flip goes the other way round
unfoldable pub mirrored : Bool → Turn → Turn
mirrored f q = cond f (opposite q) q
