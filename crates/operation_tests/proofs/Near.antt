-- Points that a file can write are near.
-- Assumes nothing.
use Prim.Native.Nat.{◌^◌}
use native.Mathlib.Omega.{arith}
use Rattle.points.specs.Points.{Within}
use Rattle.points.specs.declared.Point.{Point}

pub near : (p : Point) → Within (10 ^ 12) p → Within (10 ^ 16) p
near p h = record { across = omega (arith, h.across); up = omega (arith, h.up) }
