-- A placement: flip, angle (a multiple of 90 degrees), shift and polarity toggle (02, request [12]). Coordinates are all whole numbers.
use Rattle.std.specs.Prelude.{Bool, false, pos, neg_ℤ}
use Rattle.std.specs.Bool.{xor}
use Rattle.points.specs.declared.Point.{Point}
use Rattle.points.specs.Points.{pt, flipped}
use Rattle.place.specs.Placing.{moved}
use Rattle.place.specs.declared.Pose.{Pose}
use Rattle.law_placing.specs.Turn.{Turn, ahead, left, back, right, degrees, plus, opposite, mirrored}

pub record Placement : Type 0 where
  pub flip : Bool
  pub turn : Turn
  pub at : Point
  pub toggle : Bool

-- the pose by which 01 places an item
unfoldable pub pose : Placement → Pose
pose m = record { flip = m.flip; angle = degrees m.turn; clear = m.toggle; at = m.at }

-- n inside, m around it: the point at which n puts things down is moved by m
unfoldable pub join : Placement → Placement → Placement
join m n = record {
  flip = xor m.flip n.flip;
  turn = plus m.turn (mirrored m.flip n.turn);
  at = moved (pose m) n.at;
  toggle = xor m.toggle n.toggle;
}

-- everything stays where it is
unfoldable pub identity : Placement
identity = record { flip = false; turn = ahead; at = pt (pos 0) (pos 0); toggle = false }

-- a point turned round (0, 0)
unfoldable pub spin : Turn → Point → Point
spin ahead p = p
spin left p = pt (neg_ℤ p.y) p.x
spin back p = pt (neg_ℤ p.x) (neg_ℤ p.y)
spin right p = pt p.y (neg_ℤ p.x)

-- on the other side of (0, 0), as far
unfoldable pub negated : Point → Point
negated p = pt (neg_ℤ p.x) (neg_ℤ p.y)

-- what puts everything back where it was
unfoldable pub inverse : Placement → Placement
inverse m = record {
  flip = m.flip;
  turn = mirrored m.flip (opposite m.turn);
  at = spin (mirrored m.flip (opposite m.turn)) (flipped m.flip (negated m.at));
  toggle = m.toggle;
}
