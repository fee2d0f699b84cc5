-- Flip and angle (01, Items: "Mirroring comes before rotation. As flip (of x) and angle: none = no, 0; X = yes, 0; Y = yes, 180;
-- XY = no, 180; then LR is added; every angle is modulo 360 degrees, from 0 up").
use Rattle.std.specs.Prelude.{ℕ, ◌+◌, ◌-◌, ◌%◌, Bool, cond, ℤ, nat_abs}
use Rattle.std.specs.Bool.{xor}
use Rattle.ints.specs.Ints.{is_neg}
use Rattle.place.specs.Placing.{full_turn}
use Rattle.graphics.specs.declared.Transform.{Transform}
use Rattle.graphics.specs.declared.Orientation.{Orientation}

-- an angle modulo 360 degrees, from 0 up
unfoldable pub angle_of : ℤ → ℕ
angle_of z = cond (is_neg z) (full_turn - nat_abs z % full_turn) (nat_abs z) % full_turn

-- degrees, in millionths
abbrev pub half_turn : ℕ
half_turn = 180_000_000

-- "Y = yes, 180; XY = no, 180; then LR is added"
unfoldable pub angle_after : Bool → ℕ → ℕ
angle_after y rotation = (cond y half_turn 0 + rotation) % full_turn

unfoldable pub orientation : Transform → Orientation
orientation t = record { flip = xor t.mirror.x t.mirror.y; angle = angle_after t.mirror.y t.rotation }
