-- Points that are not far are within 10^12, and where an operation goes that does not break 5.
-- Assumes nothing.
use Rattle.std.specs.Prelude.{Option, ℤ}
use Prim.Native.Nat.{ℕ, ◌*◌, ◌^◌, ◌≤◌, ◌<◌}
use mathlib.Core.Path.{◌≡◌, ap}
use mathlib.Core.Bool.{Bool, true, false}
use native.Mathlib.Omega.{arith}
use lib.Dec.{leb}
use lib.IntN.{ℤ, nat_abs, ◌+ℤ◌, +ℤ_comm, +ℤ-neg_ℤ_cancel}
use borrow.Author.Tests.{le-leb, leb-false}
use Rattle.base.specs.And.{◌and◌}
use Rattle.base.specs.Or.{◌or◌}
use Rattle.ints.proofs.Bounded.{abs_sub}
use Rattle.points.specs.Points.{Within}
use Rattle.points.specs.declared.Point.{Point}
use Rattle.graphics.specs.declared.Graphics.{Graphics}
use Rattle.changes.specs.After.{target}
use Rattle.operation_tests.specs.Far.{is_formatted, is_far, goes_far}

-- what is added to a number below 10^12 and is twice that leaves it at 10^12 at least
pub long_sum : (a b : ℤ) → nat_abs a < 10 ^ 12 → 2 * 10 ^ 12 ≤ nat_abs b → leb 1_000_000_000_000 (nat_abs (a +ℤ b)) ≡ true
long_sum a b h k =
    le-leb 1_000_000_000_000 (nat_abs (a +ℤ b)) (omega (arith, abs_sub (b +ℤ a) a, ap nat_abs (+ℤ-neg_ℤ_cancel b a), ap nat_abs (+ℤ_comm a b)))

-- of two tests that are joined by `or` and fail, each fails
pub neither_left : (a b : Bool) → (a or b) ≡ false → a ≡ false
unfolding ◌or◌
neither_left true b e = e
neither_left false b e = cc

pub neither_right : (a b : Bool) → (a or b) ≡ false → b ≡ false
unfolding ◌or◌
neither_right true b e = absurd (let z : ◌≡◌ {A = ℕ} 0 1 = cc in omega arith)
neither_right false b e = e

-- a test that fails leaves what is joined to it
pub else_right : (a b r : Bool) → a ≡ false → r ≡ b → r ≡ (a or b)
unfolding ◌or◌
else_right a b r e q = rw e q

-- less than 10^12 in size
pub record Less (p : Point) : Type 0 where
  pub across : nat_abs p.x < 10 ^ 12
  pub up : nat_abs p.y < 10 ^ 12

pub less : (p : Point) → is_far p ≡ false → Less p
unfolding is_far
less p e = record {
  across = leb-false _ _ (neither_left (leb 1_000_000_000_000 (nat_abs p.x)) _ e);
  up = leb-false _ _ (neither_right (leb 1_000_000_000_000 (nat_abs p.x)) _ e);
}

pub less_within : (p : Point) → Less p → Within (10 ^ 12) p
less_within p h = record { across = omega (arith, h.across); up = omega (arith, h.up) }

-- an operation after FS that breaks not 5: where it goes from and to
pub record Reaches (g : Graphics) (x y : Option ℤ) : Type 0 where
  pub from : Less g.point.at
  pub to : Less (target g x y)

pub reaches : (g : Graphics) (x y : Option ℤ) → is_formatted g ≡ true → goes_far g x y ≡ false → Reaches g x y
unfolding goes_far ◌and◌
reaches g x y f e =
    let far : (is_far g.point.at or is_far (target g x y)) ≡ false = rw f at e in
    record {
      from = less g.point.at (neither_left (is_far g.point.at) _ far);
      to = less (target g x y) (neither_right (is_far g.point.at) _ far);
    }
