-- `product::halves` meets its contract: the product of two numbers of 16 bits has 32.
use Prim.Native.Nat.{ℕ, ◌*◌, ◌≤◌, ◌<◌}
use native.Mathlib.Omega.{arith}
use native.Mathlib.Nat.{le_trans, mul-le-mul_left, mul-le-mul_right}
use Rattle.product.proofs.halves.Goals as goal

within : (x y : ℕ) → x < 65536 → y < 65536 → x * y < 4294967296
within x y h k =
    let l : x ≤ 65535 = omega arith in
    let m : y ≤ 65535 = omega arith in
    omega (arith, le_trans (mul-le-mul_left x m) (mul-le-mul_right 65535 l))

pub overflow_mul-result : goal.overflow_mul-result
overflow_mul-result c = record { fits = within c.args.x c.args.y c.ranges.x.fits c.ranges.y.fits }
