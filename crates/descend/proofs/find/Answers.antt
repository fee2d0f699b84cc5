use native.Mathlib.Omega.{arith}
use mathlib.Core.Path.{◌≡◌}
use Prim.Native.Nat.{◌+◌}
use Rattle.descend.proofs.find.Goals as goal

pub overflow_add-high : goal.overflow_add-high
overflow_add-high c = omega arith

pub loop-low-init : goal.loop-low-init
loop-low-init c = (omega arith, omega arith, omega arith, omega arith, omega arith, λ l. absurd (omega arith))

pub overflow_add-low : goal.overflow_add-low
overflow_add-low c = omega arith

pub overflow_sub-middle : goal.overflow_sub-middle
overflow_sub-middle c = omega arith

pub overflow_add-middle : goal.overflow_add-middle
overflow_add-middle c = omega arith

pub before_at-requires : goal.before_at-requires
before_at-requires c = omega arith

pub loop-low-smaller-then-before_at-n : goal.loop-low-smaller-then-before_at-n
loop-low-smaller-then-before_at-n c = omega arith

pub loop-low-preserved-then-before_at-n : goal.loop-low-preserved-then-before_at-n
loop-low-preserved-then-before_at-n c = (omega arith, omega arith, omega arith, omega arith, omega arith, c.loop-low.invariant.5)

pub loop-low-smaller : goal.loop-low-smaller
loop-low-smaller c = omega arith

pub loop-low-preserved : goal.loop-low-preserved
loop-low-preserved c = (omega arith, omega arith, omega arith, omega arith, omega arith, λ l. omega arith)

pub returns : goal.returns
returns c = let i = c.loop-low.invariant in
    let q : c.loop-low.low + 1 ≡ c.loop-low.high = omega arith in
    record { low = i.0; high = omega arith; begins = i.4; next = rw q i.5 }
