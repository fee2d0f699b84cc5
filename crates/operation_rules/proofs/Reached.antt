-- A D01, D02 or D03 that breaks no rule goes to a point within 10^12: FS is given, or it were 6, and it is not 5.
-- Assumes nothing.
use Rattle.std.specs.Prelude.{Option, ℤ}
use Prim.Native.Nat.{ℕ, ◌^◌}
use mathlib.Core.Path.{◌≡◌, refl}
use mathlib.Core.Bool.{Bool, true, false, not}
use native.Mathlib.Omega.{arith}
use Rattle.base.specs.Choose.{pick}
use Rattle.base.proofs.Faults.{unbroken}
use Rattle.points.specs.Points.{Within}
use Rattle.graphics.specs.declared.Graphics.{Graphics}
use Rattle.graphics.specs.declared.Level.{Level}
use Rattle.changes.specs.After.{target}
use Rattle.operation_tests.specs.Far.{is_formatted, goes_far}
use Rattle.operation_tests.proofs.Laws.{neither_left, less_within, reaches}
use Rattle.operation_tests.specs.Fits.{draws_far, unready}
use Rattle.arcs.specs.Near.{Near}
use Rattle.arcs.proofs.Draws.{draws_near}
use Rattle.operation_rules.specs.Faults.{draw_fault, move_fault, flash_fault}
use Rattle.command.specs.declared.Offset.{Offset}

-- it is not 6
formatted : (g : Graphics) → unready g ≡ false → is_formatted g ≡ true
unfolding unready
formatted g e = go (is_formatted g) (neither_left (not (is_formatted g)) _ e)
  where
    go : (t : Bool) → not t ≡ false → t ≡ true
    go true q = refl
    go false q = absurd (let z : ◌≡◌ {A = ℕ} 0 1 = cc in omega arith)

-- its start, its end, and I and J
pub draw_near : (g : Graphics) (l : Level) (room : ℕ) (x y : Option ℤ) (o : Option Offset) → draw_fault g l room x y o ≡ 0 → Near g (target g x y) o
unfolding draw_fault
draw_near g l room x y o e =
    let near = unbroken {test = draws_far g x y o} {number = 5} (omega arith) e in
    let ready = unbroken {test = unready g} {number = 6} (omega arith) near.1 in
    draws_near g x y o (formatted g ready.0) near.0

pub draw_reached : (g : Graphics) (l : Level) (room : ℕ) (x y : Option ℤ) (o : Option Offset) → draw_fault g l room x y o ≡ 0 → Within (10 ^ 12) (target g x y)
draw_reached g l room x y o e = (draw_near g l room x y o e).goal

goes_within : (g : Graphics) (x y : Option ℤ) (m : ℕ) → pick (goes_far g x y) 5 (pick (unready g) 6 m) ≡ 0 → Within (10 ^ 12) (target g x y)
goes_within g x y m e =
    let near = unbroken {test = goes_far g x y} {number = 5} (omega arith) e in
    let ready = unbroken {test = unready g} {number = 6} (omega arith) near.1 in
    less_within (target g x y) (reaches g x y (formatted g ready.0) near.0).to

pub move_reached : (g : Graphics) (x y : Option ℤ) → move_fault g x y ≡ 0 → Within (10 ^ 12) (target g x y)
unfolding move_fault
move_reached g x y e = goes_within g x y _ e

pub flash_reached : (g : Graphics) (l : Level) (room : ℕ) (x y : Option ℤ) → flash_fault g l room x y ≡ 0 → Within (10 ^ 12) (target g x y)
unfolding flash_fault
flash_reached g l room x y e = goes_within g x y _ e
