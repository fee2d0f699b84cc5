-- `macros::assigned` meets its contract: there are 64 variables, and past them `set` changes nothing.
-- Assumes nothing.
use mir.Facts.{to_z-of_z}
use mir.Syntax.{w64}
use borrow.Author.Rules.{rules}
use native.Mathlib.Omega.{arith}
use lib.Seq.{set_out}
use lib.ListN.{length, set}
use mathlib.Core.Path.{◌≡◌, refl, sym, ap}
use Prim.Native.Nat.{ℕ, ◌≤◌, ◌-◌}
use borrow.Author.Rules.{rules}
use Rattle.macros.proofs.assigned.Goals as goal

pub returns-then-n-eq0 : goal.returns-then-n-eq0
returns-then-n-eq0 c =
    let a = c.args in
    let e : 0 ≡ a.n - 1 = omega (arith, c.if-n-eq0.true) in
    rw (to_z-of_z {w = w64} {z = c.args.a.millionths} (record { sfits = omega arith })) (ap (λ (k : ℕ). set a.v.values k a.a.millionths) e)

pub returns-then-n-le64 : goal.returns-then-n-le64
returns-then-n-le64 c = rw (to_z-of_z {w = w64} {z = c.args.a.millionths} (record { sfits = omega arith })) refl

pub returns : goal.returns
returns c =
    let a = c.args in
    let e : length a.v.values ≡ 64 = search rules in
    let h : length a.v.values ≤ a.n - 1 = omega (arith, c.if-n-le64.false) in
    sym (set_out a.v.values (a.n - 1) a.a.millionths h)
