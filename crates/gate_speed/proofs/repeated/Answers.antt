use mathlib.Core.Path.{◌≡◌, ap, ◌∙◌}
use Prim.Native.Nat.{suc, ◌+◌, ◌-◌}
use native.Mathlib.Nat.{sub-zero}
use native.Mathlib.Omega.{arith}
use Rattle.digest.specs.Runs.{finished, in_runs}
use Rattle.gate_speed.proofs.repeated.Goals as goal

pub loop-init : goal.loop-init
loop-init c = rw (sub-zero, c.start-s.ensures)

pub loop-preserved : goal.loop-preserved
unfolding in_runs
loop-preserved c =
    let l = c.loop in
    let a = c.args in
    let next : a.n - l.counter ≡ suc (a.n - (l.counter + 1)) = omega arith in
    rw c.feed_text-s.ensures (rw next at l.invariant)

pub returns : goal.returns
unfolding in_runs
returns c =
    let l = c.loop in
    let none : c.args.n - l.counter ≡ 0 = omega arith in
    c.finish.ensures ∙ ap finished (rw none at l.invariant)
