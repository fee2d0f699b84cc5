-- `digest::place_of` meets its contract: each arm is the case of `place` that its pattern names.
use Rattle.std.proofs.Common.{◌≡◌, suc, ◌-◌, arith, rules}
use Rattle.digest.specs.Rounds.{place}
use Rattle.digest.proofs.place_of.Goals as goal

pub returns-in-0 : goal.returns-in-0
unfolding place
returns-in-0 c = (rw c.in-0.is, search rules)

pub returns-in-1 : goal.returns-in-1
unfolding place
returns-in-1 c = (rw c.in-1.is, omega arith)

pub returns-in-2 : goal.returns-in-2
unfolding place
returns-in-2 c = (rw c.in-2.is, omega arith)

pub returns-in_default : goal.returns-in_default
unfolding place
returns-in_default c =
    let r = c.args.r in
    let e : r ≡ suc (suc (suc (r - 3))) = omega arith in
    (rw e, omega arith)
