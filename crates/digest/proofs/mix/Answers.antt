-- `digest::mix` meets its contract: each arm is the case of `mixed` that its pattern names.
use Rattle.std.proofs.Common.{◌≡◌, suc, ◌-◌, arith}
use Rattle.digest.specs.Rounds.{mixed}
use Rattle.digest.proofs.mix.Goals as goal

pub returns-in-0 : goal.returns-in-0
unfolding mixed
returns-in-0 c = rw c.in-0.is

pub returns-in-1 : goal.returns-in-1
unfolding mixed
returns-in-1 c = rw c.in-1.is

pub returns-in-2 : goal.returns-in-2
unfolding mixed
returns-in-2 c = rw c.in-2.is

pub returns-in_default : goal.returns-in_default
unfolding mixed
returns-in_default c =
    let r = c.args.r in
    let e : r ≡ suc (suc (suc (r - 3))) = omega arith in
    rw e
