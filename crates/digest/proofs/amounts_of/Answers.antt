-- `digest::amounts_of` meets its contract: each arm is the case of `amounts` that its pattern names.
use Rattle.std.proofs.Common.{◌≡◌, suc, ◌-◌, arith}
use Rattle.digest.specs.Rounds.{amounts}
use Rattle.digest.proofs.amounts_of.Goals as goal

pub returns-in-0 : goal.returns-in-0
unfolding amounts
returns-in-0 c = rw c.in-0.is

pub returns-in-1 : goal.returns-in-1
unfolding amounts
returns-in-1 c = rw c.in-1.is

pub returns-in-2 : goal.returns-in-2
unfolding amounts
returns-in-2 c = rw c.in-2.is

pub returns-in_default : goal.returns-in_default
unfolding amounts
returns-in_default c =
    let r = c.args.r in
    let e : r ≡ suc (suc (suc (r - 3))) = omega arith in
    rw e
