-- `ints::same` meets its contract: two numbers are the same where their bits are.
use Rattle.ints.proofs.Bounded.{eq_z_bits}
use Rattle.ints.proofs.same.Goals as goal

pub returns : goal.returns
returns c = eq_z_bits c.args.a c.args.b c.ranges.a c.ranges.b
