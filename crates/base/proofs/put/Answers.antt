-- `base::put` meets its contract: inside the slice the store is the list's own `set`, and past the end `set` changes nothing.
use lib.Seq.{set_out}
use mathlib.Core.Path.{sym}
use Rattle.base.proofs.put.Goals as goal

pub returns-else-i-s : goal.returns-else-i-s
returns-else-i-s c = sym (set_out c.args.s.now c.args.i c.args.v c.if-i-s.false)
