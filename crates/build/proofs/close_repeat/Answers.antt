-- `build::close_repeat` meets its contract: what settled, and the state around it.
use native.Mathlib.Omega.{arith}
use mathlib.Core.Path.{refl}
use Rattle.build.proofs.close_repeat.Goals as goal

pub overflow_add-result-2 : goal.overflow_add-result-2
overflow_add-result-2 c =
    let o = c.opener_of-o.ensures in let p = c.requires.1 in rw o (omega arith)

pub returns : goal.returns
returns c =
    rw (c.index.ensures, c.opener_of-o.ensures) (record { leaves = rw (c.repeat_left.ensures, c.opener_of-o.ensures) at c.settle.ensures; next = refl })
