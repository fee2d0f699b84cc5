-- `inspect::run_ok` meets its contract. The loop's invariant, `Passed`: the entries before are in order, and what they put out is so far no more than the whole.
use Rattle.std.proofs.Common.{◌≡◌, true}
use Rattle.inspect.proofs.Passed.{Passed}
use Rattle.inspect.specs.Repeats.{NoRepeat}
use Rattle.inspect.proofs.run_ok.Given as goal

abbrev pub invariant-loop-i : goal.invariant-loop-i
invariant-loop-i l = Passed l.e l.a l.n l.k l.i l.so_far × (l.flat ≡ true → NoRepeat l.e l.k.first l.i)
