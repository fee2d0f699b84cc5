-- `index::search_number` meets its contract: at each turn the search comes from the record at hand to the one that has the number,
-- if one has, and ends where it would from the first.
use Prim.Native.Nat.{◌-◌}
use lib.Dec.{eqb}
use Rattle.index.specs.Numbers.{number_of}
use Rattle.index.proofs.Seek.{Standing}
use Rattle.index.proofs.search_number.Given as goal

abbrev pub invariant-loop-to : goal.invariant-loop-to
invariant-loop-to l = Standing l.s (λ i. eqb (number_of l.s i) l.number) l.used l.number l.key l.at l.link

abbrev pub decreases-loop-to : goal.decreases-loop-to
decreases-loop-to l = l.used - l.at
