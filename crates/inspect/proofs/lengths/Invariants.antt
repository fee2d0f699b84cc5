-- `inspect::lengths` meets its contract. The loop's invariant, `Added`: the sum so far, within the bound.
use Rattle.std.proofs.Common.{◌≡◌, ℕ, ◌+◌, ◌-◌, ◌<◌, ◌≤◌}
use Rattle.inspect.proofs.Added.{Added}
use Rattle.inspect.proofs.lengths.Given as goal

abbrev pub invariant-loop-i : goal.invariant-loop-i
invariant-loop-i g l =
    (l.sum ≤ l.bound)
    × ((G : ℕ → ℕ) → ((i x : ℕ) → l.first ≤ i → i < l.first + l.n → goal.F-post g l.length i x → x ≡ G i) → Added G l.first l.bound (l.i - l.first) l.sum)
