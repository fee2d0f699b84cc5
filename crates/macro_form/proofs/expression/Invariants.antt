-- `macro_form::expression` meets its contract: the loop's invariant: what the tokens from here on make of the walk is what all of them make of its start; no more
-- parentheses are open, and no more numbers counted, than bytes were passed.
-- Assumes nothing.
use Rattle.macro_form.specs.Expression.{start, walked}
use Rattle.macro_tokens.specs.Tokens.{tokens}
use lib.ListN.{length, drop}
use mathlib.Core.Path.{◌≡◌}
use Prim.Native.Nat.{◌-◌, ◌≤◌}
use Rattle.macro_form.proofs.expression.Given as goal

abbrev pub invariant-loop-at : goal.invariant-loop-at
invariant-loop-at l = (walked l.w (tokens (drop l.at l.t)) ≡ walked start (tokens l.t)) × (l.w.depth ≤ l.at) × (l.w.rounded ≤ l.at)

abbrev pub decreases-loop-at : goal.decreases-loop-at
decreases-loop-at l = length l.t - l.at
