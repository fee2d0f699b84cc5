-- `signature::hold` meets its contract: before each turn, noting what is left leads to where the whole run leads.
use mathlib.Core.Path.{◌≡◌}
use lib.ListN.{drop}
use Rattle.digest.specs.Text.{unbroken}
use Rattle.signature.specs.Held.{noted_all}
use Rattle.signature.proofs.hold.Given as goal

abbrev pub invariant-loop-b : goal.invariant-loop-b
invariant-loop-b l = noted_all l.g (unbroken (drop l.b-index l.t)) ≡ noted_all l.initial.g (unbroken l.t)
