-- `steps::operation` meets its contract: the operation's own step, together with the fault of its code.
-- Assumes nothing.
use mathlib.Core.Path.{refl, sym}
use Rattle.steps.specs.Steps.{Operates}
use Rattle.steps.proofs.Coded.{joined_strikes}
use Rattle.steps.proofs.operation.Goals as goal

pub operate-requires : goal.operate-requires
operate-requires c =
    c.requires

pub returns-in-Some : goal.returns-in-Some
unfolding Operates
returns-in-Some c = (
  c.operate.ensures.0,
  rw (sym c.held_in-held.ensures, c.in-Some.is, c.joined.ensures)
      (λ w s q k. joined_strikes _ _ _ _ _ (c.operate.ensures.1 w s q k)),
)

pub returns-in-None : goal.returns-in-None
unfolding Operates
returns-in-None c = (refl, rw (sym c.held_in-held.ensures, c.in-None.is) (refl, refl))
