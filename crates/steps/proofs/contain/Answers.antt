-- `steps::contain` meets its contract: each case by its function's promise; SR leaves the apertures as they are.
-- Assumes nothing.
use mathlib.Core.Path.{◌≡◌, refl, subst}
use Rattle.law_bounds.specs.Bounded.{BracketBounded}
use Rattle.law_reading.specs.Steps.{bracket_step}
use Rattle.steps.proofs.Arms.{known_of, keeps_apertures}
use Rattle.steps.proofs.contain.Goals as goal

pub block_start-requires : goal.block_start-requires
block_start-requires c =
    c.requires.known

pub block_end-requires : goal.block_end-requires
block_end-requires c =
    c.requires.known

pub repeat_start-requires : goal.repeat_start-requires
unfolding BracketBounded
repeat_start-requires c =
    record {
      known = known_of (λ w. (w.entries ≡ _) × (w.apertures ≡ _)) (λ w. w.entries ≡ _) _ (λ w q. q.0) c.requires.known;
      repeats = subst BracketBounded c.in-RepeatStart.is c.requires.bracket_bounded;
    }

pub repeat_end-requires : goal.repeat_end-requires
repeat_end-requires c = known_of (λ w. (w.entries ≡ _) × (w.apertures ≡ _)) (λ w. w.entries ≡ _) _ (λ w q. q.0) c.requires.known

pub returns-in-BlockStart : goal.returns-in-BlockStart
unfolding bracket_step
returns-in-BlockStart c =
    (c.block_start.ensures.0, c.block_start.ensures.1, rw c.in-BlockStart.is c.block_start.ensures.2)

pub returns-in-BlockEnd : goal.returns-in-BlockEnd
unfolding bracket_step
returns-in-BlockEnd c =
    (c.block_end.ensures.0, c.block_end.ensures.1, rw c.in-BlockEnd.is (c.block_end.ensures.2 _))

pub returns-in-RepeatStart : goal.returns-in-RepeatStart
unfolding bracket_step
returns-in-RepeatStart c = (c.repeat_start.ensures.0, refl, λ w s q k. keeps_apertures w _ _ _ _ q.1 (rw c.in-RepeatStart.is (c.repeat_start.ensures.1 w s q.0 k)))

pub returns-in-RepeatEnd : goal.returns-in-RepeatEnd
unfolding bracket_step
returns-in-RepeatEnd c = (c.repeat_end.ensures.0, refl, λ w s q k. keeps_apertures w _ _ _ _ q.1 (rw c.in-RepeatEnd.is (c.repeat_end.ensures.1 _ w s q.0 k)))
