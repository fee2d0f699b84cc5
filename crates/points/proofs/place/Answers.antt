-- `points::place` meets its contract: the three movements one after the other, of which a flip and a turn keep a point within its bounds.
use mathlib.Core.Path.{ap, ◌∙◌}
use Rattle.points.specs.Points.{shift, turned}
use Rattle.points.proofs.Laws.{flipped_within, turned_within}
use Rattle.points.proofs.place.Goals as goal

pub turn-requires : goal.turn-requires
turn-requires c = record {
  within = rw c.flip.ensures (flipped_within _ _ _ c.requires.within_2);
  n_bound = c.requires.n_bound;
}

pub shifted-requires : goal.shifted-requires
shifted-requires c = record {
  within = rw (c.turn.ensures, c.flip.ensures) (turned_within _ _ _ (flipped_within _ _ _ c.requires.within_2));
  within_2 = c.requires.within;
}

pub returns : goal.returns
returns c = let a = c.args in
    c.shifted.ensures ∙ ap (λ p. shift p a.at) (c.turn.ensures ∙ ap (turned a.n) c.flip.ensures)
