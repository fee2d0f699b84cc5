-- `summary_rows::move_rect` meets its contract: flipped, turned and shifted, in this order; a flip and a turn leave the sizes as they are.
use Rattle.summary_rows.specs.Rows.{moved_rect}
use Rattle.spans.proofs.Spans.{flip_rect_within, turn_rect_within}
use native.Mathlib.Omega.{arith}
use Rattle.summary_rows.proofs.move_rect.Goals as goal

pub turn_rect-requires : goal.turn_rect-requires
turn_rect-requires c = (rw c.flip_rect.ensures (flip_rect_within _ _ c.requires.1), omega arith)

pub shift_rect-requires : goal.shift_rect-requires
shift_rect-requires c = (rw (c.turn_rect.ensures, c.flip_rect.ensures) (turn_rect_within _ _ (flip_rect_within _ _ c.requires.1)), c.requires.0.at_in)

pub returns : goal.returns
unfolding moved_rect
returns c = rw (c.turn_rect.ensures, c.flip_rect.ensures) at c.shift_rect.ensures
