-- `address::span_of` meets its contract: of a repeat the body lies in the room.
use mathlib.Core.Path.{sym, ◌∙◌}
use Rattle.address.proofs.span_of.Goals as goal

pub standing-requires : goal.standing-requires
standing-requires c = rw (c.index-in-Repeats.ensures, c.index.ensures) (c.requires (sym c.role_of.ensures ∙ c.in-Repeats.is))
