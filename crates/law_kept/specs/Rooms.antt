-- "and the lent room holds it": a room that is nowhere smaller than another.
use Rattle.std.specs.Prelude.{◌≤◌}
use Rattle.law_reading.specs.State.{Room}

pub record AtLeast (small large : Room) : Type 0 where
  pub entries : small.entries ≤ large.entries
  pub apertures : small.apertures ≤ large.apertures
  pub macros : small.macros ≤ large.macros
  pub numbers : small.numbers ≤ large.numbers
