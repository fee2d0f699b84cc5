-- Bytes written into a lent room one after the other, and what is known where they do not fit: that they do not (02, [4]: "17 when the output
-- does not fit").
use Rattle.std.specs.Prelude.{ℕ, ◌+◌, ◌≡◌, false, List, ltb, length}
use Rattle.base.specs.Or.{◌or◌}
use Rattle.lines.specs.Line.{Added}
use Rattle.law_components.specs.declared.Pen.{Pen}

-- s is written after what the pen p has written, and q is the pen after it
pub record Wrote (before after : List ℕ) (p q : Pen) (s : List ℕ) : Type 0 where
  pub long : length after ≡ length before
  pub full : q.full ≡ (p.full or ltb (length before) (p.at + length s))
  pub stands : q.full ≡ false → Added before after p.at q.at s
