-- What number 16 counts: "a D01 or D03 takes the open block or, SR copies counted, the sheet past 10^12 items".
use Rattle.std.specs.Prelude.{ℕ, ◌≡◌, List, ◌++◌, length, Option, ℤ}
use Rattle.place.specs.declared.Item.{Item}
use Rattle.place.specs.Copies.{copies}
use Rattle.place.specs.Parts.{Parts, items_in}
use Rattle.place.specs.Mark.{Mark, Around, top, within, block, repeat, written}
use Rattle.marks.specs.Marks.{draw_marks, flash_marks}
use Rattle.operation_rules.specs.Counts.{counted}
use Rattle.operation_rules.specs.Faults.{draw_items, flash_items}
use Rattle.law_built_store.specs.Shown.{blank}
use Rattle.law_reading.specs.State.{State}
use Rattle.command.specs.declared.Offset.{Offset}

-- the items of the open block or of the sheet; in an open repeat those of the sheet, with all its copies
unfoldable pub put_out_in : Around → Parts → List Item
put_out_in top here = items_in here
put_out_in (within (block n) before around) here = items_in here
put_out_in (within (repeat r) before around) here = items_in before ++ copies r (items_in here)

-- what marks have put out so far
unfoldable pub put_out : List Mark → List Item
put_out ms = put_out_in (written ms blank).around (written ms blank).here

-- the counters of a state are the lengths of what is put out: so far, and with what a D01 or a D03 leaves
pub record Counts (s : State) : Type 0 where
  pub now : counted s.level 0 ≡ length (put_out s.marks)
  pub drawn : (x y : Option ℤ) (o : Option Offset) (place : ℕ) →
      counted s.level (draw_items s.graphics) ≡ length (put_out (s.marks ++ draw_marks s.graphics x y o place))
  pub flashed : (x y : Option ℤ) (place : ℕ) →
      counted s.level (flash_items s.graphics) ≡ length (put_out (s.marks ++ flash_marks s.graphics x y place))
