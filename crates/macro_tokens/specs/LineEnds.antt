-- CR and LF are skipped after `*` inside an extended command, and after a comma in AM (01, Form; decisions 6 and 7): before a block,
-- before an expression, and after the last `*`.
use Rattle.std.specs.Prelude.{ℕ, List}
use Rattle.base.specs.Breaks.{is_break}
use Rattle.base.specs.Trimmed.{drop_leading, drop_trailing}

abbrev pub without_leading : List ℕ → List ℕ
without_leading = drop_leading is_break

abbrev pub without_trailing : List ℕ → List ℕ
without_trailing = drop_trailing is_break
