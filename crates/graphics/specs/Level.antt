-- What stands open innermost (01, State).
use Rattle.std.specs.Prelude.{ℕ}

abbrev pub top_level : ℕ
top_level = 0

abbrev pub block : ℕ
block = 1

abbrev pub repeat : ℕ
repeat = 2
