-- A table of rules: a test, which holds where the rule is broken, and the rule's number.
use Rattle.std.specs.Prelude.{ℕ, Bool, List}
use Rattle.base.specs.Choose.{choose}

abbrev pub Table : Type 0
Table = List (Bool × ℕ)

-- "within one command the lowest number decides": the first test that holds, 0 where none does
abbrev pub first_fault : Table → ℕ
first_fault rows = choose rows 0
