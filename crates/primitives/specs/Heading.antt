-- The number that stands before a primitive's parameters among those that an AD keeps: its code, and a hundred for each of the parameters
-- (decision 562).
use Rattle.std.specs.Prelude.{ℕ, ◌+◌, ◌*◌, ◌/◌, ◌%◌, cond, leb}

-- no rule asks for more parameters than those of an outline of 5000 points
abbrev pub most_parameters : ℕ
most_parameters = 10005

unfoldable pub heading : ℕ → ℕ → ℕ
heading code count = cond (leb count most_parameters) (count * 100 + code) code

-- what is read from it again
abbrev pub code_in : ℕ → ℕ
code_in n = n % 100

abbrev pub count_in : ℕ → ℕ
count_in n = n / 100
