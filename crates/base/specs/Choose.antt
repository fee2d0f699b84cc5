-- A table: the answer of the first test that holds. Shut, so that antt finds the arguments of its laws.
use Rattle.std.specs.Prelude.{Bool, true, false, List, [], ◌∷◌}

unfoldable pub pick : {A : Type 0} → Bool → A → A → A
pick true a b = a
pick false a b = b

abbrev pub choose : {A : Type 0} → List (Bool × A) → A → A
choose [] other = other
choose (row ∷ rows) other = pick row.0 row.1 (choose rows other)
