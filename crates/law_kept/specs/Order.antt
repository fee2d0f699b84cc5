-- "within one command the lowest number decides" (01, Numbers the reader answers), in the order that operation_rules/specs/Order.antt has.
use Rattle.std.specs.Prelude.{ℕ, ◌≤◌, ◌≡◌, Bool, true, List, ◌∷◌}
use Rattle.operation_rules.specs.Order.{rank}

-- a table of rules has a row with this number, whose test holds
pub data Broken (number : ℕ) : List (Bool × ℕ) → Type 0 where
  here : {row : Bool × ℕ} {rows : List (Bool × ℕ)} → row.0 ≡ true → row.1 ≡ number → Broken number (row ∷ rows)
  further : {row : Bool × ℕ} {rows : List (Bool × ℕ)} → Broken number rows → Broken number (row ∷ rows)

-- of the rules broken, in whatever order the table has them, this is the lowest; 0 where none is
pub record Lowest (rows : List (Bool × ℕ)) (number : ℕ) : Type 0 where
  pub one : 1 ≤ number → Broken number rows
  pub none : number ≡ 0 → (other : ℕ) → Broken other rows → ⊥
  pub least : (other : ℕ) → Broken other rows → rank number ≤ rank other
