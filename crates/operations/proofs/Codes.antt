-- A table with a row for each operation, by the number of the operation that a text ends in.
-- Assumes nothing.
use Prim.Native.Nat.{ℕ}
use mathlib.Core.Path.{◌≡◌, refl}
use mathlib.Core.Bool.{Bool, true, false}
use mathlib.Core.List.{List, [], ◌∷◌}
use Rattle.text.specs.Text.{◌ends◌}
use Rattle.base.specs.Choose.{pick, choose}
use Rattle.formats.specs.declared.Format.{Format}
use Rattle.command.specs.declared.Command.{Command}
use Rattle.operations.specs.Operations.{operation_code, operation_of}

module _ (of : ℕ → Command) (other : Command) where
  one_of : (t u v : Bool) → let number : ℕ = pick t 1 (pick u 2 (pick v 3 0)) in
      (number ≡ 0 → ⊥) → of number ≡ pick t (of 1) (pick u (of 2) (pick v (of 3) other))
  unfolding pick
  one_of true u v h = refl
  one_of false true v h = refl
  one_of false false true h = refl
  one_of false false false h = absurd (h refl)

  none_of : (t u v : Bool) → let number : ℕ = pick t 1 (pick u 2 (pick v 3 0)) in
      number ≡ 0 → other ≡ pick t (of 1) (pick u (of 2) (pick v (of 3) other))
  unfolding pick
  none_of true u v h = cc
  none_of false true v h = cc
  none_of false false true h = cc
  none_of false false false h = refl

module _ (f : Format) (s : List ℕ) (other : Command) where
  abbrev rows : Command
  rows = choose ((s ends "D01", operation_of 1 f s) ∷ (s ends "D02", operation_of 2 f s) ∷ (s ends "D03", operation_of 3 f s) ∷ []) other

  pub is_operation : (operation_code s ≡ 0 → ⊥) → operation_of (operation_code s) f s ≡ rows
  unfolding operation_code
  is_operation = one_of (λ number. operation_of number f s) other (s ends "D01") (s ends "D02") (s ends "D03")

  pub no_operation : operation_code s ≡ 0 → other ≡ rows
  unfolding operation_code
  no_operation = none_of (λ number. operation_of number f s) other (s ends "D01") (s ends "D02") (s ends "D03")
