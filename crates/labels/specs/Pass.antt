-- The pass over the commands: one search for both questions, by name or by number.
use Rattle.std.specs.Prelude.{None, Option}
use Rattle.std.specs.Prelude.{ℕ, ◌+◌, ◌-◌, ◌≤◌, ◌≡◌, Bool, true, false, cond, List, [], ◌∷◌, eqb, Some}
use Rattle.base.specs.Choose.{pick}
use Rattle.command.specs.declared.Span.{Span}
use Rattle.sequence.specs.declared.Placed.{Placed}
use Rattle.names.specs.Sets.{sets_of}
use Rattle.labels.specs.Labels.{is_named}
use Rattle.labels.specs.declared.Label.{Label}

-- a name of a text that begins at `from`, in a file of so many bytes
pub record Lies (size from : ℕ) (n : Span) : Type 0 where
  pub ordered : n.from ≤ n.to
  pub inside : from + n.to ≤ size

pub record NameLies (size : ℕ) (c : Placed) : Type 0 where
  pub lies : (n : Span) → sets_of c.command ≡ Some n → Lies size c.from n

-- the one that is asked for: by its name, or when no more are to be passed
unfoldable pub wants : List ℕ → Bool → List ℕ → ℕ → Label → Bool
wants file by_name name left l = cond by_name (is_named file name l) (eqb left 0)

unfoldable pub first_wanted : List ℕ → Bool → List ℕ → ℕ → List Label → Option Label
first_wanted file by_name name left [] = None
first_wanted file by_name name left (l ∷ ls) =
    elim (wants file by_name name left l) [ true ↦ Some l | false ↦ first_wanted file by_name name (left - 1) ls ]

-- what is found stays, and a command that sets none leaves what there is
unfoldable pub met : List ℕ → Bool → List ℕ → ℕ → Option Label → Option Label → Option Label
met file by_name name left label (Some l) = Some l
met file by_name name left None None = None
met file by_name name left (Some l) None = pick (wants file by_name name left l) (Some l) None

unfoldable pub left_after : ℕ → Option Label → ℕ
left_after left None = left
left_after left (Some l) = left - 1
