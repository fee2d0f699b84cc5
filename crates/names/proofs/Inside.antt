-- The name of a TF lies in its text.
-- Assumes nothing.
use Rattle.std.specs.Prelude.{None, Option, Some}
use Prim.Native.Nat.{ℕ, ◌≤◌}
use mathlib.Core.List.{List}
use lib.ListN.{length}
use Rattle.command.specs.declared.Command.{Command}
use Rattle.command.specs.declared.Command.TheVariants as cmd
use Rattle.command.specs.declared.Deed.{Deed}
use Rattle.command.specs.declared.Deed.TheVariants as deed
use Rattle.law_bounds.specs.Bounded.{DeedBounded, Bounded}
use Rattle.names.specs.Sets.{sets_by, sets_of}
use Rattle.command.specs.declared.Span.{Span}

-- a name in a text of n bytes
abbrev pub Inside : ℕ → Option Span → Type 0
Inside n None = Unit
Inside n (Some p) = (p.from ≤ p.to) × (p.to ≤ n)

module _ (s : List ℕ) where
  deed_inside : (d : Deed) → DeedBounded s d → Inside (length s) (sets_by d)
  unfolding DeedBounded sets_by
  deed_inside (deed.SetFile name value) b = (b.ordered, b.inside)
  deed_inside (deed.SetAperture name value) b = tt
  deed_inside (deed.SetObject name value) b = tt
  deed_inside (deed.Delete name) b = tt
  deed_inside deed.DeleteAll b = tt

  pub sets_inside : (c : Command) → Bounded s c → Inside (length s) (sets_of c)
  unfolding Bounded sets_of
  sets_inside (cmd.Broken flaw) b = tt
  sets_inside cmd.Note b = tt
  sets_inside cmd.End b = tt
  sets_inside (cmd.Set a) b = tt
  sets_inside (cmd.Operate o) b = tt
  sets_inside (cmd.Coded code o) b = tt
  sets_inside (cmd.Select n) b = tt
  sets_inside (cmd.Define d) b = tt
  sets_inside (cmd.Contain k) b = tt
  sets_inside (cmd.Attribute d) b = deed_inside d b
