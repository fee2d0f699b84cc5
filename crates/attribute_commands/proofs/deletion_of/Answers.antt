-- `attribute_commands::deletion_of` meets its contract: each test is that of a row of `deletion_of`.
-- Assumes nothing.
use mathlib.Core.Path.{refl, sym, ◌∙◌}
use Rattle.base.proofs.Choose.{row_holds, row_fails}
use Rattle.attribute_commands.specs.Attributes.{deletion_of}
use Rattle.attribute_commands.proofs.deletion_of.Goals as goal

pub returns-then-is : goal.returns-then-is
unfolding deletion_of
returns-then-is c = row_holds _ (sym c.is.ensures ∙ c.if-is.true) refl

pub returns : goal.returns
unfolding deletion_of
returns c =
    row_fails _ (sym c.is.ensures ∙ c.if-is.false)
    (simp (c.pick.ensures, c.both-named.ensures, c.is_name.ensures, c.from_on.ensures, c.begins.ensures))
