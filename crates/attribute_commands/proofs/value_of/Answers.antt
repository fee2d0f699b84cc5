-- `attribute_commands::value_of` meets its contract: whether there is a comma picks the case of `value_of`.
-- Assumes nothing.
use mathlib.Core.Path.{refl}
use borrow.Author.Tests.{lt-ltb, le-ltb}
use Rattle.base.proofs.Choose.{row_holds, row_fails}
use Rattle.attribute_commands.specs.Attributes.{value_of}
use Rattle.attribute_commands.proofs.value_of.Goals as goal

pub returns-then-comma-s : goal.returns-then-comma-s
unfolding value_of
returns-then-comma-s c = row_holds _ (lt-ltb _ _ c.if-comma-s.true) refl

pub returns : goal.returns
unfolding value_of
returns c = row_fails _ (le-ltb _ _ c.if-comma-s.false) refl
