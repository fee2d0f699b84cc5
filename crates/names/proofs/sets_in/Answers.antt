-- `names::sets_in` meets its contract: what does not begin with `TF` sets nothing.
-- Assumes nothing.
use mathlib.Core.Path.{sym, ◌∙◌, ap}
use Rattle.recognise.specs.Commands.{command_of}
use Rattle.names.specs.Sets.{sets_of}
use Rattle.names.proofs.Nameless.{word_none, macro_none, extended_none}
use Rattle.names.proofs.sets_in.Goals as goal

pub returns-then-begins : goal.returns-then-begins
unfolding command_of
returns-then-begins c =
    rw c.in-Extended.is (c.sets_of.ensures ∙ ap sets_of c.command_of.ensures)

pub returns-in-Word : goal.returns-in-Word
unfolding command_of
returns-in-Word c = rw c.in-Word.is (sym (word_none _ _ _))

pub returns-in-Macro : goal.returns-in-Macro
unfolding command_of
returns-in-Macro c = rw c.in-Macro.is (sym (macro_none _))

pub returns-else-begins : goal.returns-else-begins
unfolding command_of
returns-else-begins c = rw c.in-Extended.is (sym (extended_none _ _ (sym c.begins.ensures ∙ c.if-begins.false)))
