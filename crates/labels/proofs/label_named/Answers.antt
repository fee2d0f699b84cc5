-- `labels::label_named` meets its contract: a file that is too long lists no command and is 1, any other is passed over once.
-- Assumes nothing.
use Rattle.sequence.specs.Commands.{commands_of}
use Rattle.base.specs.Choose.{pick}
use Rattle.labels.proofs.Asked.{answer_named}
use Rattle.labels.specs.Labels.{judged, answer_in, label_named}
use mathlib.Core.Path.{sym, ◌∙◌}
use Rattle.labels.proofs.label_named.Goals as goal

pub returns-then-file_fits : goal.returns-then-file_fits
unfolding label_named commands_of
returns-then-file_fits c = rw (sym c.file_fits.ensures ∙ c.if-file_fits.true) (c.pass.ensures ∙ answer_named _ _ _ _)

pub returns : goal.returns
unfolding label_named commands_of answer_in judged pick
returns c = rw (sym c.file_fits.ensures ∙ c.if-file_fits.false) c.refused.ensures
