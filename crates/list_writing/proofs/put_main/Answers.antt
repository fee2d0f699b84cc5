-- `list_writing::put_main` meets its contract: the record says where the designator lies, the note where the other texts do.
-- Assumes nothing.
use mathlib.Core.Path.{◌∙◌}
use lib.Seq.{slice}
use Rattle.list_writing.specs.Rows.{main_by}
use Rattle.law_components.specs.Records.{main_row}
use Rattle.law_components.proofs.Written.{is_also}
use Rattle.list_writing.proofs.put_main.Goals as goal

pub returns : goal.returns
unfolding main_by
returns c =
    let a = c.args in is_also (λ i. main_row ((c.part.ensures ∙ (λ j. slice ((c.index-from.ensures ∙ c.word_of.ensures) j) ((c.index-to.ensures ∙ c.word_of-2.ensures) j) a.file.now)) i) a.s.end (c.part-2.ensures i) (c.part-3.ensures i) (c.part-4.ensures i) (c.part-5.ensures i)) c.main_row.ensures
