-- `words::newer_word` meets its contract: the first row of `newer_word` by its test, the rows of operations by their number.
-- Assumes nothing.
use mathlib.Core.Path.{sym, ap, ◌∙◌}
use Rattle.base.proofs.Choose.{row_holds, row_fails}
use Rattle.operations.specs.Operations.{operation_of}
use Rattle.operations.proofs.Codes.{is_operation, no_operation}
use Rattle.words.specs.Newer.{newer_word}
use Rattle.words.proofs.newer_word.Goals as goal

pub returns-then-begins : goal.returns-then-begins
unfolding newer_word
returns-then-begins c = row_holds _ (sym c.begins.ensures ∙ c.if-begins.true) c.comment_of.ensures

pub returns-then-number-eq0 : goal.returns-then-number-eq0
unfolding newer_word
returns-then-number-eq0 c =
    row_fails _ (sym c.begins.ensures ∙ c.if-begins.false)
    (c.other_of.ensures ∙ no_operation _ _ _ (sym c.operation_code-number.ensures ∙ c.if-number-eq0.true))

pub returns : goal.returns
unfolding newer_word
returns c =
    let number = c.operation_code-number in
    row_fails _ (sym c.begins.ensures ∙ c.if-begins.false)
    (c.operation_of.ensures ∙ ap (λ k. operation_of k c.args.format c.args.s.now) number.ensures ∙ is_operation _ _ _ (λ z. c.if-number-eq0.false (number.ensures ∙ z)))
