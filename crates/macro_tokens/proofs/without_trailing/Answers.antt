use mathlib.Core.Path.{sym, ◌∙◌}
use Rattle.base.specs.Breaks.{is_break}
use Rattle.base.proofs.Trimmed.{last_goes, last_stays, last_none}
use Rattle.macro_tokens.proofs.without_trailing.Goals as goal

pub returns-then-not-is_break : goal.returns-then-not-is_break
returns-then-not-is_break c =
    sym (last_stays is_break _ c.in-len1-up.len_at_least (sym c.is_break.ensures ∙ c.if-not-is_break.true)) ∙ c.loop-rest.invariant

pub loop-rest-preserved : goal.loop-rest-preserved
loop-rest-preserved c =
    last_goes is_break _ c.in-len1-up.len_at_least (sym c.is_break.ensures ∙ c.if-not-is_break.false) ∙ c.loop-rest.invariant

pub returns : goal.returns
returns c = sym (last_none is_break _ c.in_default.len_below) ∙ c.loop-rest.invariant
