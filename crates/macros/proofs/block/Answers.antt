-- `macros::block` meets its contract: its first byte picks the case of `block_done`.
-- Assumes nothing.
use Rattle.faults.specs.Rule.{number_told}
use Rattle.macros.proofs.Working.{comment_does, block_comment, block_assigns, block_draws}
use Rattle.macros.proofs.Laid.{length_laid}
use lib.ListN.{length}
use mathlib.Core.Path.{refl, sym, ap, ◌∙◌}
use Rattle.macros.proofs.block.Goals as goal

pub returns-then-b-eq48 : goal.returns-then-b-eq48
unfolding number_told
returns-then-b-eq48 c =
    let a = c.args in
    rw (sym (block_comment a.v.values a.s.now _ _ c.without_leading-t.ensures c.byte_at-b.ensures c.if-b-eq48.true))
    (comment_does a.v.values a.numbers.now a.p _ refl refl refl c.requires)

pub assignment-requires : goal.assignment-requires
assignment-requires c = c.requires

pub shape_of-numbers-then-b-eq36 : goal.shape_of-numbers-then-b-eq36
shape_of-numbers-then-b-eq36 c = ap length c.assignment.ensures.stores ∙ length_laid _ _ _

pub returns-then-b-eq36 : goal.returns-then-b-eq36
returns-then-b-eq36 c =
    let a = c.args in
    rw (sym (block_assigns a.v.values a.s.now _ _ c.without_leading-t.ensures c.byte_at-b.ensures c.if-b-eq48.false c.if-b-eq36.true)) c.assignment.ensures

pub primitive-requires : goal.primitive-requires
primitive-requires c = c.requires

pub shape_of-numbers : goal.shape_of-numbers
shape_of-numbers c = ap length c.primitive.ensures.stores ∙ length_laid _ _ _

pub returns : goal.returns
returns c =
    let a = c.args in
    rw (sym (block_draws a.v.values a.s.now _ _ c.without_leading-t.ensures c.byte_at-b.ensures c.if-b-eq48.false c.if-b-eq36.false)) c.primitive.ensures
