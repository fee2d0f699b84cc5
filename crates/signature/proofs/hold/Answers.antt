use mathlib.Core.Path.{sym, ◌∙◌}
use lib.ListN.{drop_of_length-le}
use Rattle.digest.specs.Text.{unbroken}
use Rattle.signature.specs.Held.{noted_all}
use Rattle.signature.proofs.Notes.{left_out, goes_in}
use Rattle.signature.proofs.hold.Goals as goal

pub loop-b-preserved-then-is_break : goal.loop-b-preserved-then-is_break
loop-b-preserved-then-is_break c =
    left_out c.loop-b.g _ c.loop-b.b-index c.loop-b-test.true (sym c.is_break.ensures ∙ c.if-is_break.true) ∙ c.loop-b.invariant

pub loop-b-preserved : goal.loop-b-preserved
loop-b-preserved c =
    rw c.note-g.ensures (goes_in c.loop-b.g _ c.loop-b.b-index c.loop-b-test.true (sym c.is_break.ensures ∙ c.if-is_break.false) ∙ c.loop-b.invariant)

pub returns : goal.returns
unfolding unbroken noted_all
returns c = rw (drop_of_length-le _ c.loop-b-test.false) at c.loop-b.invariant
