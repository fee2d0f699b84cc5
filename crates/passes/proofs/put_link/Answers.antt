-- `passes::put_link` meets its contract: the two words of a link are stored one after the other, and the designator leads to it.
-- Assumes nothing.
use lib.ListN.{set}
use Prim.Native.Nat.{◌+◌, ◌*◌}
use mathlib.Core.Path.{◌∙◌}
use Rattle.passes.specs.Words.{with_link}
use Rattle.passes.proofs.put_link.Goals as goal

pub returns : goal.returns
unfolding with_link
returns c =
    (c.put-2.ensures ∙ (λ i. set (c.put.ensures i) (c.args.links * 2 + 1) (c.word_of.ensures i)), c.set_word.ensures)
