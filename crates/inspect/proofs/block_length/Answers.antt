-- `inspect::block_length` meets its contract: the first test picks the case of `block_length`.
use Rattle.sheet.specs.Valid.{block_length}
use Rattle.std.proofs.Common.{sym, ◌∙◌}
use Rattle.inspect.proofs.block_length.Goals as goal

pub returns-then-is_block : goal.returns-then-is_block
unfolding block_length
returns-then-is_block c = let k = sym c.is_block.ensures ∙ c.if-is_block.true in simp k cc

pub returns : goal.returns
unfolding block_length
returns c = let k = sym c.is_block.ensures ∙ c.if-is_block.false in simp k
