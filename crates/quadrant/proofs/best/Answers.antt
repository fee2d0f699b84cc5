-- `quadrant::best` meets its contract: what `all` says of each candidate, where this one is kept.
use mathlib.Core.Path.{◌∙◌}
use Rattle.std.proofs.Common.{rules}
use Rattle.std.proofs.lemmas.Iterator.{YieldsList-from_slice}
use Rattle.std.proofs.lemmas.Iterator.Search.{all_from_yields_List}
use Rattle.base.proofs.And.{ands}
use Rattle.quadrant.specs.Candidates.{beats, wins}
use Rattle.quadrant.proofs.Lists.{all_is}
use Rattle.quadrant.proofs.best.Goals as goal

pub returns-then-c : goal.returns-then-c
unfolding wins
returns-then-c c =
    let over = beats c.args.c in
    let all = all_from_yields_List over c.all.new.self _ _ c.all.ensures.ran (YieldsList-from_slice c.args.all.now cc) (λ x b q k. search rules) in
    all ∙ all_is over c.args.all.now ∙ simp (c.if-c.true, ands)

pub returns-else-c : goal.returns-else-c
unfolding wins
returns-else-c c = simp (c.if-c.false, ands)
