-- `templates::with_hole` meets its contract: its tests are those of `with_hole`.
use Rattle.templates.specs.Templates.{with_hole}
use Rattle.templates.proofs.with_hole.Goals as goal

pub returns : goal.returns
unfolding with_hole
returns c = cc
