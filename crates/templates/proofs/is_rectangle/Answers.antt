-- `templates::is_rectangle` meets its contract: its tests are those of `rectangle`.
use Rattle.templates.specs.Templates.{rectangle}
use Rattle.templates.proofs.is_rectangle.Goals as goal

pub returns : goal.returns
unfolding rectangle
returns c = cc
