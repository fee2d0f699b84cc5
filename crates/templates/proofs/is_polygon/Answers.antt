-- `templates::is_polygon` meets its contract: its tests are those of `polygon`.
use Rattle.templates.specs.Templates.{polygon}
use Rattle.templates.proofs.is_polygon.Goals as goal

pub returns : goal.returns
unfolding polygon
returns c = cc
