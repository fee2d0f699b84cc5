-- `templates::is_plain_circle` meets its contract: its tests are those of `plain_circle`.
use Rattle.templates.specs.Templates.{plain_circle}
use Rattle.templates.proofs.is_plain_circle.Goals as goal

pub returns : goal.returns
unfolding plain_circle
returns c = cc
