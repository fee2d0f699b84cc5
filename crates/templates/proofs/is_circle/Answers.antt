-- `templates::is_circle` meets its contract: its tests are those of `circle`.
use Rattle.templates.specs.Templates.{circle}
use Rattle.templates.proofs.is_circle.Goals as goal

pub returns : goal.returns
unfolding circle
returns c = cc
