-- What an operation changes of how far reading has come.
use Rattle.std.specs.Prelude.{true}
use Rattle.graphics.specs.Graphics.{with_point, with_region}
use Rattle.progress.specs.Parts.{with_graphics, with_builder, with_contour}
use Rattle.progress.specs.declared.Progress.{Progress}
use Rattle.progress.specs.declared.Stroke.{Stroke}

abbrev pub with_stroke : Stroke → Progress → Progress
with_stroke s p =
    with_contour s.contour (with_builder s.builder (with_graphics (with_point (record { set = true; at = s.at }) (with_region s.region p.graphics)) p))
