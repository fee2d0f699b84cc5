-- What Dn selects, by what the search for its number found.
use Rattle.std.specs.Prelude.{ℕ, List, Err, Ok, Result}
use Rattle.sheet.specs.Records.{aperture_of}
use Rattle.graphics.specs.Graphics.{no_aperture}
use Rattle.graphics.specs.declared.Selected.{Selected}
use Rattle.law_reading.specs.Apertures.{selected}
use Rattle.progress.specs.Tables.{as_stored}

unfoldable pub chosen_by : List ℕ → Result ℕ ℕ → Selected
chosen_by a (Ok i) = selected i (as_stored (aperture_of a i))
chosen_by a (Err link) = no_aperture
