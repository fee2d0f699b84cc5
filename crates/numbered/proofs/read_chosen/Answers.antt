-- `numbered::read_chosen` meets its contract: the book that is named reads, or none does and every word is cleared.
-- Assumes nothing.
use mathlib.Core.Path.{refl}
use Rattle.progress.specs.Lent.{lent_of}
use Rattle.numbered.proofs.Choices.{reads_by, reads_none}
use Rattle.numbered.proofs.read_chosen.Goals as goal

pub returns-in-Some : goal.returns-in-Some
returns-in-Some c =
    reads_by c.in-Some.is _ _ _ _ _ _ c.read_as.ensures

pub returns-in-None : goal.returns-in-None
unfolding lent_of
returns-in-None c =
    let z = c.clear.ensures in
    reads_none c.in-None.is _ _ (lent_of _ _ _ _ _) (lent_of _ _ _ _ _) _
    (record { head_is = refl; entries_are = z.0; apertures_are = z.1; macros_are = z.2; numbers_are = z.3 })
