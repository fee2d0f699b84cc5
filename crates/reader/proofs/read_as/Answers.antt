-- `reader::read_as` meets its contract: a file that is not too long is read, one that is is refused with 1.
-- Assumes nothing.
use mathlib.Core.Path.{refl, sym, ◌∙◌}
use Rattle.progress.specs.Lent.{lent_of}
use Rattle.reader.proofs.Outcome.{reads_long}
use Rattle.reader.proofs.read_as.Goals as goal

pub read_file-requires : goal.read_file-requires
read_file-requires c = record {
  head_value = refl;
  file_value = sym c.file_fits.ensures ∙ c.if-file_fits.true;
}

pub returns-then-file_fits : goal.returns-then-file_fits
returns-then-file_fits c = c.read_file.ensures

pub returns : goal.returns
unfolding lent_of
returns c =
    let z = c.clear.ensures in
    reads_long _ (lent_of _ _ _ _ _) (lent_of _ _ _ _ _) _ (sym c.file_fits.ensures ∙ c.if-file_fits.false)
    (record { head_is = refl; entries_are = z.0; apertures_are = z.1; macros_are = z.2; numbers_are = z.3 })
