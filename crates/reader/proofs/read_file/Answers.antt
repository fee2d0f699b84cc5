-- `reader::read_file` meets its contract: the commands, then a finished sheet or rooms of zeros.
-- Assumes nothing.
use mathlib.Core.Path.{refl}
use Rattle.progress.specs.Lent.{lent_of, with_entries}
use Rattle.reader.proofs.Outcome.{reads_refused, sheet_fits, reads_accepted}
use Rattle.reader.proofs.read_file.Goals as goal

pub finish-requires : goal.finish-requires
unfolding lent_of
finish-requires c =
    sheet_fits _ (lent_of c.args.file.now c.args.e.now c.args.a.now c.args.m.now c.args.numbers.now) (lent_of c.args.file.now c.run_over-r.new.e c.run_over-r.new.a c.run_over-r.new.m c.run_over-r.new.numbers) c.args.head.now _ c.requires.file_value c.run_over-r.ensures.0 c.run_over-r.ensures.1 c.in-Ok.is

pub returns-in-Err : goal.returns-in-Err
unfolding lent_of
returns-in-Err c =
    let z = c.clear.ensures in
    reads_refused _ (lent_of c.args.file.now c.args.e.now c.args.a.now c.args.m.now c.args.numbers.now) (lent_of c.args.file.now c.run_over-r.new.e c.run_over-r.new.a c.run_over-r.new.m c.run_over-r.new.numbers) _ _ c.requires.file_value c.run_over-r.ensures.0 c.run_over-r.ensures.1 (lent_of _ _ _ _ _) c.in-Err.is
    (record { head_is = c.requires.head_value; entries_are = z.0; apertures_are = z.1; macros_are = z.2; numbers_are = z.3 })

pub returns-in-Ok : goal.returns-in-Ok
unfolding lent_of with_entries
returns-in-Ok c =
    rw c.unit_in.ensures
    (reads_accepted _ (lent_of c.args.file.now c.args.e.now c.args.a.now c.args.m.now c.args.numbers.now) (lent_of c.args.file.now c.run_over-r.new.e c.run_over-r.new.a c.run_over-r.new.m c.run_over-r.new.numbers) _ _ c.requires.file_value c.run_over-r.ensures.0 c.run_over-r.ensures.1 c.in-Ok.is _ refl c.finish.ensures.0 c.finish.ensures.1)
