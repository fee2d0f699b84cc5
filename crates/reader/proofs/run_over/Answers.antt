-- `reader::run_over` meets its contract: each run over cleared rooms ends as the commands do, or asks once where a name is set twice.
-- Assumes nothing.
use mathlib.Core.Path.{refl, ◌∙◌}
use native.Mathlib.Omega.{arith}
use borrow.Author.Tests.{leb-true}
use lib.ListN.{length}
use Rattle.scan.specs.Permitted.{fits}
use Rattle.progress.specs.Lent.{lent_of}
use Rattle.running.specs.Ends.{AsLong, Looked}
use Rattle.running.proofs.Runs.{same_long, longs}
use Rattle.reader.proofs.Outcome.{zeros_long, empty, zeros_as_long, came, asks_first}
use Rattle.reader.proofs.run_over.Goals as goal

pub loop-x-init : goal.loop-x-init
unfolding Looked
loop-x-init c = (same_long _, tt)

pub run-r-requires : goal.run-r-requires
unfolding lent_of
run-r-requires c =
    let z = c.clear.ensures in
    record {
      empty = empty (lent_of c.args.file.now c.loop-x.e c.loop-x.a c.loop-x.m c.loop-x.numbers) (lent_of c.args.file.now c.clear.new.e c.clear.new.a c.clear.new.m c.clear.new.numbers) refl z.0 z.1 z.2 z.3;
      looked = c.loop-x.invariant.1;
    }

pub returns-in-Some : goal.returns-in-Some
unfolding lent_of
returns-in-Some c =
    let z = c.clear.ensures in
    let cleared : AsLong (lent_of c.args.file.now c.args.e.now c.args.a.now c.args.m.now c.args.numbers.now) (lent_of c.args.file.now c.clear.new.e c.clear.new.a c.clear.new.m c.clear.new.numbers) =
    longs _ _ _ c.loop-x.invariant.0 (zeros_as_long (lent_of _ _ _ _ _) (lent_of _ _ _ _ _) refl z.0 z.1 z.2 z.3) in
    (longs _ _ _ cleared c.run-r.ensures.0, came _ _ _ _ _ _ refl cleared c.run-r.ensures.1 c.in-Some.is)

pub first_repeat-requires : goal.first_repeat-requires
unfolding fits
first_repeat-requires c =
    omega (arith, leb-true (length c.args.file.now) 16777216 c.requires)

pub loop-x-smaller : goal.loop-x-smaller
loop-x-smaller c =
    let q = asks_first _ _ _ c.loop-x.repeat _ c.run-r.ensures.1 c.in-None.is in
    rw q (omega arith)

pub loop-x-preserved : goal.loop-x-preserved
unfolding lent_of Looked
loop-x-preserved c =
    let z = c.clear.ensures in
    let cleared : AsLong (lent_of c.args.file.now c.args.e.now c.args.a.now c.args.m.now c.args.numbers.now) (lent_of c.args.file.now c.clear.new.e c.clear.new.a c.clear.new.m c.clear.new.numbers) =
    longs _ _ _ c.loop-x.invariant.0 (zeros_as_long (lent_of _ _ _ _ _) (lent_of _ _ _ _ _) refl z.0 z.1 z.2 z.3) in
    let k : AsLong (lent_of c.args.file.now c.args.e.now c.args.a.now c.args.m.now c.args.numbers.now) (lent_of c.args.file.now c.run-r.new.e c.run-r.new.a c.run-r.new.m c.run-r.new.numbers) =
    longs _ _ _ cleared c.run-r.ensures.0 in
    let f = c.first_repeat.ensures in (
      record {
        entries_long = zeros_long 0 _ c.run-r.new.e f.1 ∙ k.entries_long;
        apertures_long = k.apertures_long;
        macros_long = k.macros_long;
        numbers_long = k.numbers_long;
      },
      f.0,
    )
