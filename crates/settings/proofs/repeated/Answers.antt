-- `settings::repeated` meets its contract: it is judged as `repeats` says.
-- Assumes nothing.
use native.Mathlib.Omega.{arith}
use Rattle.settings.specs.Repeats.{repeats}
use Rattle.command.proofs.Rounded.{counted_within}
use Rattle.settings.proofs.repeated.Goals as goal

pub overflow_add-rounded : goal.overflow_add-rounded
overflow_add-rounded c =
    omega (arith, counted_within c.args.dx.rounded, counted_within c.args.dy.rounded)

pub returns : goal.returns
unfolding repeats
returns c =
    simp (
      c.judged.ensures,
      c.either-3.ensures,
      c.counted-2.ensures,
      c.counted.ensures,
      c.either-formless.ensures,
      c.either-2.ensures,
      c.either.ensures,
    )
