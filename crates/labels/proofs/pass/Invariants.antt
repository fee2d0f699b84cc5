-- `labels::pass` meets its contract: the loop keeps that what is found so far, with the commands from here on, gives the answer.
-- Assumes nothing.
use Rattle.labels.proofs.Left.{outcome}
use Rattle.labels.specs.Pass.{first_wanted}
use Rattle.labels.specs.Labels.{answer_in}
use Rattle.formats.specs.Format.{no_format}
use Rattle.sequence.proofs.Walk.{walk}
use lib.ListN.{length}
use mathlib.Core.Path.{◌≡◌}
use Prim.Native.Nat.{◌-◌, ◌≤◌}
use Rattle.labels.proofs.pass.Given as goal

abbrev pub invariant-loop-f : goal.invariant-loop-f
invariant-loop-f l = (l.at ≤ length l.file) × (outcome l.file l.named l.name l.left l.found (walk l.book l.format l.file l.at) ≡ answer_in l.file (first_wanted l.file l.named l.name l.i) (walk l.book no_format l.file 0))

abbrev pub decreases-loop-f : goal.decreases-loop-f
decreases-loop-f l = length l.file - l.at
