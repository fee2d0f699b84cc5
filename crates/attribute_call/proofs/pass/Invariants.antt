-- `attribute_call::pass` meets its contract. The loop's invariant: what is found and heard so far, with the commands from here on, gives the answer.
-- Assumes nothing.
use Prim.Native.Nat.{◌-◌, ◌≤◌}
use mathlib.Core.Path.{◌≡◌}
use lib.ListN.{length}
use Rattle.attribute_call.proofs.Left.{outcome}
use Rattle.formats.specs.Format.{no_format}
use Rattle.attribute_call.specs.Attribute.{answer_in}
use Rattle.sequence.proofs.Walk.{walk}
use Rattle.attribute_call.proofs.pass.Given as goal

abbrev pub invariant-loop-f : goal.invariant-loop-f
invariant-loop-f l = (l.at ≤ length l.file) × (outcome l.book l.file l.kind l.place l.name l.found l.heard (walk l.book l.format l.file l.at) ≡ answer_in l.book l.file l.kind l.place l.name (walk l.book no_format l.file 0))

abbrev pub decreases-loop-f : goal.decreases-loop-f
decreases-loop-f l = length l.file - l.at
