-- `noting::note_all` meets its contract. The loop's invariant is `Going`: the commands before are known, and those left are the others.
-- Assumes nothing.
use Rattle.noting.proofs.Going.{Going}
use lib.ListN.{length}
use Prim.Native.Nat.{◌-◌}
use mathlib.Core.Path.{◌≡◌}
use Rattle.noting.proofs.note_all.Given as goal

abbrev pub invariant-loop-known : goal.invariant-loop-known
invariant-loop-known l = Going l.book l.file l.notes l.names l.roles l.known l.format l.at × (length l.notes ≡ length l.initial.notes) × (length l.names ≡ length l.initial.names) × (length l.roles ≡ length l.initial.roles)

abbrev pub decreases-loop-known : goal.decreases-loop-known
decreases-loop-known l = length l.file - l.at
