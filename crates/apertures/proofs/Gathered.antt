-- The parameters from a place on: one more is gathered, and those after it are left.
-- Assumes nothing.
use Prim.Native.Nat.{ℕ, ◌+◌, ◌<◌, ◌≤◌}
use Prim.Native.Char.{code}
use mathlib.Core.Path.{◌≡◌}
use mathlib.Core.List.{List}
use lib.ListN.{length, drop}
use lib.Seq.{slice}
use Rattle.text.specs.First.{place}
use Rattle.text.specs.Pieces.{pieces}
use Rattle.text.proofs.Pieces.{pieces_next, pieces_end}
use Rattle.command.specs.Numbers.{size_of}
use Rattle.apertures.specs.Parameters.{more, gathered}
use Rattle.apertures.specs.declared.Parameters.{Parameters}

module _ (s : List ℕ) (at : ℕ) where
  pub gather_next : at < length s → (p : Parameters) →
      gathered p (pieces (code "X") (drop at s))
      ≡ gathered (more p (size_of (slice (at + 1) (place (code "X") s (at + 1)) s))) (pieces (code "X") (drop (place (code "X") s (at + 1)) s))
  unfolding gathered
  gather_next h p = rw (pieces_next (code "X") s at h)

  pub gather_end : length s ≤ at → (p : Parameters) → gathered p (pieces (code "X") (drop at s)) ≡ p
  unfolding gathered
  gather_end h p = rw (pieces_end (code "X") s at h)
