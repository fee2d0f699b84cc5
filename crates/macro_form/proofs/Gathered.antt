-- Forms gathered piece by piece: the next piece's, and those of the pieces after it.
-- Assumes nothing.
use Prim.Native.Nat.{ℕ, ◌+◌, ◌<◌, ◌≤◌}
use mathlib.Core.Path.{◌≡◌}
use mathlib.Core.List.{List}
use lib.ListN.{length, drop}
use lib.Seq.{slice}
use Rattle.text.specs.First.{place}
use Rattle.text.specs.Pieces.{pieces}
use Rattle.text.proofs.Pieces.{pieces_next, pieces_end}
use Rattle.macro_form.specs.Blocks.{joined, gathered}
use Rattle.macro_form.specs.declared.Form.{Form}

module _ (form : List ℕ → Form) (m : ℕ) (s : List ℕ) (at : ℕ) (f : Form) where
  pub gather_next : at < length s →
      gathered form f (pieces m (drop at s))
      ≡ gathered form (joined f (form (slice (at + 1) (place m s (at + 1)) s))) (pieces m (drop (place m s (at + 1)) s))
  unfolding gathered
  gather_next h = rw (pieces_next m s at h)

  pub gather_end : length s ≤ at → gathered form f (pieces m (drop at s)) ≡ f
  unfolding gathered
  gather_end h = rw (pieces_end m s at h)
