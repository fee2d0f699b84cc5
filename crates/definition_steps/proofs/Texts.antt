-- A part of a command's text is a part of the file.
-- Assumes nothing.
use Prim.Native.Nat.{ℕ, ◌+◌, ◌≤◌}
use mathlib.Core.Path.{◌≡◌}
use mathlib.Core.List.{List}
use native.Mathlib.Omega.{arith}
use lib.ListN.{length}
use lib.Seq.{slice, length-slice}
use Rattle.base.proofs.Lists.{part_of_part}

module _ (file : List ℕ) (from end : ℕ) (ordered : from ≤ end) (inside : end ≤ length file) where
  pub text_end : (j : ℕ) → j ≤ length (slice from end file) → from + j ≤ end
  text_end j h = omega (arith, length-slice from end file inside)

  pub part_of_file : (i j : ℕ) → j ≤ length (slice from end file) → slice i j (slice from end file) ≡ slice (from + i) (from + j) file
  part_of_file i j h = part_of_part i j from end file (text_end j h)
