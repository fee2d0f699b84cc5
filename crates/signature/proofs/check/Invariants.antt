-- `signature::check` meets its contract: before each turn, what is found from here on is what the file is judged by (`Walking`).
use Prim.Native.Nat.{◌-◌}
use lib.ListN.{length}
use Rattle.signature.proofs.Walking.{Walking}
use Rattle.signature.proofs.check.Given as goal

abbrev pub invariant-loop-place : goal.invariant-loop-place
invariant-loop-place l = Walking l.book l.file l.from l.at

abbrev pub decreases-loop-place : goal.decreases-loop-place
decreases-loop-place l = length l.file - l.at
