-- `index::search_name` meets its contract, as `search_number` does: at each turn the search comes from the record at hand to the one
-- that has the name, if one has, and ends where it would from the first.
use Prim.Native.Nat.{ℕ, ◌-◌, ◌/◌, ◌^◌, ◌≤◌}
use mathlib.Core.List.{List}
use lib.Seq.{slice}
use Rattle.base.specs.Bytes.{same_bytes}
use Rattle.index.specs.Names.{name_of, key_of}
use Rattle.index.proofs.Seek.{Standing}
use Rattle.index.proofs.search_name.Given as goal

-- the search stands at record `at`, d bits of the key after it
pub record Name (file s : List ℕ) (used from to d link at : ℕ) : Type 0 where
  pub stands : Standing s (λ i. same_bytes (name_of file s i) (slice from to file)) used (key_of (slice from to file)) (key_of (slice from to file) / 2 ^ d) at link
  pub few : d ≤ at

abbrev pub invariant-loop-next : goal.invariant-loop-next
invariant-loop-next l = Name l.file l.s l.used l.from l.to l.d l.link l.at

abbrev pub decreases-loop-next : goal.decreases-loop-next
decreases-loop-next l = l.used - l.at
