-- `register::find` meets its contract, as `index::search_name` does: at each turn the search comes from the record at hand to the one
-- that has the name, if one has, and ends where it would from the first.
use Prim.Native.Nat.{ℕ, ◌-◌, ◌/◌, ◌^◌, ◌≤◌}
use mathlib.Core.Path.{◌≡◌}
use mathlib.Core.Bool.{Bool}
use mathlib.Core.List.{List}
use lib.Seq.{slice}
use Rattle.base.specs.Bytes.{same_bytes}
use Rattle.index.specs.Tree.{is_high}
use Rattle.index.specs.Names.{name_of, key_of}
use Rattle.index.proofs.Seek.{Seeking}
use Rattle.register.specs.Wide.{wide}
use Rattle.register.proofs.find.Given as goal

-- the search stands at record `at`, d bits of the key after it
pub record Standing (file s : List ℕ) (used from to d at : ℕ) (high : Bool) : Type 0 where
  pub seeking : Seeking s (λ i. same_bytes (name_of file s i) (slice from to file)) used (key_of (slice from to file)) (key_of (slice from to file) / 2 ^ d) at
  pub leading : high ≡ is_high (key_of (slice from to file) / 2 ^ d)
  pub few : d ≤ at

abbrev pub invariant-loop-next : goal.invariant-loop-next
invariant-loop-next l = Standing l.file (wide l.s) l.used l.from l.to l.d l.at l.high

abbrev pub decreases-loop-next : goal.decreases-loop-next
decreases-loop-next l = l.used - l.at
