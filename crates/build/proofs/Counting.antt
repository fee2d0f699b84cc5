-- Counting an edge leaves the room as it is.
-- Assumes nothing.
use Prim.Native.Nat.{ℕ, suc, ◌-◌, ◌*◌, ◌<◌}
use mathlib.Core.Path.{◌≡◌}
use mathlib.Core.List.{List}
use native.Mathlib.Omega.{arith}
use lib.ListN.{length}
use Rattle.sheet.specs.Records.{entry_width, entry_of, entry_room, entry_words}
use Rattle.sheet.proofs.Stored.{stored_long}
use Rattle.build.specs.Counted.{counted, counted_at}

pub counted_long : (e : List ℕ) (at : ℕ) → at < entry_room e → length (counted_at e at) ≡ length e
unfolding counted_at entry_words
counted_long e at inside = stored_long e ((entry_room e - suc at) * entry_width) (entry_words (counted (entry_of e (entry_room e - suc at)))) (omega arith)
