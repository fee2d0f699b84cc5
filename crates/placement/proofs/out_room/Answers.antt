-- The zeros are as many as the type says, by the law and not by counting them.
use Rattle.std.proofs.Common.{◌≡◌, ℕ, sym}
use lib.ListN.{length, replicate, length-replicate}
use Rattle.placement.proofs.out_room.Goals as goal

zeros_long : (n : ℕ) → n ≡ length {A = ℕ} (replicate n 0)
zeros_long n = sym (length-replicate n 0)

pub returns : goal.returns
returns c = zeros_long 524288
