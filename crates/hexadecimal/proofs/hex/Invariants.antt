-- `hexadecimal::hex` meets its contract: before each turn the first 2 * i digits are those of the first i bytes.
use mathlib.Core.Path.{◌≡◌}
use Prim.Native.Nat.{◌*◌}
use lib.ListN.{length, take}
use Rattle.hexadecimal.specs.Hex.{hex_of}
use Rattle.hexadecimal.proofs.hex.Given as goal

abbrev pub invariant-loop-i : goal.invariant-loop-i
invariant-loop-i l = record { long : length l.h ≡ 32; so_far : take (2 * l.i) l.h ≡ hex_of (take l.i l.b-items) }
