-- `digest::words_of` meets its contract: before each turn the first k elements are the first k words.
use Rattle.std.proofs.Common.{◌≡◌, length, take}
use Rattle.digest.specs.Word.{words_of}
use Rattle.digest.proofs.words_of.Given as goal

abbrev pub invariant-loop-k : goal.invariant-loop-k
invariant-loop-k l = record { long : length l.y ≡ 16; so_far : take l.k l.y ≡ words_of l.x l.k }
