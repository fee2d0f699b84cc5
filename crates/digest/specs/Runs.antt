-- A digest of bytes that come in runs: the state between two runs, and how it goes on.
use Rattle.std.specs.Prelude.{ℕ, ◌+◌, ◌%◌, ◌^◌, cond, List, [], ◌∷◌, replicate, nat_eq, slice_set}
use Rattle.digest.specs.declared.Words.{Words}
use Rattle.digest.specs.Rounds.{block}
use Rattle.digest.specs.declared.State.{State}
use Rattle.digest.specs.Md5.{initial, tail, output}

-- the words after the whole blocks; the bytes of the block that is not full yet, with zeros after them; the length, modulo 2 ^ 64
abbrev pub state : Words → List ℕ → ℕ → State
state w x n = record { words = w; rest = x; length = n }

unfoldable pub empty : List ℕ
empty = replicate 64 0

unfoldable pub started : State
started = state initial empty 0

-- one byte more, in its place in the block; with the 64th the block is full, and is worked into the words
unfoldable pub pushed : State → ℕ → State
pushed s b =
    let x = slice_set s.rest (s.length % 64) b in
    let full = nat_eq (s.length % 64) 63 in
    state (cond full (block x s.words) s.words) (cond full empty x) ((s.length + 1) % 2 ^ 64)

-- a run more
unfoldable pub fed : State → List ℕ → State
fed s [] = s
fed s (b ∷ t) = fed (pushed s b) t

-- the digest, once there are no more runs
unfoldable pub finished : State → List ℕ
finished s = output (fed s (tail s.length)).words

-- runs, one after the other
unfoldable pub in_runs : State → List (List ℕ) → State
in_runs s [] = s
in_runs s (t ∷ ts) = in_runs (fed s t) ts
