-- What is kept of a command: its first 43 bytes, one more than a signature has.
use Rattle.std.specs.Prelude.{ℕ, ◌+◌, cond, List, [], ◌∷◌, ltb, set, replicate, take}
use Rattle.signature.specs.declared.Held.{Held}

abbrev pub held : List ℕ → ℕ → Held
held s n = record { bytes = s; count = n }

unfoldable pub nothing : Held
nothing = held (replicate 43 0) 0

-- one byte more, where there is room
unfoldable pub noted : Held → ℕ → Held
noted h b = cond (ltb h.count 43) (held (set h.bytes h.count b) (h.count + 1)) h

-- a run more
unfoldable pub noted_all : Held → List ℕ → Held
noted_all h [] = h
noted_all h (b ∷ s) = noted_all (noted h b) s

unfoldable pub text_of : Held → List ℕ
text_of h = take h.count h.bytes
