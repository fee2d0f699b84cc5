-- The chain of positions of each item of a block or of a repeat's body, in the order of the items (02, request [12]; decision 331).
use Rattle.std.specs.Prelude.{ℕ, zero, suc, ◌-◌, List, [], ◌∷◌, map, replicate}
use Rattle.base.specs.Run.{run, sums}
use Rattle.sheet.specs.Records.{entry_of, role_of}
use Rattle.sheet.specs.Containers.{block_of}
use Rattle.sheet.specs.declared.Entry.{Entry}
use Rattle.sheet.specs.declared.Container.{Container}
use Rattle.sheet.specs.declared.Role.{Role}
use Rattle.sheet.specs.declared.Role.TheVariants.{Draws, Uses, Repeats, Defines, Unknown}
use Rattle.law_addresses.specs.Positions.{span_at}

-- of the entry at position p, in suc h words, "what goes unused is 0"; `below k` are those of the container k, in h words
unfoldable pub chains_as : Role → List ℕ → ℕ → (Container → List (List ℕ)) → ℕ → Entry → List (List ℕ)
chains_as Draws a h below p r = (p ∷ replicate h 0) ∷ []
chains_as Uses a h below p r = map (λ c. p ∷ c) (below (block_of a r.who))
chains_as Repeats a h below p r = []
chains_as Defines a h below p r = []
chains_as Unknown a h below p r = []

unfoldable pub entry_chains : List ℕ → ℕ → (Container → List (List ℕ)) → ℕ → Entry → List (List ℕ)
entry_chains a h below p r = chains_as (role_of r.kind) a h below p r

-- how many positions of a container stand before its entry i
abbrev pub before : List ℕ → Container → ℕ → ℕ
before e k i = sums (span_at e) k.first (i - k.first)

-- of a container without repeats, in h words
unfoldable pub chains : List ℕ → List ℕ → ℕ → Container → List (List ℕ)
chains e a zero k = []
chains e a (suc h) k = run (λ i. entry_chains a h (chains e a h) (suc (before e k i)) (entry_of e i)) k.first k.len
