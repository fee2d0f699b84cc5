-- The addresses of a sheet's items, in the order of the items: ten words each, the copy and nine positions (02, request [12]; decisions 331, 332).
use Rattle.std.specs.Prelude.{ℕ, suc, ◌+◌, ◌*◌, Bool, true, false, cond, List, [], ◌∷◌, map, eqb, get_or, drop, None, Option, Some}
use Rattle.base.specs.And.{◌and◌}
use Rattle.base.specs.Run.{run}
use Rattle.sheet.specs.Records.{entry_of, role_of}
use Rattle.sheet.specs.Containers.{body_of, top_of}
use Rattle.sheet.specs.declared.Entry.{Entry}
use Rattle.sheet.specs.declared.Role.{Role}
use Rattle.sheet.specs.declared.Role.TheVariants.{Draws, Uses, Repeats, Defines, Unknown}
use Rattle.law_addresses.specs.Chains.{entry_chains, before, chains}

-- at the top level the positions of a body go on from those before the repeat
unfoldable pub raised : ℕ → List ℕ → List ℕ
raised b w = (b + get_or w 0 0) ∷ drop 1 w

-- of a top level's entry after b positions: a repeat's copies are counted from 1 in the order in which they are put out; elsewhere the copy is 0
unfoldable pub addresses_as : Role → List ℕ → List ℕ → ℕ → Entry → List (List ℕ)
addresses_as Draws e a b r = map (λ c. 0 ∷ c) (entry_chains a 8 (chains e a 8) (suc b) r)
addresses_as Uses e a b r = map (λ c. 0 ∷ c) (entry_chains a 8 (chains e a 8) (suc b) r)
addresses_as Repeats e a b r = run (λ copy. map (λ c. copy ∷ raised b c) (chains e a 9 (body_of r))) 1 (r.sx * r.sy)
addresses_as Defines e a b r = []
addresses_as Unknown e a b r = []

unfoldable pub entry_addresses : List ℕ → List ℕ → ℕ → Entry → List (List ℕ)
entry_addresses e a b r = addresses_as (role_of r.kind) e a b r

unfoldable pub sheet_addresses : List ℕ → List ℕ → List ℕ → List (List ℕ)
sheet_addresses head e a = run (λ i. entry_addresses e a (before e (top_of head) i) (entry_of e i)) (top_of head).first (top_of head).len

-- the same words
unfoldable pub same_words : List ℕ → List ℕ → Bool
same_words [] [] = true
same_words [] (y ∷ ys) = false
same_words (x ∷ xs) [] = false
same_words (x ∷ xs) (y ∷ ys) = eqb x y and same_words xs ys

unfoldable pub later : Option ℕ → Option ℕ
later (Some n) = Some (suc n)
later None = None

-- where an address stands among addresses
unfoldable pub place_of : List ℕ → List (List ℕ) → Option ℕ
place_of w [] = None
place_of w (v ∷ vs) = cond (same_words w v) (Some 0) (later (place_of w vs))
