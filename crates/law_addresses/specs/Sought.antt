-- The item that an address names, by descent: no list is made.
use Rattle.std.specs.Prelude.{ℕ, zero, suc, ◌+◌, ◌-◌, ◌*◌, Bool, true, cond, List, [], ◌∷◌, eqb, leb, get_or, drop, None, Option, Some}
use Rattle.base.specs.And.{◌and◌}
use Rattle.base.specs.Or.{◌or◌}
use Rattle.sheet.specs.Records.{entry_of, role_of}
use Rattle.sheet.specs.Containers.{block_of, body_of}
use Rattle.sheet.specs.declared.Entry.{Entry}
use Rattle.sheet.specs.declared.Container.{Container}
use Rattle.sheet.specs.declared.Role.{Role}
use Rattle.sheet.specs.declared.Role.TheVariants.{Draws, Uses, Repeats, Defines, Unknown}
use Rattle.law_addresses.specs.Positions.{span_at, spot}
use Rattle.law_addresses.specs.declared.Spot.{Spot}

unfoldable pub further : ℕ → Option ℕ → Option ℕ
further n (Some j) = Some (n + j)
further n None = None

unfoldable pub all_zero : List ℕ → Bool
all_zero [] = true
all_zero (x ∷ xs) = eqb x 0 and all_zero xs

-- in the entry that holds the position, by the words after it
unfoldable pub sought_as : Role → List ℕ → (Container → ℕ → List ℕ → Option ℕ) → Entry → List ℕ → Option ℕ
sought_as Draws a below r rest = cond (all_zero rest) (Some r.before) None
sought_as Uses a below r rest = further r.before (below (block_of a r.who) (get_or rest 0 0) (drop 1 rest))
sought_as Repeats a below r rest = None
sought_as Defines a below r rest = None
sought_as Unknown a below r rest = None

-- positions count from 1, and the search ends after the container where there is none
unfoldable pub misses : Container → ℕ → Spot → Bool
misses k q s = eqb q 0 or eqb s.entry (k.first + k.len)

-- item of the container k with the position q and the words after it
unfoldable pub sought_at : List ℕ → List ℕ → (Container → ℕ → List ℕ → Option ℕ) → Container → ℕ → Spot → List ℕ → Option ℕ
sought_at e a below k q s rest = cond (misses k q s) None (sought_as (role_of (entry_of e s.entry).kind) a below (entry_of e s.entry) rest)

unfoldable pub sought : List ℕ → List ℕ → ℕ → Container → ℕ → List ℕ → Option ℕ
sought e a zero k q rest = None
sought e a (suc h) k q rest = sought_at e a (sought e a h) k q (spot (span_at e) k.first k.len q) rest

-- at the top level, with a copy
unfoldable pub sought_top_as : Role → List ℕ → List ℕ → ℕ → ℕ → Entry → List ℕ → Option ℕ
sought_top_as Draws e a copy left r rest = cond (eqb copy 0) (sought_as Draws a (sought e a 8) r rest) None
sought_top_as Uses e a copy left r rest = cond (eqb copy 0) (sought_as Uses a (sought e a 8) r rest) None
sought_top_as Repeats e a copy left r rest =
    cond (leb 1 copy and leb copy (r.sx * r.sy))
    (further (r.before + (copy - 1) * r.count) (sought e a 9 (body_of r) left rest))
    None
sought_top_as Defines e a copy left r rest = None
sought_top_as Unknown e a copy left r rest = None

unfoldable pub sought_top_at : List ℕ → List ℕ → Container → ℕ → ℕ → Spot → List ℕ → Option ℕ
sought_top_at e a k copy q s rest =
    cond (misses k q s) None (sought_top_as (role_of (entry_of e s.entry).kind) e a copy s.left (entry_of e s.entry) rest)

unfoldable pub sought_top : List ℕ → List ℕ → Container → List ℕ → Option ℕ
sought_top e a k w = sought_top_at e a k (get_or w 0 0) (get_or w 1 0) (spot (span_at e) k.first k.len (get_or w 1 0)) (drop 2 w)
