-- One step of the search for an address, and what it asks of the store.
use Rattle.std.specs.Prelude.{ℕ, suc, ◌+◌, ◌*◌, ◌≤◌, ◌<◌, ◌^◌, ◌≡◌, true, cond, List, length, None, Option, Some}
use Rattle.sheet.specs.Records.{entry_of, role_of, aperture_room}
use Rattle.sheet.specs.Containers.{block_of, body_of, top_of}
use Rattle.sheet.specs.Valid.{most, valid}
use Rattle.sheet.specs.declared.Entry.{Entry}
use Rattle.sheet.specs.declared.Container.{Container}
use Rattle.sheet.specs.declared.Role.{Role}
use Rattle.sheet.specs.declared.Role.TheVariants.{Draws, Uses, Repeats, Defines, Unknown}
use Rattle.sheet.specs.Sound.{Sound}
use Rattle.law_addresses.specs.Positions.{span_at, spot}
use Rattle.law_addresses.specs.Sought.{all_zero, misses, sought}
use Rattle.law_addresses.specs.declared.Spot.{Spot}
use Rattle.address.specs.declared.Look.{Look}
use Rattle.address.specs.declared.Look.TheVariants.{Is, Below}

-- what is named by the words after an entry's position, or where to look on
unfoldable pub look_as : Role → List ℕ → Entry → List ℕ → Look
look_as Draws a r rest = Is (cond (all_zero rest) (Some r.before) None)
look_as Uses a r rest = Below r.before (block_of a r.who)
look_as Repeats a r rest = Is None
look_as Defines a r rest = Is None
look_as Unknown a r rest = Is None

unfoldable pub look_at : List ℕ → List ℕ → Container → ℕ → Spot → List ℕ → Look
look_at e a k q s rest = cond (misses k q s) (Is None) (look_as (role_of (entry_of e s.entry).kind) a (entry_of e s.entry) rest)

unfoldable pub look_of : List ℕ → List ℕ → Container → ℕ → List ℕ → Look
look_of e a k q rest = look_at e a k q (spot (span_at e) k.first k.len q) rest

-- the block that an entry uses is there
abbrev pub UsesKnown : List ℕ → Entry → Type 0
UsesKnown a r = role_of r.kind ≡ Uses → r.who ≤ aperture_room a

-- a container of a sheet, below its top level
pub record Lower (e a : List ℕ) (k : Container) : Type 0 where
  pub head : List ℕ
  pub ok : valid head e a ≡ true
  pub sound : Sound head e a k
  pub low : k.height ≤ 9

-- one that is no higher than the words after its position allow
pub record Seeks (e a : List ℕ) (k : Container) (words : ℕ) : Type 0 where
  pub lower : Lower e a k
  pub high : k.height ≤ suc words

-- items that lie after b others are few enough to be counted
abbrev pub Fits : ℕ → Option ℕ → Type 0
Fits b t = (j : ℕ) → t ≡ Some j → b + j < 2 ^ 63

-- what lies below is asked for with a word less, and what it answers is few enough
pub record Down (e a : List ℕ) (b : ℕ) (u : Container) (words : ℕ) : Type 0 where
  pub some : 1 ≤ words
  pub asks : (less : ℕ) → suc less ≡ words → Seeks e a u less
  pub fits : (q : ℕ) (rest : List ℕ) → suc (length rest) ≡ words → Fits b (sought e a (suc (length rest)) u q rest)

-- a repeat, whose copies are few enough
pub record Copied (e a : List ℕ) (r : Entry) (words : ℕ) : Type 0 where
  pub asks : Seeks e a (body_of r) words
  pub eight : words ≡ 8
  pub counts : r.sx * r.sy ≤ most
  pub whole : r.sx * r.sy * r.count ≤ most
  pub starts : r.before ≤ most
  pub small : (body_of r).items ≤ r.count

-- an entry of the top level
pub record AtTop (e a : List ℕ) (r : Entry) : Type 0 where
  pub head : List ℕ
  pub ok : valid head e a ≡ true
  pub i : ℕ
  pub i_in : i < (top_of head).len
  pub here : entry_of e ((top_of head).first + i) ≡ r
