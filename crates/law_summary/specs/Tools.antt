-- How many apertures have a number, and how many of these are blocks, and are none.
use Rattle.std.specs.Prelude.{ℕ, ◌+◌, ◌≡◌, Bool, true, false, cond, not, List, [], ◌∷◌, eqb}
use Rattle.base.specs.And.{◌and◌}
use Rattle.base.specs.Or.{◌or◌}
use Rattle.place.specs.Item.{is_oriented}
use Rattle.place.specs.Mark as mark
use Rattle.place.specs.Mark.{Mark}
use Rattle.place.specs.declared.Item.{Item}
use Rattle.law_reading.specs.State.{Aperture}
use Rattle.law_reading.specs.Apertures.{open_block, block}

-- how many of them a test picks
unfoldable pub how_many : (Aperture → Bool) → List Aperture → ℕ
how_many is [] = 0
how_many is (a ∷ rest) = cond (is a) 1 0 + how_many is rest

-- a block's, closed or open
unfoldable pub of_block : Aperture → Bool
of_block a = eqb a.kind open_block or eqb a.kind block

abbrev pub numbered : ℕ → List Aperture → ℕ
numbered n known = how_many (λ a. eqb n a.number) known

-- with the number, and no block
abbrev pub tools : ℕ → List Aperture → ℕ
tools n known = how_many (λ a. eqb n a.number and not (of_block a)) known

-- with the number, and a block
abbrev pub blocks : ℕ → List Aperture → ℕ
blocks n known = how_many (λ a. eqb n a.number and of_block a) known

-- an item outside regions has the number of one aperture that is no block; a contour and an edge have none (01, Items)
pub record Tooled (known : List Aperture) (t : Item) : Type 0 where
  pub drawn : is_oriented t.kind ≡ true → tools t.aperture known ≡ 1
  pub region : is_oriented t.kind ≡ false → t.aperture ≡ 0

-- so have all
pub data AllTooled (known : List Aperture) : List Item → Type 0 where
  none : AllTooled known []
  more : {t : Item} {ts : List Item} → Tooled known t → AllTooled known ts → AllTooled known (t ∷ ts)
