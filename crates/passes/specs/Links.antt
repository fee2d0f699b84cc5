-- The pass that links the pins of each main, from the last item to the first.
use Rattle.std.specs.Prelude.{ℕ, ◌+◌, ◌*◌, ◌/◌, ◌≤◌, ◌<◌, ◌≡◌, Bool, true, false, List, leb, length, get_or}
use Rattle.index.specs.Tree.{record_width}
use Rattle.index.specs.Names.{name_of}
use Rattle.sheet.specs.declared.Container.{Container}
use Rattle.law_components.specs.Faults.{has_main, lacks}
use Rattle.law_components.specs.Outlines.{at}
use Rattle.law_components.specs.Numbers.{numbers_from, a_pin_of}
use Rattle.law_components.specs.Answer.{listed_pins}
use Rattle.law_components.specs.Chain.{link_width, Chain}
use Rattle.seeing.specs.Layer.{Layer, parts}
use Rattle.passes.specs.Words.{pin_word}

module _ {e a : List ℕ} {top : Container} {notes : List ℕ} {operations : ℕ} {roles : List ℕ} {roled : ℕ} (l : Layer e a top notes operations roles roled) where
  -- no item lacks the attribute that it must have
  pub record Sound : Type 0 where
    pub held : (k : ℕ) → k < length (parts l) → lacks (at (parts l) k) ≡ false

  -- each designator that has a main leads to its pins, by their numbers
  pub record Linked (names pins : List ℕ) : Type 0 where
    pub inside : l.used * record_width ≤ length names
    pub named : (d : ℕ) → d < l.used → name_of l.file names d ≡ l.name d
    pub links : ℕ
    pub room : links ≤ length pins / link_width
    pub chains : (d : ℕ) → d < l.used → has_main (l.name d) (parts l) ≡ true →
        Chain pins links (get_or names (d * record_width + pin_word) 0) (numbers_from (a_pin_of (l.name d)) 0 (parts l))

  -- true just where there is room for all
  pub record Links (names pins : List ℕ) (r : Bool) : Type 0 where
    pub is : r ≡ leb (listed_pins (parts l)) (length pins / link_width)
    pub linked : r ≡ true → Linked names pins
