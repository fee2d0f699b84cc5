-- The pass that finds the first item at fault: after it each designator says whether it has a main.
use Rattle.std.specs.Prelude.{ℕ, ◌+◌, ◌*◌, ◌≤◌, ◌<◌, ◌≡◌, List, length, take, get_or}
use Rattle.index.specs.Tree.{record_width}
use Rattle.index.specs.Names.{name_of}
use Rattle.sheet.specs.Meaning.{flag_word}
use Rattle.sheet.specs.declared.Container.{Container}
use Rattle.law_components.specs.Faults.{has_main, fault_of}
use Rattle.law_components.specs.declared.Fault.{Fault}
use Rattle.seeing.specs.Layer.{Layer, parts}
use Rattle.passes.specs.Words.{main_word, pin_word}

module _ {e a : List ℕ} {top : Container} {notes : List ℕ} {operations : ℕ} {roles : List ℕ} {roled : ℕ} (l : Layer e a top notes operations roles roled) where
  -- the records of the layer's designators; whether each has a main among the first k items; and no pin is linked yet
  pub record Marked (names : List ℕ) (k : ℕ) : Type 0 where
    pub inside : l.used * record_width ≤ length names
    pub named : (d : ℕ) → d < l.used → name_of l.file names d ≡ l.name d
    pub mains : (d : ℕ) → d < l.used → get_or names (d * record_width + main_word) 0 ≡ flag_word (has_main (l.name d) (take k (parts l)))
    pub free : (d : ℕ) → d < l.used → get_or names (d * record_width + pin_word) 0 ≡ 0

  pub record Judged (names : List ℕ) (r : Fault) : Type 0 where
    pub is : r ≡ fault_of (parts l)
    pub marked : r.number ≡ 0 → Marked names (length (parts l))
