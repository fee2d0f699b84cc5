-- Records that have a number, their first word.
use Rattle.std.specs.Prelude.{ℕ, ◌*◌, ◌<◌, ◌≡◌, List, eqb, get_or, Err, Result}
use Rattle.index.specs.First.{first_of}
use Rattle.index.specs.Tree.{record_width, last_link}
use Rattle.index.specs.Indexed.{Indexed}
use Rattle.index.specs.Layered.{Layered}

abbrev pub number_of : List ℕ → ℕ → ℕ
number_of s i = get_or s (i * record_width) 0

-- the record in use that has the number; where none has, the link at which a new one goes
unfoldable pub numbered : List ℕ → ℕ → ℕ → Result ℕ ℕ
numbered s used number = first_of (λ i. eqb (number_of s i) number) 0 used (Err (last_link s used 0 number))

-- the numbers are a search tree, no deeper than they have bits, and no two records have one
pub record Numbered (s : List ℕ) (used : ℕ) : Type 0 where
  pub tree : Indexed s (number_of s) used
  pub layers : Layered s (number_of s) used
  pub distinct : (i j : ℕ) → i < used → j < used → number_of s i ≡ number_of s j → i ≡ j
