-- Records that have a name: the places in the file where it begins and ends, their first two words.
use Rattle.std.specs.Prelude.{ℕ, ◌+◌, ◌*◌, ◌<◌, ◌≡◌, true, List, [], ◌∷◌, get_or, Err, Result}
use Rattle.std.proofs.Math.Seq.{slice}
use Rattle.base.specs.Bytes.{same_bytes}
use Rattle.index.specs.First.{first_of}
use Rattle.index.specs.Tree.{record_width, last_link}
use Rattle.index.specs.Indexed.{Indexed}

unfoldable pub name_of : List ℕ → List ℕ → ℕ → List ℕ
name_of file s i = slice (get_or s (i * record_width) 0) (get_or s (i * record_width + 1) 0) file

-- a name as a key: its bytes as one number, the last byte lowest
unfoldable pub key_from : ℕ → List ℕ → ℕ
key_from v [] = v
key_from v (b ∷ s) = key_from (v * 256 + b) s

abbrev pub key_of : List ℕ → ℕ
key_of name = key_from 0 name

-- the record in use that has the name; where none has, the link at which a new one goes
unfoldable pub named : List ℕ → List ℕ → ℕ → List ℕ → Result ℕ ℕ
named file s used name = first_of (λ i. same_bytes (name_of file s i) name) 0 used (Err (last_link s used 0 (key_of name)))

-- the names are a search tree, and no two records have one
pub record Named (file s : List ℕ) (used : ℕ) : Type 0 where
  pub tree : Indexed s (λ i. key_of (name_of file s i)) used
  pub distinct : (i j : ℕ) → i < used → j < used → same_bytes (name_of file s i) (name_of file s j) ≡ true → i ≡ j
