-- What an item is noted by: its role's designator, and whether it lacks the attribute that it must have.
-- Assumes nothing.
use Prim.Native.Nat.{ℕ, zero, suc, ◌+◌, ◌*◌, ◌-◌, ◌≤◌, ◌<◌}
use mathlib.Core.Path.{◌≡◌, refl, ap, ◌∙◌}
use mathlib.Core.Bool.{Bool, true, false, not}
use mathlib.Core.List.{List}
use native.Mathlib.Omega.{arith}
use lib.Dec.{eqb}
use borrow.Author.Tests.{ne_eqb}
use lib.ListN.{length, get_or, set, length-set, get_or-eq_default}
use lib.Seq.{slice, set_out, get_or-set_same, get_or-set_other}
use Rattle.index.specs.Tree.{record_width}
use Rattle.index.specs.Names.{name_of}
use Rattle.sheet.specs.Meaning.{flag_word}
use Rattle.sheet.specs.declared.Container.{Container}
use Rattle.law_components.specs.Values.{Value, is_held}
use Rattle.law_components.specs.Parts.{Texts}
use Rattle.law_components.specs.Outlines.{at}
use Rattle.law_components.specs.Faults.{lacks_as, lacks}
use Rattle.law_components.specs.Pass.{met_of}
use Rattle.law_components.specs.declared.Role.{Role}
use Rattle.law_components.specs.declared.Role.TheVariants.{Main, Pin, Outline, Other}
use Rattle.notes.specs.declared.Note.{Note}
use Rattle.notes.specs.Designators.{Denotes, nothing, one}
use Rattle.notes.specs.Means.{Means}
use Rattle.seeing.specs.Layer.{Layer, parts, SeenIs}
use Rattle.seeing.specs.declared.Seen.{Seen}
use Rattle.passes.specs.Words.{word_of, with_word, lacks_by, met_by}

pub flag_one : (t : Bool) → eqb (flag_word t) 1 ≡ t
unfolding flag_word
flag_one true = refl
flag_one false = refl

denotes_held : {name : ℕ → List ℕ} {used w : ℕ} {v : Value} → Denotes name used w v → eqb w 0 ≡ not (is_held v)
unfolding is_held
denotes_held nothing = refl
denotes_held (one {d = d} l e) = ne_eqb (suc d) 0 (λ (q : suc d ≡ 0). omega arith)

lacks_is : (r : Role) {file : List ℕ} {name : ℕ → List ℕ} {used : ℕ} {n : Note} {t : Texts} → Means file name used n t → lacks_by r n ≡ lacks_as r t
unfolding lacks_by lacks_as
lacks_is Main m = denotes_held m.component
lacks_is Pin m = denotes_held m.pin
lacks_is Outline m = denotes_held m.component
lacks_is Other m = refl

module _ {e a : List ℕ} {top : Container} {notes : List ℕ} {operations : ℕ} {roles : List ℕ} {roled : ℕ} {l : Layer e a top notes operations roles roled} {k : ℕ} {s : Seen} (w : SeenIs l k s) where
  lacks_part : lacks_by s.role s.note ≡ lacks (at (parts l) k)
  unfolding lacks
  lacks_part = ap (λ (r : Role). lacks_by r s.note) w.role ∙ lacks_is (at (parts l) k).role w.means

  pub met_is : met_by s ≡ met_of (at (parts l) k)
  unfolding met_by met_of
  met_is = λ i. record { role = w.role i; start = w.start i; end = w.end i; place = w.place i; lacks = lacks_part i }

-- ---- a word by the number of its record, one less than what it is noted by

module _ (s : List ℕ) (i : ℕ) where
  pub word_some : (d : ℕ) → (d ≡ 0 → ⊥) → word_of s d i ≡ get_or s ((d - 1) * record_width + i) 0
  unfolding word_of
  word_some zero ne = absurd (ne refl)
  word_some (suc d) ne = let q : suc d - 1 ≡ d = omega arith in rw q refl

  pub word_past : (d : ℕ) → (d ≡ 0 → ⊥) → length s < d - 1 → word_of s d i ≡ 0
  word_past d ne l = word_some d ne ∙ get_or-eq_default s 0 (omega arith)

  module _ (v : ℕ) where
    pub with_some : (d : ℕ) → (d ≡ 0 → ⊥) → with_word s d i v ≡ set s ((d - 1) * record_width + i) v
    unfolding with_word
    with_some zero ne = absurd (ne refl)
    with_some (suc d) ne = let q : suc d - 1 ≡ d = omega arith in rw q refl

    pub with_past : (d : ℕ) → (d ≡ 0 → ⊥) → length s < d - 1 → with_word s d i v ≡ s
    with_past d ne l = with_some d ne ∙ set_out s ((d - 1) * record_width + i) v (omega arith)

-- ---- a word of a record set anew

module _ (names : List ℕ) (d i v : ℕ) (low : 2 ≤ i) (high : i < record_width) where
  pub set_name : (file : List ℕ) (j : ℕ) → name_of file (with_word names (suc d) i v) j ≡ name_of file names j
  unfolding name_of with_word
  set_name file j = λ x. slice
      (get_or-set_other names (d * record_width + i) (j * record_width) v 0 (λ (q : j * record_width ≡ d * record_width + i). omega arith) x)
      (get_or-set_other names (d * record_width + i) (j * record_width + 1) v 0 (λ (q : j * record_width + 1 ≡ d * record_width + i). omega arith) x)
      file

  pub set_other : (j m : ℕ) → m < record_width → (m ≡ i → ⊥) → get_or (with_word names (suc d) i v) (j * record_width + m) 0 ≡ get_or names (j * record_width + m) 0
  unfolding with_word
  set_other j m h ne = get_or-set_other names (d * record_width + i) (j * record_width + m) v 0 (λ (q : j * record_width + m ≡ d * record_width + i). ne (omega arith))

  pub set_elsewhere : (j : ℕ) → (j ≡ d → ⊥) → get_or (with_word names (suc d) i v) (j * record_width + i) 0 ≡ get_or names (j * record_width + i) 0
  unfolding with_word
  set_elsewhere j ne = get_or-set_other names (d * record_width + i) (j * record_width + i) v 0 (λ (q : j * record_width + i ≡ d * record_width + i). ne (omega arith))

  pub set_here : d * record_width + record_width ≤ length names → get_or (with_word names (suc d) i v) (d * record_width + i) 0 ≡ v
  unfolding with_word
  set_here l = get_or-set_same names (d * record_width + i) v 0 (omega arith)

  pub set_long : length (with_word names (suc d) i v) ≡ length names
  unfolding with_word
  set_long = length-set names (d * record_width + i) v
