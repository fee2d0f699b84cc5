-- A record more whose name was not found: afterwards it is, and the names are a search tree as before.
-- Assumes nothing.
use Rattle.std.specs.Prelude.{Err}
use Prim.Native.Nat.{ℕ, suc, ◌+◌, ◌*◌, ◌/◌, ◌≤◌, ◌<◌}
use mathlib.Core.Path.{◌≡◌, sym, ap, ◌∙◌, subst}
use mathlib.Core.Bool.{true}
use mathlib.Core.List.{List}
use native.Mathlib.Nat.{add-zero, le_refl}
use native.Mathlib.Omega.{arith}
use lib.ListN.{length, get_or, set}
use lib.Seq.{slice}
use Rattle.base.specs.Bytes.{same_bytes}
use Rattle.index.specs.Tree.{record_width, next, last_link, linked}
use Rattle.index.specs.Names.{name_of, key_of, named, Named}
use Rattle.index.proofs.More.{named_more}
use Rattle.sheet.specs.Records.{stored}
use Rattle.tables.specs.Added.{added}
use Rattle.tables.proofs.Agree.{indexed_agree, end_agree}
use Rattle.tables.proofs.Free.{first_free}
use Rattle.tables.proofs.Adding.{added_room, more_long, more_below, more_at, more_links, more_free}

-- a search that found no name
module _ (file s : List ℕ) (used : ℕ) (name : List ℕ) (link : ℕ) (free : named file s used name ≡ Err link) where
  pub name_ends : last_link s used 0 (key_of name) ≡ link
  unfolding named
  name_ends = (first_free (λ i. same_bytes (name_of file s i) name) 0 used (last_link s used 0 (key_of name)) link free).0

  pub name_new : (j : ℕ) → j < used → same_bytes (name_of file s j) name ≡ true → ⊥
  unfolding named
  name_new j l e =
      (first_free (λ i. same_bytes (name_of file s i) name) 0 used (last_link s used 0 (key_of name)) link free).1 j (omega arith) (omega arith) e

-- a table's names, where links and names are as they were
named_agree : (file s t : List ℕ) (used : ℕ) → Named file s used → used * record_width ≤ length t → ((i key : ℕ) → i < used → next t i key ≡ next s i key)
    → ((j : ℕ) → j < used → name_of file t j ≡ name_of file s j) → Named file t used
named_agree file s t used n long links same = record {
  tree = indexed_agree s t links n.tree (λ i. key_of (name_of file t i)) long (λ j l. ap key_of (sym (same j l)));
  distinct = λ i j a b e. n.distinct i j a b (rw (same i a, same j b) at e);
}

module _ (file s : List ℕ) (used : ℕ) (name : List ℕ) (link : ℕ) (w : List ℕ) (wide : length w ≡ record_width) (room : used < length s / record_width) (n : Named file s used)
    (free : named file s used name ≡ Err link) (is : slice (get_or w 0 0) (get_or w 1 0) file ≡ name) (low : get_or w 6 0 ≡ 0) (high : get_or w 7 0 ≡ 0) where
  abbrev t : List ℕ
  t = stored s (used * record_width) w

  old : (j : ℕ) → j < used → name_of file t j ≡ name_of file s j
  unfolding name_of
  old j l = λ x. slice (more_below s used w wide room (j * record_width) (omega arith) x) (more_below s used w wide room (j * record_width + 1) (omega arith) x) file

  own : name_of file t used ≡ name
  unfolding name_of
  own =
      let p : get_or t (used * record_width) 0 ≡ get_or w 0 0 = rw (add-zero (used * record_width)) at (more_at s used w wide room 0 (omega arith)) in
      let q : get_or t (used * record_width + 1) 0 ≡ get_or w 1 0 = more_at s used w wide room 1 (omega arith) in
      (λ x. slice (p x) (q x) file) ∙ is

  same_end : last_link t used 0 (key_of (name_of file t used)) ≡ link
  same_end = ap (λ (v : List ℕ). last_link t used 0 (key_of v)) own
      ∙ end_agree s t (more_links s used w wide room) n.tree (key_of name) used (le_refl used) ∙ name_ends file s used name link free

  linked_is : linked t used (key_of (name_of file t used)) ≡ added s used link w
  linked_is = ap (λ (i : ℕ). set t i used) same_end ∙ sym (added_room s used link w room)

  pub named_added : Named file (added s used link w) (suc used)
  named_added = subst (λ (l : List ℕ). Named file l (suc used)) linked_is
      (named_more file t used
      (named_agree file s t used n (let h = more_long s used w wide room in omega arith) (more_links s used w wide room) old)
      (more_long s used w wide room) (more_free s used w wide room low high)
      (λ j l e. name_new file s used name link free j l (rw (old j l, own) at e)))
