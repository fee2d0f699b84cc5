-- A record more whose number was not found: afterwards it is, and the numbers are a search tree as before.
-- Assumes nothing.
use Rattle.std.specs.Prelude.{Err}
use Prim.Native.Nat.{ℕ, suc, ◌*◌, ◌/◌, ◌≤◌, ◌<◌}
use mathlib.Core.Path.{◌≡◌, sym, ap, ◌∙◌, subst}
use mathlib.Core.List.{List}
use native.Mathlib.Nat.{add-zero, le_refl}
use native.Mathlib.Omega.{arith}
use lib.Dec.{eqb}
use lib.ListN.{length, get_or, set}
use borrow.Author.Tests.{eq-eqb}
use Rattle.index.specs.Tree.{record_width, next, last_link, linked}
use Rattle.index.specs.Numbers.{number_of, numbered, Numbered}
use Rattle.index.proofs.Layers.{layered_agree}
use Rattle.index.proofs.More.{numbered_more}
use Rattle.sheet.specs.Records.{stored}
use Rattle.tables.specs.Added.{added}
use Rattle.tables.proofs.Agree.{indexed_agree, end_agree}
use Rattle.tables.proofs.Free.{first_free}
use Rattle.tables.proofs.Adding.{added_room, more_long, more_below, more_at, more_links, more_free}

-- a search that found no number
module _ (s : List ℕ) (used number link : ℕ) (free : numbered s used number ≡ Err link) where
  pub number_ends : last_link s used 0 number ≡ link
  unfolding numbered
  number_ends = (first_free (λ i. eqb (number_of s i) number) 0 used (last_link s used 0 number) link free).0

  pub number_new : (j : ℕ) → j < used → number_of s j ≡ number → ⊥
  unfolding numbered
  number_new j l e =
      (first_free (λ i. eqb (number_of s i) number) 0 used (last_link s used 0 number) link free).1 j (omega arith) (omega arith) (eq-eqb (number_of s j) number e)

-- a table's numbers, where links and numbers are as they were
pub numbered_agree : (s t : List ℕ) (used : ℕ) → Numbered s used → used * record_width ≤ length t → ((i key : ℕ) → i < used → next t i key ≡ next s i key)
    → ((j : ℕ) → j < used → number_of t j ≡ number_of s j) → Numbered t used
numbered_agree s t used n long links same = record {
  tree = indexed_agree s t links n.tree (number_of t) long (λ j l. sym (same j l));
  layers = layered_agree s t (number_of s) (number_of t) used n.tree links (λ j l. sym (same j l)) n.layers;
  distinct = λ i j a b e. n.distinct i j a b (sym (same i a) ∙ e ∙ same j b);
}

module _ (s : List ℕ) (used number link : ℕ) (w : List ℕ) (wide : length w ≡ record_width) (room : used < length s / record_width) (n : Numbered s used)
    (free : numbered s used number ≡ Err link) (is : get_or w 0 0 ≡ number) (low : get_or w 6 0 ≡ 0) (high : get_or w 7 0 ≡ 0) where
  abbrev t : List ℕ
  t = stored s (used * record_width) w

  old : (j : ℕ) → j < used → number_of t j ≡ number_of s j
  old j l = more_below s used w wide room (j * record_width) (omega arith)

  own : number_of t used ≡ number
  own = rw (add-zero (used * record_width)) at (more_at s used w wide room 0 (omega arith)) ∙ is

  same_end : last_link t used 0 (number_of t used) ≡ link
  same_end = ap (last_link t used 0) own ∙ end_agree s t (more_links s used w wide room) n.tree number used (le_refl used) ∙ number_ends s used number link free

  linked_is : linked t used (number_of t used) ≡ added s used link w
  linked_is = ap (λ (i : ℕ). set t i used) same_end ∙ sym (added_room s used link w room)

  pub numbered_added : Numbered (added s used link w) (suc used)
  numbered_added = subst (λ (l : List ℕ). Numbered l (suc used)) linked_is
      (numbered_more t used
      (numbered_agree s t used n (let h = more_long s used w wide room in omega arith) (more_links s used w wide room) old)
      (more_long s used w wide room) (more_free s used w wide room low high)
      (λ j l e. number_new s used number link free j l (sym (old j l) ∙ e ∙ own)))
