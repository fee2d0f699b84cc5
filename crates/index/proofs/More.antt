-- One record more: linked where the search for its key ended, it is found, and so are all before it.
-- Assumes nothing.
use Prim.Native.Nat.{ℕ, zero, suc, ◌+◌, ◌*◌, ◌≤◌, ◌<◌}
use mathlib.Core.Path.{◌≡◌, refl, sym, ap, ◌∙◌, subst}
use mathlib.Core.Bool.{Bool, true, false}
use mathlib.Core.List.{List}
use mathlib.Core.Logic.{⊎_elim}
use native.Mathlib.Nat.{eq-or-lt_of_le, le_of_suc-le-suc, add-zero}
use native.Mathlib.Omega.{arith}
use lib.Dec.{eqb}
use lib.ListN.{length, get_or, set, length-set}
use lib.Seq.{get_or-set_same, get_or-set_other, set-get_or}
use borrow.Author.Tests.{eqb-true, eqb-false}
use Rattle.index.specs.Tree.{record_width, link_word, link_of, next, last_link, linked}
use Rattle.index.specs.Indexed.{Leads, here, Indexed}
use Rattle.index.specs.Layered.{Layered}
use Rattle.index.specs.Numbers.{number_of, Numbered}
use Rattle.index.specs.Names.{name_of, key_of, Named}
use Rattle.base.specs.Bytes.{same_bytes}
use Rattle.base.proofs.Lists.{same_is, same_refl}
use Rattle.base.proofs.Run.{below_snoc}
use lib.Seq.{slice}
use Rattle.index.proofs.Seek.{LinkBelow, link_words, link_place, link_other, leads_kept, leads_new, last_is, last_free}
use Rattle.index.proofs.Layers.{walk_starts, last_ends, layered_set, layered_first, layered_agree}

module _ (s : List ℕ) (key_of : ℕ → ℕ) (m : ℕ) (t : Indexed s key_of (suc m)) (room : suc (suc m) * record_width ≤ length s)
    (free : (key : ℕ) → next s (suc m) key ≡ 0) (w : ℕ) (is : w ≡ last_link s (suc m) 0 (key_of (suc m))) where
  pub new_link : LinkBelow (suc m) w
  new_link = rw is (last_is t (suc m) (omega arith) (suc m) 0 (key_of (suc m)) (omega arith) (omega arith))

  new_free : get_or s w 0 ≡ 0
  new_free = rw is (last_free t (suc m) (omega arith) (suc m) 0 (key_of (suc m)) (omega arith) (omega arith))

  -- what a link leads to: to the new record where it was set, else to where it led
  set_later : (i key : ℕ) → i < suc (suc m) → (b : Bool) → eqb (link_of i key) w ≡ b → 0 < next (set s w (suc m)) i key
      → (i < next (set s w (suc m)) i key) × (next (set s w (suc m)) i key < suc (suc m))
  set_later i key l true e h =
      let p = link_place new_link in
      let q = eqb-true (link_of i key) w e in
      let f : next (set s w (suc m)) i key ≡ suc m = ap (λ x. get_or (set s w (suc m)) x 0) q ∙ get_or-set_same s w (suc m) 0 (omega (arith, t.inside)) in
      let v = link_words i key in
      (omega arith, omega arith)
  set_later i key l false e h =
      let f : next (set s w (suc m)) i key ≡ next s i key = get_or-set_other s w (link_of i key) (suc m) 0 (eqb-false (link_of i key) w e) in
      ⊎_elim
      (λ (q : i ≡ suc m). absurd (let z : next s i key ≡ 0 = rw q (free key) in omega arith))
      (λ (k : i < suc m). let v = t.later i key k (omega arith) in (omega arith, omega arith))
      (eq-or-lt_of_le (le_of_suc-le-suc l))

  pub indexed_set : Indexed (set s w (suc m)) key_of (suc (suc m))
  indexed_set = record {
    inside = rw (length-set s w (suc m)) room;
    later = λ i key l h. set_later i key l (eqb (link_of i key) w) refl h;
    found = below_snoc (λ j. Leads (set s w (suc m)) (key_of j) 0 j) (suc m)
        (λ j l. leads_kept s w (suc m) new_free (t.found j l))
        (leads_new t (suc m) (omega arith) (suc m) 0 (key_of (suc m)) (omega arith) (omega arith) w is);
  }

-- the first record, to which no link leads
pub indexed_first : (s : List ℕ) (key_of : ℕ → ℕ) → record_width ≤ length s → ((key : ℕ) → next s 0 key ≡ 0) → Indexed s key_of 1
indexed_first s key_of room free = record {
  inside = omega arith;
  later = λ i key l. below_snoc (λ i. (key : ℕ) → 0 < next s i key → (i < next s i key) × (next s i key < 1)) 0 (λ i l. absurd (omega arith)) (λ key h. absurd (let z = free key in omega arith)) i l key;
  found = below_snoc (λ j. Leads s (key_of j) 0 j) 0 (λ j l. absurd (omega arith)) here;
}

-- and linking it changes nothing
linked_first : (s : List ℕ) (key : ℕ) → next s 0 key ≡ 0 → linked s 0 key ≡ s
unfolding last_link
linked_first s key free = ap (set s (link_of 0 key)) (sym free) ∙ set-get_or s (link_of 0 key) 0

-- the same tree for keys that are known by another name
indexed_by : (s : List ℕ) (key_of key_of' : ℕ → ℕ) (used : ℕ) → ((j : ℕ) → j < used → key_of j ≡ key_of' j) → Indexed s key_of used → Indexed s key_of' used
indexed_by s key_of key_of' used same t = record {
  inside = t.inside;
  later = t.later;
  found = λ j l. rw (← same j l) (t.found j l);
}

-- what tells the records in use apart tells one more apart from them
distinct_more : (R : ℕ → ℕ → Type 0) (used : ℕ) → ((i j : ℕ) → R i j → R j i) → ((i j : ℕ) → i < used → j < used → R i j → i ≡ j)
    → ((j : ℕ) → j < used → R j used → ⊥) → (i j : ℕ) → i < suc used → j < suc used → R i j → i ≡ j
distinct_more R used turn old other i j l h e =
    ⊎_elim
    (λ (p : i ≡ used). ⊎_elim
    (λ (q : j ≡ used). p ∙ sym q)
    (λ (b : j < used). absurd (other j b (turn used j (rw p at e))))
    (eq-or-lt_of_le (le_of_suc-le-suc h)))
    (λ (a : i < used). ⊎_elim
    (λ (q : j ≡ used). absurd (other i a (rw q at e)))
    (λ (b : j < used). old i j a b e)
    (eq-or-lt_of_le (le_of_suc-le-suc h)))
    (eq-or-lt_of_le (le_of_suc-le-suc l))

-- a record more: linked where the search for its key ended, it is found, and so are all before it
indexed_more : (s : List ℕ) (key_of key_of' : ℕ → ℕ) (used w : ℕ) → Indexed s key_of used → suc used * record_width ≤ length s → ((key : ℕ) → next s used key ≡ 0)
    → w ≡ last_link s used 0 (key_of used) → ((j : ℕ) → key_of j ≡ key_of' j) → Indexed (set s w used) key_of' (suc used)
indexed_more s key_of key_of' zero w t room free is same =
    subst (λ (l : List ℕ). Indexed l key_of' 1) (sym (ap (λ (i : ℕ). set s i 0) is ∙ linked_first s (key_of 0) (free (key_of 0)))) (indexed_first s key_of' room free)
indexed_more s key_of key_of' (suc m) w t room free is same =
    indexed_by (set s w (suc m)) key_of key_of' (suc (suc m)) (λ j l. same j) (indexed_set s key_of m t room free w is)

-- and lies a layer deeper than the record that leads to it
layered_more : (s : List ℕ) (key_of key_of' : ℕ → ℕ) (used w : ℕ) → Indexed s key_of used → Layered s key_of used → suc used * record_width ≤ length s
    → ((key : ℕ) → next s used key ≡ 0) → w ≡ last_link s used 0 (key_of used) → ((j : ℕ) → key_of j ≡ key_of' j) → Layered (set s w used) key_of' (suc used)
layered_more s key_of key_of' zero w t o room free is same =
    subst (λ (l : List ℕ). Layered l key_of' 1) (sym (ap (λ (i : ℕ). set s i 0) is ∙ linked_first s (key_of 0) (free (key_of 0))))
    (layered_first s key_of' 1 (λ i key l. below_snoc (λ i. next s i key ≡ 0) 0 (λ i l. absurd (omega arith)) (free key) i l))
layered_more s key_of key_of' (suc m) w t o room free is same =
    let k = last_ends s key_of (suc m) t o (suc m) (key_of (suc m)) 0 (key_of (suc m)) 0 (walk_starts s key_of (suc m) t o (key_of (suc m)) (omega arith)) (omega arith) in
    layered_agree (set s w (suc m)) (set s w (suc m)) key_of key_of' (suc (suc m)) (indexed_set s key_of m t room free w is) (λ i key l. refl) (λ j l. same j)
    (layered_set s key_of m t o free w (new_link s key_of m t room free w is) (rw (← is) at k))

-- the link that is set holds none of a record's other words
kept_word : (s : List ℕ) (key_of : ℕ → ℕ) (used : ℕ) → Indexed s key_of used → (j r : ℕ) → r < 6 → get_or (linked s used (key_of used)) (j * record_width + r) 0 ≡ get_or s (j * record_width + r) 0
unfolding last_link link_word
kept_word s key_of zero t j r h = get_or-set_other s (link_of 0 (key_of 0)) (j * record_width + r) 0 0 (λ e. let p = link_words 0 (key_of 0) in omega arith)
kept_word s key_of (suc m) t j r h =
    let k = last_is t (suc m) (omega arith) (suc m) 0 (key_of (suc m)) (omega arith) (omega arith) in
    get_or-set_other s (last_link s (suc m) 0 (key_of (suc m))) (j * record_width + r) (suc m) 0 (link_other k j r h)

-- a number that no other record has
pub numbered_more : (s : List ℕ) (used : ℕ) → Numbered s used → suc used * record_width ≤ length s → ((key : ℕ) → next s used key ≡ 0)
    → ((j : ℕ) → j < used → number_of s j ≡ number_of s used → ⊥) → Numbered (linked s used (number_of s used)) (suc used)
numbered_more s used t room free other =
    let l = linked s used (number_of s used) in
    let same : (j : ℕ) → number_of s j ≡ number_of l j = λ j. sym (rw (add-zero (j * record_width)) at (kept_word s (number_of s) used t.tree j 0 (omega arith))) in
    record {
      tree = indexed_more s (number_of s) (number_of l) used _ t.tree room free refl same;
      layers = layered_more s (number_of s) (number_of l) used _ t.tree t.layers room free refl same;
      distinct = λ i j a b e. distinct_more (λ i j. number_of s i ≡ number_of s j) used (λ i j e. sym e) t.distinct other i j a b (same i ∙ e ∙ sym (same j));
    }

-- a name that no other record has
pub named_more : (file s : List ℕ) (used : ℕ) → Named file s used → suc used * record_width ≤ length s → ((key : ℕ) → next s used key ≡ 0)
    → ((j : ℕ) → j < used → same_bytes (name_of file s j) (name_of file s used) ≡ true → ⊥) → Named file (linked s used (key_of (name_of file s used))) (suc used)
unfolding name_of
named_more file s used t room free other =
    let key : ℕ → ℕ = λ i. key_of (name_of file s i) in
    let l = linked s used (key used) in
    let first : (j : ℕ) → get_or s (j * record_width) 0 ≡ get_or l (j * record_width) 0 = λ j. sym (rw (add-zero (j * record_width)) at (kept_word s key used t.tree j 0 (omega arith))) in
    let second : (j : ℕ) → get_or s (j * record_width + 1) 0 ≡ get_or l (j * record_width + 1) 0 = λ j. sym (kept_word s key used t.tree j 1 (omega arith)) in
    let same : (j : ℕ) → name_of file s j ≡ name_of file l j = λ j i. slice (first j i) (second j i) file in
    record {
      tree = indexed_more s key (λ i. key_of (name_of file l i)) used _ t.tree room free refl (λ j. ap key_of (same j));
      distinct = λ i j a b e. distinct_more (λ i j. name_of file s i ≡ name_of file s j) used (λ i j e. sym e)
          (λ i j a b e. t.distinct i j a b (rw e (same_refl (name_of file s j))))
          (λ j b e. other j b (rw e (same_refl (name_of file s used)))) i j a b (same i ∙ same_is _ _ e ∙ sym (same j));
    }

-- before the first record
indexed_none : (s : List ℕ) (key_of : ℕ → ℕ) → Indexed s key_of 0
indexed_none s key_of = record { inside = omega arith; later = λ i key l. absurd (omega arith); found = λ j l. absurd (omega arith) }

pub numbered_none : (s : List ℕ) → Numbered s 0
numbered_none s = record { tree = indexed_none s (number_of s); layers = layered_first s (number_of s) 0 (λ i key l. absurd (omega arith)); distinct = λ i j l. absurd (omega arith) }

pub named_none : (file s : List ℕ) → Named file s 0
named_none file s = record { tree = indexed_none s (λ i. key_of (name_of file s i)); distinct = λ i j l. absurd (omega arith) }
