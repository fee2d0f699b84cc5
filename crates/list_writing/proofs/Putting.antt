-- The list is written item by item: after the first k items stand their entries.
-- Assumes nothing.
use Prim.Native.Nat.{ℕ, zero, suc, ◌+◌, ◌*◌, ◌≤◌, ◌<◌}
use mathlib.Core.Path.{◌≡◌, refl, sym, ap, ◌∙◌, subst}
use mathlib.Core.Bool.{Bool, true, false}
use mathlib.Core.List.{List, [], ◌∷◌, ◌++◌, append-nil}
use native.Mathlib.Numerals.{add-one}
use native.Mathlib.Nat.{zero-add}
use native.Mathlib.Omega.{arith}
use lib.ListN.{length, take, get_or}
use lib.Seq.{take-length}
use Rattle.base.specs.And.{◌and◌}
use Rattle.base.specs.Or.{◌or◌}
use Rattle.base.specs.Bytes.{same_bytes}
use Rattle.base.proofs.And.{and_i}
use Rattle.base.proofs.Lists.{same_refl}
use Rattle.index.specs.Tree.{record_width}
use Rattle.sheet.specs.declared.Container.{Container}
use Rattle.law_components.specs.Parts.{Part, is_main, designator}
use Rattle.law_components.specs.Outlines.{at}
use Rattle.law_components.specs.Faults.{has_main}
use Rattle.law_components.specs.Placements.{each, entry_for, list_of}
use Rattle.law_components.specs.Numbers.{numbers_from, a_pin_of, pins_by}
use Rattle.law_components.specs.Written.{Wrote}
use Rattle.law_components.specs.declared.Pen.{Pen}
use Rattle.law_components.proofs.Each.{each_more}
use Rattle.law_components.proofs.List.{main_entry, other_entry}
use Rattle.law_components.proofs.Written.{behind, is_also, nothing_more}
use Rattle.seeing.specs.Layer.{Layer, parts, SeenIs}
use Rattle.seeing.specs.declared.Seen.{Seen}
use Rattle.seeing.proofs.Sights.{parts_many}
use Rattle.passes.specs.Words.{word_of, main_as, pin_word}
use Rattle.list_writing.specs.Rows.{main_by, pins_at}
use Rattle.list_writing.specs.Walks.{Walks, Walking}
use Rattle.list_writing.specs.Ready.{Ready}
use Rattle.list_writing.proofs.Rows.{Designates, designates, is_other, main_is}
use Rattle.list_writing.proofs.Walks.{Under, numbers_under, chain_walks}

-- where the pen is not full it stands within the room
pub penned : {b m : List ℕ} {p q : Pen} {s : List ℕ} → Wrote b m p q s → q.full ≡ false → q.at ≤ length m
penned w e = let i = (w.stands e).inside in let n = w.long in omega arith

-- a main among the items
main_here : (d : List ℕ) (ps : List Part) (k : ℕ) → k < length ps → (is_main (at ps k).role and same_bytes (designator (at ps k)) d) ≡ true → has_main d ps ≡ true
unfolding has_main ◌or◌
main_here d [] k h e = absurd (omega arith)
main_here d (p ∷ ps) zero h e = ap (λ (t : Bool). t or has_main d ps) e
main_here d (p ∷ ps) (suc k) h e = go (is_main p.role and same_bytes (designator p) d) (main_here d ps k (omega arith) e)
  where
    go : (t : Bool) → has_main d ps ≡ true → (t or has_main d ps) ≡ true
    go true f = refl
    go false f = f

module _ {file e a : List ℕ} {top : Container} {notes : List ℕ} {operations : ℕ} {roles : List ℕ} {roled : ℕ} {names pins : List ℕ}
    (w : Ready file e a top notes operations roles roled names pins) where
  abbrev l : Layer e a top notes operations roles roled
  l = w.layer

  abbrev ps : List Part
  ps = parts l

  module _ {k : ℕ} (inside : k < top.items) {s : Seen} (seen : SeenIs l k s) {d : ℕ} (noted : d ≡ main_as s.role s.note) where
    here : k < length ps
    here = let m = parts_many l in omega arith

    module _ (some : d ≡ 0 → ⊥) where
      named : Designates l w.of seen d
      named = designates l w.of seen noted some

      abbrev numbers : List ℕ
      numbers = numbers_from (a_pin_of (designator (at ps k))) 0 ps

      pub walks_pins : Walks pins top.items (word_of names d pin_word) numbers
      unfolding word_of
      walks_pins =
          let n : ℕ = named.number in
          let has = main_here (l.name n) ps k here (and_i _ _ named.main (ap (same_bytes (designator (at ps k))) named.named ∙ same_refl (designator (at ps k)))) in
          let c = w.linked.chains n named.inside has in
          let many : 0 + length ps ≡ top.items = zero-add (length ps) ∙ parts_many l in
          subst (λ (x : ℕ). Walks pins top.items (word_of names x pin_word) numbers) (sym named.is)
          (subst (λ (x : List ℕ). Walks pins top.items (get_or names (n * record_width + pin_word) 0) (numbers_from (a_pin_of x) 0 ps)) named.named
          (chain_walks w.linked.room (subst (λ (x : ℕ). Under x (numbers_from (a_pin_of (l.name n)) 0 ps)) many (numbers_under (a_pin_of (l.name n)) 0 ps)) c))

      pub walking_pins : Walking pins top.items (word_of names d pin_word)
      walking_pins = record { numbers = numbers; walks = walks_pins }

      entry_is : main_by file names d s ++ pins_at ps numbers ≡ entry_for ps (at ps k)
      unfolding pins_by
      entry_is =
          ap (λ (x : List ℕ). x ++ pins_at ps numbers) (main_is l w.of seen w.linked named)
          ∙ sym (main_entry ps (at ps k) named.main)

      pub entry_more : {b m r : List ℕ} {pen q q' : Pen} → Wrote b m pen q (each (entry_for ps) (take k ps)) → Wrote m r q q' (main_by file names d s ++ pins_at ps numbers) →
          Wrote b r pen q' (each (entry_for ps) (take (k + 1) ps))
      entry_more f g = rw (add-one k) (is_also (sym (each_more (entry_for ps) ps k here)) (behind f (is_also entry_is g)))

    pub entry_none : d ≡ 0 → {b m : List ℕ} {pen q : Pen} → Wrote b m pen q (each (entry_for ps) (take k ps)) → Wrote b m pen q (each (entry_for ps) (take (k + 1) ps))
    entry_none z f =
        let o = other_entry ps (at ps k) (is_other l w.of seen noted z (w.sound.held k here)) in
        rw (add-one k) (is_also (sym (each_more (entry_for ps) ps k here ∙ ap (λ (x : List ℕ). each (entry_for ps) (take k ps) ++ x) o ∙ append-nil (each (entry_for ps) (take k ps)))) f)

  pub list_start : {b : List ℕ} → Wrote b b (record { at = 0; full = false }) (record { at = 0; full = false }) (each (entry_for ps) (take 0 ps))
  unfolding each
  list_start {b} = nothing_more (record { at = 0; full = false }) (λ z. omega arith)

  pub list_end : {k : ℕ} → k ≤ top.items → top.items ≤ k → {b m : List ℕ} {pen q : Pen} → Wrote b m pen q (each (entry_for ps) (take k ps)) → Wrote b m pen q (list_of ps)
  unfolding list_of
  list_end {k} h g f =
      let m = parts_many l in
      let q : k ≡ length ps = omega arith in
      is_also (ap (λ (x : ℕ). each (entry_for ps) (take x ps)) q ∙ ap (each (entry_for ps)) (take-length ps)) f
