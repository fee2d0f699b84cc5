-- One step of the pass over the items: whether a main repeats is told by its designator's record, and after it the record says that it has one.
-- Assumes nothing.
use Prim.Native.Nat.{ℕ, zero, suc, ◌+◌, ◌*◌, ◌-◌, ◌≤◌, ◌<◌}
use mathlib.Core.Path.{◌≡◌, refl, sym, ap, ◌∙◌, subst}
use mathlib.Core.Bool.{Bool, true, false, cond, not, false≢true}
use mathlib.Core.List.{List}
use native.Mathlib.Numerals.{add-one}
use native.Mathlib.Omega.{arith}
use lib.Dec.{eqb}
use lib.ListN.{length, take, get_or}
use borrow.Author.Tests.{eqb-true, eqb-false}
use Rattle.base.specs.And.{◌and◌}
use Rattle.base.specs.Or.{◌or◌}
use Rattle.base.specs.Bytes.{same_bytes}
use Rattle.base.proofs.Lists.{same_is, same_refl}
use Rattle.index.specs.Tree.{record_width}
use Rattle.sheet.specs.Meaning.{flag_word}
use Rattle.sheet.specs.declared.Container.{Container}
use Rattle.law_components.specs.Values.{Value, field, is_held}
use Rattle.law_components.specs.Parts.{Part, Texts, is_main, designator_as, designator}
use Rattle.law_components.specs.Outlines.{at}
use Rattle.law_components.specs.Faults.{lacks_as, lacks, has_main, repeats, fault, fault_of}
use Rattle.law_components.specs.Pass.{met_of, no_outline, outline_after, goes_on, is_open, step_fault, end_fault, pass}
use Rattle.law_components.specs.declared.Fault.{Fault}
use Rattle.law_components.specs.declared.Met.{Met}
use Rattle.law_components.specs.declared.Outline as outline
use Rattle.law_components.specs.declared.Role.{Role}
use Rattle.law_components.specs.declared.Role.TheVariants.{Main, Pin, Outline, Other}
use Rattle.law_components.proofs.Pass.{pass_finds}
use Rattle.law_components.proofs.Steps.{pass_on, pass_out, pass_end, has_main_more}
use Rattle.notes.specs.declared.Note.{Note}
use Rattle.notes.specs.Designators.{Denotes, nothing, one}
use Rattle.notes.specs.Means.{Means}
use Rattle.seeing.specs.Layer.{Layer, parts, SeenIs}
use Rattle.seeing.specs.declared.Seen.{Seen}
use Rattle.seeing.proofs.Sights.{parts_many}
use Rattle.passes.specs.Words.{word_of, with_word, main_word, pin_word, main_as}
use Rattle.passes.specs.Marks.{Marked, Judged}
use Rattle.passes.proofs.Words.{flag_one, set_name, set_other, set_elsewhere, set_here, set_long}

-- where an item lacks its attribute, whether it repeats does not matter; and where nothing is at fault, it does not lack it
step_lacks : (o : outline.Outline) (m : Met) (a b : Bool) → m.lacks ≡ true → step_fault o m a ≡ step_fault o m b
unfolding step_fault
step_lacks o m a b e = rw e

step_held : (o : outline.Outline) (m : Met) (a : Bool) → (step_fault o m a).number ≡ 0 → m.lacks ≡ false
unfolding step_fault
step_held o m a e = go (is_open o and not (goes_on o m)) m.lacks refl e
  where
    go : (x y : Bool) → m.lacks ≡ y → (cond x (fault 28 o.place) (cond y (fault 26 m.place) (cond a (fault 27 m.place) (fault 0 0)))).number ≡ 0 → y ≡ false
    go true y f e = absurd (omega arith)
    go false true f e = absurd (omega arith)
    go false false f e = refl

or_false : (a : Bool) → (a or false) ≡ a
unfolding ◌or◌
or_false true = refl
or_false false = refl

or_true : (a : Bool) → (a or true) ≡ true
unfolding ◌or◌
or_true true = refl
or_true false = refl

module _ {e a : List ℕ} {top : Container} {notes : List ℕ} {operations : ℕ} {roles : List ℕ} {roled : ℕ} (l : Layer e a top notes operations roles roled) {names : List ℕ} {k : ℕ}
    (g : Marked l names k) where
  abbrev ps : List Part
  ps = parts l

  abbrev p : Part
  p = at ps k

  -- a main's record says whether its designator has a main before
  again_as : (r : Role) (n : Note) (t : Texts) (o : outline.Outline) (m : Met) → m.lacks ≡ lacks_as r t → Means l.file l.name l.used n t →
      step_fault o m (eqb (word_of names (main_as r n) main_word) 1) ≡ step_fault o m (is_main r and has_main (designator_as r t) (take k ps))
  unfolding main_as word_of is_main lacks_as designator_as is_held ◌and◌
  again_as Main n t o m e w = go n.component t.component w.component e
    where
      go : (d : ℕ) (v : Value) → Denotes l.name l.used d v → m.lacks ≡ not (is_held v) →
          step_fault o m (eqb (word_of names d main_word) 1) ≡ step_fault o m (has_main (field 0 v) (take k ps))
      go zero v nothing e = step_lacks o m _ _ e
      go (suc d) v (one h q) e =
          ap (step_fault o m) (ap (λ (x : ℕ). eqb x 1) (g.mains d h) ∙ flag_one (has_main (l.name d) (take k ps)) ∙ ap (λ (x : List ℕ). has_main x (take k ps)) q)
  again_as Pin n t o m e w = refl
  again_as Outline n t o m e w = refl
  again_as Other n t o m e w = refl

  module _ {s : Seen} (w : SeenIs l k s) (o : outline.Outline) where
    pub again_is : step_fault o (met_of p) (eqb (word_of names (main_as s.role s.note) main_word) 1) ≡ step_fault o (met_of p) (repeats ps k)
    unfolding repeats designator met_of lacks
    again_is =
        ap (λ (r : Role). step_fault o (met_of p) (eqb (word_of names (main_as r s.note) main_word) 1)) w.role
        ∙ again_as p.role s.note p.texts o (met_of p) refl w.means

  -- after an item that is not at fault
  other_marked : k < length ps → is_main p.role ≡ false → Marked l names (suc k)
  unfolding ◌and◌
  other_marked h e = record {
    inside = g.inside;
    named = g.named;
    mains = λ d u.
        g.mains d u
        ∙ ap flag_word (sym (has_main_more (l.name d) ps k h ∙ ap (λ (t : Bool). has_main (l.name d) (take k ps) or (t and same_bytes (designator p) (l.name d))) e ∙ or_false _));
    free = g.free;
  }

  -- another designator
  differs : (d j : ℕ) → d < l.used → j < l.used → l.name d ≡ designator p → (j ≡ d → ⊥) → same_bytes (designator p) (l.name j) ≡ false
  differs d j u v q ne = go (same_bytes (designator p) (l.name j)) refl
    where
      go : (t : Bool) → same_bytes (designator p) (l.name j) ≡ t → t ≡ false
      go true f = absurd (ne (sym (l.distinct d j u v (q ∙ same_is (designator p) (l.name j) f))))
      go false f = refl

  main_marked : k < length ps → is_main p.role ≡ true → (d : ℕ) → d < l.used → l.name d ≡ designator p → Marked l (with_word names (suc d) main_word 1) (suc k)
  unfolding ◌and◌ flag_word
  main_marked h e d u q = record {
    inside = let long = set_long names d main_word 1 (omega arith) (omega arith) in let i = g.inside in omega arith;
    named = λ j v. set_name names d main_word 1 (omega arith) (omega arith) l.file j ∙ g.named j v;
    mains = λ j v. at_word j v (eqb j d) refl;
    free = λ j v. set_other names d main_word 1 (omega arith) (omega arith) j pin_word (omega arith) (λ (z : pin_word ≡ main_word). omega arith) ∙ g.free j v;
  }
    where
      now_is : (j : ℕ) (t : Bool) → same_bytes (designator p) (l.name j) ≡ t → has_main (l.name j) (take (suc k) ps) ≡ (has_main (l.name j) (take k ps) or t)
      now_is j t f = has_main_more (l.name j) ps k h ∙ (λ i. has_main (l.name j) (take k ps) or (e i and f i))

      at_word : (j : ℕ) → j < l.used → (t : Bool) → eqb j d ≡ t → get_or (with_word names (suc d) main_word 1) (j * record_width + main_word) 0 ≡ flag_word (has_main (l.name j) (take (suc k) ps))
      at_word j v true f =
          let same = eqb-true j d f in
          let there : get_or (with_word names (suc d) main_word 1) (j * record_width + main_word) 0 ≡ 1 =
          ap (λ (x : ℕ). get_or (with_word names (suc d) main_word 1) (x * record_width + main_word) 0) same
          ∙ set_here names d main_word 1 (omega arith) (omega arith) (let i = g.inside in omega arith) in
          there ∙ sym (ap flag_word (now_is j true (ap (λ (x : List ℕ). same_bytes (designator p) x) (ap l.name same ∙ q) ∙ same_refl (designator p)) ∙ or_true _))
      at_word j v false f =
          let ne = eqb-false j d f in
          set_elsewhere names d main_word 1 (omega arith) (omega arith) j ne
          ∙ g.mains j v
          ∙ ap flag_word (sym (now_is j false (differs d j u v q ne) ∙ or_false _))

  pub marked_more : {s : Seen} → SeenIs l k s → k < length ps → lacks p ≡ false → Marked l (with_word names (main_as s.role s.note) main_word 1) (suc k)
  unfolding lacks lacks_as main_as with_word is_main is_held designator designator_as
  marked_more {s} w h held =
      subst (λ (r : Role). Marked l (with_word names (main_as r s.note) main_word 1) (suc k)) (sym w.role)
      (by_role p.role refl s.note w.means held)
    where
      main_held : p.role ≡ Main → (d : ℕ) (v : Value) → Denotes l.name l.used d v → p.texts.component ≡ v → not (is_held v) ≡ false → Marked l (with_word names d main_word 1) (suc k)
      main_held e zero v nothing q held = absurd (false≢true (sym held))
      main_held e (suc d) v (one u f) q held =
          main_marked h (ap is_main e) d u (f ∙ ap (field 0) (sym q) ∙ sym (ap (λ (r : Role). designator_as r p.texts) e))

      by_role : (r : Role) → p.role ≡ r → (n : Note) → Means l.file l.name l.used n p.texts → lacks_as r p.texts ≡ false → Marked l (with_word names (main_as r n) main_word 1) (suc k)
      by_role Main e n m held = main_held e n.component p.texts.component m.component refl held
      by_role Pin e n m held = other_marked h (ap is_main e)
      by_role Outline e n m held = other_marked h (ap is_main e)
      by_role Other e n m held = other_marked h (ap is_main e)

-- ---- the pass between two items

module _ {e a : List ℕ} {top : Container} {notes : List ℕ} {operations : ℕ} {roles : List ℕ} {roled : ℕ} (l : Layer e a top notes operations roles roled) where
  pub record Passing (names : List ℕ) (o : outline.Outline) (k : ℕ) : Type 0 where
    pub rest : pass (parts l) o k (length (parts l) - k) ≡ fault_of (parts l)
    pub marked : Marked l names k

  pub passing_start : {names : List ℕ} → Marked l names 0 → Passing names no_outline 0
  passing_start g = let q : length (parts l) - 0 ≡ length (parts l) = omega arith in record { rest = rw q (pass_finds (parts l)); marked = g }

  module _ {names : List ℕ} {o : outline.Outline} {k : ℕ} (w : Passing names o k) where
    inside_is : k < top.items → k < length (parts l)
    inside_is h = let q = parts_many l in omega arith

    module _ (h : k < top.items) {s : Seen} (seen : SeenIs l k s) {m : Met} (met : m ≡ met_of (at (parts l) k)) {again : Bool}
        (asked : again ≡ eqb (word_of names (main_as s.role s.note) main_word) 1) {f : Fault} (step : f ≡ step_fault o m again) where
      step_is : f ≡ step_fault o (met_of (at (parts l) k)) (repeats (parts l) k)
      step_is = step ∙ (λ i. step_fault o (met i) (asked i)) ∙ again_is l w.marked seen o

      pub passing_out : {names' : List ℕ} → (f.number ≡ 0 → ⊥) → Judged l names' f
      passing_out ne = record {
        is = step_is ∙ sym (pass_out (parts l) o k (inside_is h) (λ z. ne (ap (λ (x : Fault). x.number) step_is ∙ z))) ∙ w.rest;
        marked = λ z. absurd (ne z);
      }

      pub passing_on : f.number ≡ 0 → {names' : List ℕ} {o' : outline.Outline} → names' ≡ with_word names (main_as s.role s.note) main_word 1 → o' ≡ outline_after o m → Passing names' o' (k + 1)
      unfolding met_of
      passing_on z {names'} {o'} n q =
          let number : (step_fault o (met_of (at (parts l) k)) (repeats (parts l) k)).number ≡ 0 = sym (ap (λ (x : Fault). x.number) step_is) ∙ z in
          let held = step_held o (met_of (at (parts l) k)) (repeats (parts l) k) number in
          record {
            rest = ap (λ (x : outline.Outline). pass (parts l) x (k + 1) (length (parts l) - (k + 1))) (q ∙ ap (outline_after o) met)
                ∙ sym (pass_on (parts l) o k (inside_is h) number) ∙ w.rest;
            marked = rw (n, add-one k) (marked_more l w.marked seen (inside_is h) held);
          }

    pub passing_end : top.items ≤ k → k ≤ top.items → {f : Fault} → f ≡ end_fault o → Judged l names f
    passing_end h h' q =
        let many = parts_many l in
        let all : k ≡ length (parts l) = omega arith in
        record {
          is = q ∙ sym (pass_end (parts l) o k (omega arith)) ∙ w.rest;
          marked = λ z. rw all at w.marked;
        }
