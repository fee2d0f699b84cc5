-- The records by what is seen of an item are its records: the note says where the texts lie, and a main's designator has a record.
-- Assumes nothing.
use Prim.Native.Nat.{ℕ, zero, suc, ◌+◌, ◌*◌, ◌<◌}
use mathlib.Core.Path.{◌≡◌, refl, sym, ap, ◌∙◌}
use mathlib.Core.Bool.{true, false, not, true≢false}
use mathlib.Core.List.{List}
use native.Mathlib.Nat.{add-zero}
use native.Mathlib.Omega.{arith}
use lib.Seq.{slice}
use lib.ListN.{get_or}
use Rattle.command.specs.declared.Span.{Span}
use Rattle.index.specs.Tree.{record_width}
use Rattle.index.specs.Names.{name_of}
use Rattle.sheet.specs.declared.Container.{Container}
use Rattle.law_components.specs.Values.{Value, field, is_held}
use Rattle.law_components.specs.Parts.{Part, is_main, designator_as, designator}
use Rattle.law_components.specs.Outlines.{at}
use Rattle.law_components.specs.Faults.{lacks_as, lacks}
use Rattle.law_components.specs.Records.{main_row, pin_row, main_record, pin_record}
use Rattle.law_components.specs.declared.Role.{Role}
use Rattle.law_components.specs.declared.Role.TheVariants.{Main, Pin, Outline, Other}
use Rattle.notes.specs.declared.Note.{Note}
use Rattle.notes.specs.Spans.{SpanIs}
use Rattle.notes.specs.Designators.{Denotes, nothing, one}
use Rattle.notes.specs.Means.{Means}
use Rattle.seeing.specs.Layer.{Layer, parts, SeenIs}
use Rattle.seeing.specs.declared.Seen.{Seen}
use Rattle.passes.specs.Words.{word_of, main_as}
use Rattle.passes.specs.Links.{Linked}
use Rattle.list_writing.specs.Rows.{text_in, pin_by, main_by}

module _ {e a : List ℕ} {top : Container} {notes : List ℕ} {operations : ℕ} {roles : List ℕ} {roled : ℕ} (l : Layer e a top notes operations roles roled)
    {file : List ℕ} (of : l.file ≡ file) {k : ℕ} {s : Seen} (w : SeenIs l k s) where
  abbrev p : Part
  p = at (parts l) k

  text_is : {q : Span} {t : List ℕ} → SpanIs l.file q t → text_in file q ≡ t
  text_is {q} h = ap (λ (f : List ℕ). slice q.from q.to f) (sym of) ∙ h.is

  pub pin_is : pin_by file s ≡ pin_record p
  unfolding pin_by pin_record
  pin_is = λ i. pin_row (text_is w.means.number i) (w.end i)

  -- the designator of a main, by the number by which it is noted
  pub record Designates (d : ℕ) : Type 0 where
    pub number : ℕ
    pub is : d ≡ suc number
    pub inside : number < l.used
    pub named : l.name number ≡ designator p
    pub main : is_main p.role ≡ true

  as_main : (d : ℕ) (v : Value) → p.role ≡ Main → Denotes l.name l.used d v → p.texts.component ≡ v → (d ≡ 0 → ⊥) → Designates d
  unfolding is_main designator designator_as
  as_main zero v e nothing q ne = absurd (ne refl)
  as_main (suc d) v e (one u f) q ne = record {
    number = d;
    is = refl;
    inside = u;
    named = f ∙ ap (field 0) (sym q) ∙ sym (ap (λ (r : Role). designator_as r p.texts) e);
    main = ap is_main e;
  }

  by_role : (r : Role) (n : Note) → p.role ≡ r → Means l.file l.name l.used n p.texts → (main_as r n ≡ 0 → ⊥) → Designates (main_as r n)
  unfolding main_as
  by_role Main n e m ne = as_main n.component p.texts.component e m.component refl ne
  by_role Pin n e m ne = absurd (ne refl)
  by_role Outline n e m ne = absurd (ne refl)
  by_role Other n e m ne = absurd (ne refl)

  role_noted : {d : ℕ} → d ≡ main_as s.role s.note → d ≡ main_as p.role s.note
  role_noted q = q ∙ ap (λ (r : Role). main_as r s.note) w.role

  pub designates : {d : ℕ} → d ≡ main_as s.role s.note → (d ≡ 0 → ⊥) → Designates d
  designates q ne = rw (role_noted q) (by_role p.role s.note refl w.means (λ z. ne (role_noted q ∙ z)))

  -- what is noted by none is no main, since a main has its `.C`
  none_as : (d : ℕ) (v : Value) → Denotes l.name l.used d v → d ≡ 0 → not (is_held v) ≡ true
  unfolding is_held
  none_as zero v nothing z = refl
  none_as (suc d) v (one u f) z = let q : ◌≡◌ {A = ℕ} 0 1 = cc in absurd (omega_no q)
    where
      omega_no : ◌≡◌ {A = ℕ} 0 1 → ⊥
      omega_no q = omega arith

  no_main : (r : Role) (n : Note) → Means l.file l.name l.used n p.texts → main_as r n ≡ 0 → lacks_as r p.texts ≡ false → is_main r ≡ false
  unfolding main_as lacks_as is_main
  no_main Main n m z held = absurd (true≢false (sym (none_as n.component p.texts.component m.component z) ∙ held))
  no_main Pin n m z held = refl
  no_main Outline n m z held = refl
  no_main Other n m z held = refl

  pub is_other : {d : ℕ} → d ≡ main_as s.role s.note → d ≡ 0 → lacks p ≡ false → is_main p.role ≡ false
  unfolding lacks
  is_other q z held = no_main p.role s.note w.means (sym (role_noted q) ∙ z) held

  module _ {names pins : List ℕ} (linked : Linked l names pins) {d : ℕ} (n : Designates d) where
    name_is : slice (word_of names d 0) (word_of names d 1) file ≡ designator p
    unfolding word_of name_of
    name_is =
        let j : ℕ = n.number in
        ap (λ (x : ℕ). slice (word_of names x 0) (word_of names x 1) file) n.is
        ∙ (λ i. slice (get_or names (add-zero (j * record_width) i) 0) (get_or names (j * record_width + 1) 0) (sym of i))
        ∙ linked.named j n.inside ∙ n.named

    pub main_is : main_by file names d s ≡ main_record p
    unfolding main_by main_record
    main_is = λ i.
        main_row (name_is i) (w.end i) (text_is w.means.rotation i) (text_is w.means.value i) (text_is w.means.footprint i) (text_is w.means.mount i)
