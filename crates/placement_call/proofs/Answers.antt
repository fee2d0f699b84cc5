-- The refusal of a file that is read, by each of the ways out: no component layer, room for the notes that is short, or that of its list.
-- Assumes nothing.
use Rattle.std.specs.Prelude.{Result}
use Prim.Native.Nat.{ℕ, ◌-◌, ◌/◌}
use mathlib.Core.Path.{◌≡◌, refl, sym, ap, ◌∙◌, subst}
use mathlib.Core.Bool.{Bool, true, false, cond, not}
use mathlib.Core.List.{List, []}
use native.Mathlib.Omega.{arith}
use lib.Dec.{ltb}
use lib.ListN.{length, replicate}
use Rattle.base.specs.And.{◌and◌}
use Rattle.base.specs.Or.{◌or◌}
use Rattle.book.specs.declared.Book.{Book}
use Rattle.law_components.specs.Parts.{Part}
use Rattle.law_components.specs.Placements.{list_of}
use Rattle.law_components.specs.Faults.{fault, fault_of}
use Rattle.law_components.specs.Answer.{listed_pins, is_sound, is_short, refusal_of, output_of}
use Rattle.law_components.specs.Chain.{link_width}
use Rattle.law_components.specs.declared.Fault.{Fault}
use Rattle.layer.specs.Attributes.{is_component}
use Rattle.mending.specs.Mended.{written}
use Rattle.noting.specs.Holds.{Noted}
use Rattle.noting.specs.declared.Noting.{Noting}
use Rattle.sequence.specs.Rounded.{rounded_in}
use Rattle.law_reading.specs.State.{State}
use Rattle.law_reading.specs.Reading as reading
use Rattle.progress.specs.Lent.{Lent, room_of}
use Rattle.reader.specs.Reads.{Reads}
use Rattle.placement_list.specs.Lists.{answered, judged_of, Lists}
use Rattle.placement_list.specs.declared.Answer.{Answer}
use Rattle.placement_list.proofs.Lists.{refusal_lists}
use Rattle.placement_call.specs.Placement.{Work, is_tight_for, is_tight, parts_in, refusal_in, refusal_for, list_for, Places}
use Rattle.reader.specs.declared.Accepted.{Accepted}
use Rattle.sequence.specs.declared.Refusal.{Refusal}

-- after 34 and the notes' room it is the list's
judged : (pins room : ℕ) (ps : List Part) → judged_of pins room ps ≡ refusal_of true (is_short false pins ps) room ps
unfolding judged_of refusal_of is_short ◌or◌ ◌and◌
judged pins room ps = go (is_sound ps) (ltb pins (listed_pins ps))
  where
    go : (sound short : Bool) →
        cond (not sound) (fault_of ps) (cond short (fault 17 0) (cond (ltb room (length (list_of ps))) (fault 17 0) (fault 0 0)))
        ≡ cond (not true) (fault 34 0)
        (cond (false or (sound and short)) (fault 17 0) (cond (not sound) (fault_of ps) (cond (ltb room (length (list_of ps))) (fault 17 0) (fault 0 0))))
    go true true = refl
    go true false = refl
    go false short = refl

module _ {book : Book} {file : List ℕ} {notes names roles : List ℕ} {n : Noting} (noted : Noted book file notes names roles n) where
  pub tight_is : (w : Work) → w.notes ≡ length notes → w.names ≡ length names → w.roles ≡ length roles → (t : Bool) →
      is_tight_for (length notes) (length names) (length roles) n.operations n.settings n.apertures ≡ t → is_tight book file w ≡ t
  unfolding is_tight
  tight_is w p q r t e = (λ i. is_tight_for (p i) (q i) (r i) (sym noted.operations i) (sym noted.settings i) (sym noted.apertures i)) ∙ e

  pub component_is : {t : Bool} → n.component ≡ t → is_component book file ≡ t
  component_is e = sym noted.component ∙ e

module _ (book : Book) (file : List ℕ) (w : Work) (room : ℕ) (s : State) {out : List ℕ} {r : Answer} where
  refused_lists : (f : Fault) → refusal_in book file w room s ≡ f → (f.number ≡ 0 → ⊥) → out ≡ replicate room 0 → r ≡ answered f.number f.place 0 →
      Lists (refusal_in book file w room s) (parts_in book file s) room out r
  refused_lists f e ne clear q = subst (λ (x : Fault). Lists x (parts_in book file s) room out r) (sym e) (refusal_lists (parts_in book file s) clear f ne q)

  pub other_layer : is_component book file ≡ false → out ≡ replicate room 0 → r ≡ answered 34 0 0 → Lists (refusal_in book file w room s) (parts_in book file s) room out r
  unfolding refusal_in refusal_of
  other_layer e clear q = refused_lists (fault 34 0) (rw e refl) (λ (z : ◌≡◌ {A = ℕ} 34 0). omega arith) clear q

  pub short_room : is_component book file ≡ true → is_tight book file w ≡ true → out ≡ replicate room 0 → r ≡ answered 17 0 0 → Lists (refusal_in book file w room s) (parts_in book file s) room out r
  unfolding refusal_in refusal_of is_short ◌or◌
  short_room e t clear q = refused_lists (fault 17 0) (rw (e, t) refl) (λ (z : ◌≡◌ {A = ℕ} 17 0). omega arith) clear q

  pub whole_list : is_component book file ≡ true → is_tight book file w ≡ false → {ps : List Part} → ps ≡ parts_in book file s →
      Lists (judged_of (w.pins / link_width) room ps) ps room out r → Lists (refusal_in book file w room s) (parts_in book file s) room out r
  unfolding refusal_in
  whole_list e t {ps} q l =
      let here : Lists (judged_of (w.pins / link_width) room (parts_in book file s)) (parts_in book file s) room out r = subst (λ (x : List Part). Lists (judged_of (w.pins / link_width) room x) x room out r) q l in
      rw (e, t, sym (judged (w.pins / link_width) room (parts_in book file s))) here

-- ---- the call

module _ (book : Book) (l l' : Lent) (head : List ℕ) (w : Work) (room : ℕ) {out : List ℕ} {r : Answer} (x : Result Accepted Refusal)
    (stores : Reads (rounded_in book l.file) (reading.reading book (room_of l) l.file) l l' head x) where
  pub places_refused : {number place : ℕ} → reading.reading book (room_of l) l.file ≡ reading.refused number place → out ≡ replicate room 0 → r ≡ answered number place 0 →
      Places book l l' head w room out r
  unfolding refusal_for list_for written
  places_refused {number} {place} e clear q =
      let f : refusal_for book l.file w room (reading.reading book (room_of l) l.file) ≡ fault number place = ap (refusal_for book l.file w room) e in
      let none : list_for book l.file w room (reading.reading book (room_of l) l.file) ≡ [] = ap (list_for book l.file w room) e in
      record {
        number = ap (λ (y : Answer). y.number) q ∙ sym (ap (λ (y : Fault). y.number) f);
        place = ap (λ (y : Answer). y.place) q ∙ sym (ap (λ (y : Fault). y.place) f);
        bytes = ap (λ (y : Answer). y.bytes) q ∙ sym (ap (length {A = ℕ}) none);
        output = clear ∙ ap (λ (n : ℕ). replicate n 0) (let z : room ≡ room - 0 = omega arith in z) ∙ sym (ap (written room) none);
        answer = x;
        stores = stores;
      }

  pub places_read : {s : State} → reading.reading book (room_of l) l.file ≡ reading.accepted s → {n : ℕ} → n ≡ room →
      Lists (refusal_in book l.file w n s) (parts_in book l.file s) n out r → Places book l l' head w room out r
  unfolding refusal_for list_for
  places_read {s} e same given =
      let k : Lists (refusal_in book l.file w room s) (parts_in book l.file s) room out r =
      subst (λ (n : ℕ). Lists (refusal_in book l.file w n s) (parts_in book l.file s) n out r) same given in
      let f : refusal_for book l.file w room (reading.reading book (room_of l) l.file) ≡ refusal_in book l.file w room s = ap (refusal_for book l.file w room) e in
      let all : list_for book l.file w room (reading.reading book (room_of l) l.file) ≡ output_of (refusal_in book l.file w room s) (parts_in book l.file s) = ap (list_for book l.file w room) e in
      record {
        number = k.number ∙ sym (ap (λ (y : Fault). y.number) f);
        place = k.place ∙ sym (ap (λ (y : Fault). y.place) f);
        bytes = k.bytes ∙ sym (ap (length {A = ℕ}) all);
        output = k.left ∙ sym (ap (written room) all);
        answer = x;
        stores = stores;
      }
