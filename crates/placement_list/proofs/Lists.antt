-- Each way out of the list is the definition's: an item at fault, no room for the pins, no room for the list, the list.
-- Assumes nothing.
use Prim.Native.Nat.{ℕ, zero, suc, ◌+◌, ◌-◌, ◌/◌}
use mathlib.Core.Path.{◌≡◌, refl, sym, ap, ◌∙◌, subst}
use mathlib.Core.Bool.{Bool, true, false, cond}
use mathlib.Core.List.{List, [], ◌++◌}
use native.Mathlib.Nat.{zero-add}
use native.Mathlib.Omega.{arith}
use borrow.Author.Tests.{eq-eqb, ne_eqb, lt-ltb, le-ltb, leb-true, leb-false}
use lib.Dec.{ltb}
use lib.ListN.{length, drop, replicate}
use Rattle.sheet.specs.declared.Container.{Container}
use Rattle.law_components.specs.Parts.{Part}
use Rattle.law_components.specs.Placements.{list_of}
use Rattle.law_components.specs.Faults.{fault, fault_of}
use Rattle.law_components.specs.Answer.{listed_pins, is_sound, output_of}
use Rattle.law_components.specs.Chain.{link_width}
use Rattle.law_components.specs.Written.{Wrote}
use Rattle.law_components.specs.declared.Fault.{Fault}
use Rattle.law_components.specs.declared.Pen.{Pen}
use Rattle.law_components.proofs.Written.{from_first, whole}
use Rattle.mending.specs.Mended.{written}
use Rattle.seeing.specs.Layer.{Layer, parts}
use Rattle.passes.specs.Marks.{Judged}
use Rattle.passes.specs.Links.{Sound, Links}
use Rattle.placement_list.specs.Lists.{answered, judged_of, Lists}
use Rattle.placement_list.specs.declared.Answer.{Answer}
use Rattle.placement_list.proofs.Sound.{none_lacks}

drop_zeros : (n room : ℕ) → drop n (replicate {A = ℕ} room 0) ≡ replicate (room - n) 0
drop_zeros zero room = ap (λ (k : ℕ). replicate k 0) (let z : room ≡ room - 0 = omega arith in z)
drop_zeros (suc n) zero = ap (λ (k : ℕ). replicate k 0) (let z : 0 ≡ 0 - suc n = omega arith in z)
drop_zeros (suc n) (suc room) = drop_zeros n room ∙ ap (λ (k : ℕ). replicate k 0) (let z : room - n ≡ suc room - suc n = omega arith in z)

-- a refusal leaves the zeros
pub refusal_lists : (ps : List Part) {room : ℕ} {out : List ℕ} → out ≡ replicate room 0 → (f : Fault) → (f.number ≡ 0 → ⊥) → {r : Answer} → r ≡ answered f.number f.place 0 →
    Lists f ps room out r
unfolding output_of written
refusal_lists ps {room} {out} clear f ne {r} q =
    let none : output_of f ps ≡ [] = ap (λ (t : Bool). cond t (list_of ps) []) (ne_eqb f.number 0 ne) in
    record {
      number = ap (λ (x : Answer). x.number) q;
      place = ap (λ (x : Answer). x.place) q;
      bytes = ap (λ (x : Answer). x.bytes) q ∙ sym (ap (length {A = ℕ}) none);
      left = clear ∙ ap (λ (n : ℕ). replicate n 0) (let z : room ≡ room - 0 = omega arith in z) ∙ sym (ap (λ (x : List ℕ). written room x) none);
    }

module _ (pins room : ℕ) (ps : List Part) (out : List ℕ) (clear : out ≡ replicate room 0) where
  refuses : {f : Fault} → judged_of pins room ps ≡ f → (f.number ≡ 0 → ⊥) → {r : Answer} → r ≡ answered f.number f.place 0 → Lists (judged_of pins room ps) ps room out r
  refuses {f} e ne {r} q = subst (λ (x : Fault). Lists x ps room out r) (sym e) (refusal_lists ps clear f ne q)

  pub item_lists : {f : Fault} → f ≡ fault_of ps → (f.number ≡ 0 → ⊥) → {r : Answer} → r ≡ answered f.number f.place 0 → Lists (judged_of pins room ps) ps room out r
  unfolding judged_of is_sound
  item_lists {f} e ne q =
      refuses (rw (ne_eqb (fault_of ps).number 0 (λ z. ne (ap (λ (x : Fault). x.number) e ∙ z))) (sym e)) ne q

  module _ (sound : (fault_of ps).number ≡ 0) where
    pub pins_list : ltb pins (listed_pins ps) ≡ true → {r : Answer} → r ≡ answered 17 0 0 → Lists (judged_of pins room ps) ps room out r
    unfolding judged_of is_sound
    pins_list e q = refuses {f = fault 17 0} (rw (eq-eqb _ 0 sound, e) refl) (λ (z : ◌≡◌ {A = ℕ} 17 0). omega arith) q

    pub full_list : ltb pins (listed_pins ps) ≡ false → ltb room (length (list_of ps)) ≡ true → {r : Answer} → r ≡ answered 17 0 0 → Lists (judged_of pins room ps) ps room out r
    unfolding judged_of is_sound
    full_list e g q = refuses {f = fault 17 0} (rw (eq-eqb _ 0 sound, e, g) refl) (λ (z : ◌≡◌ {A = ℕ} 17 0). omega arith) q

    pub done_list : ltb pins (listed_pins ps) ≡ false → ltb room (length (list_of ps)) ≡ false → {out' : List ℕ} → out' ≡ list_of ps ++ drop (length (list_of ps)) out →
        {r : Answer} {n : ℕ} → n ≡ length (list_of ps) → r ≡ answered 0 0 n → Lists (judged_of pins room ps) ps room out' r
    unfolding judged_of is_sound output_of written
    done_list e g {out'} w {r} {n} long q =
        let f : judged_of pins room ps ≡ fault 0 0 = rw (eq-eqb _ 0 sound, e, g) refl in
        let all : output_of (judged_of pins room ps) ps ≡ list_of ps = ap (λ (x : Fault). output_of x ps) f in
        record {
          number = ap (λ (x : Answer). x.number) q ∙ sym (ap (λ (x : Fault). x.number) f);
          place = ap (λ (x : Answer). x.place) q ∙ sym (ap (λ (x : Fault). x.place) f);
          bytes = ap (λ (x : Answer). x.bytes) q ∙ long ∙ sym (ap (length {A = ℕ}) all);
          left = w ∙ ap (λ (x : List ℕ). list_of ps ++ drop (length (list_of ps)) x) clear ∙ ap (λ (x : List ℕ). list_of ps ++ x) (drop_zeros (length (list_of ps)) room)
              ∙ sym (ap (λ (x : List ℕ). written room x) all);
        }

-- ---- by what the passes say

module _ {e a : List ℕ} {top : Container} {notes : List ℕ} {operations : ℕ} {roles : List ℕ} {roled : ℕ} {l : Layer e a top notes operations roles roled} where
  pub all_held : {names : List ℕ} {f : Fault} → Judged l names f → f.number ≡ 0 → Sound l
  all_held j z = record { held = none_lacks (parts l) (sym (ap (λ (x : Fault). x.number) j.is) ∙ z) }

  pub no_fault : {names : List ℕ} {f : Fault} → Judged l names f → f.number ≡ 0 → (fault_of (parts l)).number ≡ 0
  no_fault j z = sym (ap (λ (x : Fault). x.number) j.is) ∙ z

  pub few_pins : {names pins : List ℕ} {b : Bool} → Links l names pins b → b ≡ true → ltb (length pins / link_width) (listed_pins (parts l)) ≡ false
  few_pins {names} {pins} w e = le-ltb (length pins / link_width) (listed_pins (parts l)) (leb-true (listed_pins (parts l)) (length pins / link_width) (sym w.is ∙ e))

  pub many_pins : {names pins : List ℕ} {b : Bool} → Links l names pins b → b ≡ false → ltb (length pins / link_width) (listed_pins (parts l)) ≡ true
  many_pins {names} {pins} w e = lt-ltb (length pins / link_width) (listed_pins (parts l)) (leb-false (listed_pins (parts l)) (length pins / link_width) (sym w.is ∙ e))

pub pen_end : {b a : List ℕ} {q : Pen} {s : List ℕ} → Wrote b a (record { at = 0; full = false }) q s → q.full ≡ false → q.at ≡ length s
pen_end w e = (w.stands e).end ∙ zero-add _

-- after the last record
pub finished_lists : (pins : ℕ) (ps : List Part) {out m out' : List ℕ} {q : Pen} {r : Answer} → out ≡ replicate (length out) 0 → (fault_of ps).number ≡ 0 → ltb pins (listed_pins ps) ≡ false →
    Wrote out m (record { at = 0; full = false }) q (list_of ps) →
    (q.full ≡ true → (r ≡ answered 17 0 0) × (out' ≡ replicate (length m) 0)) × (q.full ≡ false → (r ≡ answered 0 0 q.at) × (out' ≡ m)) →
    Lists (judged_of pins (length out) ps) ps (length out) out' r
finished_lists pins ps {out} {m} {out'} {q} {r} clear sound few w (full, fits) = go q.full refl
  where
    go : (t : Bool) → q.full ≡ t → Lists (judged_of pins (length out) ps) ps (length out) out' r
    go true e =
        let f = full e in
        full_list pins (length out) ps out' (f.1 ∙ ap (λ (n : ℕ). replicate n 0) w.long) sound few (sym (from_first w) ∙ e) f.0
    go false e =
        let f = fits e in
        done_list pins (length out) ps out clear sound few (sym (from_first w) ∙ e) (f.1 ∙ whole w e) (pen_end w e) f.0
