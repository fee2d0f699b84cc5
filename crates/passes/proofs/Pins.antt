-- One step of the pass that links pins, from the last item to the first.
-- Assumes nothing.
use Prim.Native.Nat.{ℕ, zero, suc, ◌+◌, ◌*◌, ◌-◌, ◌/◌, ◌≤◌, ◌<◌}
use mathlib.Core.Path.{◌≡◌, refl, sym, ap, ◌∙◌, subst}
use mathlib.Core.Bool.{Bool, true, false, cond, not, false≢true}
use mathlib.Core.List.{List, [], ◌∷◌}
use native.Mathlib.Numerals.{add-one}
use native.Mathlib.Omega.{arith}
use lib.Dec.{eqb}
use lib.ListN.{length, drop, get_or, set, length-set, drop_of_length-le}
use lib.Seq.{drop-cons, take-length, get_or-set_same, get_or-set_other}
use borrow.Author.Tests.{eq-eqb, ne_eqb, eqb-true, eqb-false, le-leb, lt-leb}
use Rattle.base.specs.And.{◌and◌}
use Rattle.base.specs.Bytes.{same_bytes}
use Rattle.base.proofs.And.{and_l, and_r, and_i}
use Rattle.base.proofs.Lists.{same_is, same_refl}
use Rattle.index.specs.Tree.{record_width}
use Rattle.index.specs.Names.{name_of}
use Rattle.sheet.specs.Meaning.{flag_word}
use Rattle.sheet.specs.declared.Container.{Container}
use Rattle.law_components.specs.Values.{Value, field, is_held}
use Rattle.law_components.specs.Parts.{Part, is_pin, designator_as, designator, nothing}
use Rattle.law_components.specs.Outlines.{at}
use Rattle.law_components.specs.Faults.{lacks_as, lacks, has_main}
use Rattle.law_components.specs.Numbers.{numbers_from, a_pin_of}
use Rattle.law_components.specs.Answer.{listed_among, listed_pins}
use Rattle.law_components.specs.Chain.{link_width, Chain, end}
use Rattle.law_components.specs.declared.Role.{Role}
use Rattle.law_components.specs.declared.Role.TheVariants.{Main, Pin, Outline, Other}
use Rattle.law_components.proofs.Chain.{numbers_add, numbers_skip, Stays, chain_stays, chain_grows}
use Rattle.notes.specs.declared.Note.{Note}
use Rattle.notes.specs.Designators as hearing
use Rattle.notes.specs.Designators.{Denotes, one}
use Rattle.notes.specs.Means.{Means}
use Rattle.seeing.specs.Layer.{Layer, parts, SeenIs}
use Rattle.seeing.specs.declared.Seen.{Seen}
use Rattle.seeing.proofs.Sights.{parts_many}
use Rattle.passes.specs.Words.{word_of, with_word, main_word, pin_word, pin_as, with_link}
use Rattle.passes.specs.Marks.{Marked}
use Rattle.passes.specs.Links.{Sound, Links}
use Rattle.passes.proofs.Words.{flag_one, set_name, set_other, set_elsewhere, set_here, set_long}

-- ---- a link more in the room

module _ (pins : List ℕ) (links k next : ℕ) (room : links < length pins / link_width) where
  pub link_stays : Stays pins (with_link pins links k next) links
  unfolding with_link
  link_stays = record {
    words = λ i h.
        get_or-set_other (set pins (links * link_width) k) (links * link_width + 1) i next 0 (λ (q : i ≡ links * link_width + 1). omega arith)
        ∙ get_or-set_other pins (links * link_width) i k 0 (λ (q : i ≡ links * link_width). omega arith);
  }

  pub link_number : get_or (with_link pins links k next) (links * link_width) 0 ≡ k
  unfolding with_link
  link_number =
      get_or-set_other (set pins (links * link_width) k) (links * link_width + 1) (links * link_width) next 0 (λ (q : links * link_width ≡ links * link_width + 1). omega arith)
      ∙ get_or-set_same pins (links * link_width) k 0 (omega arith)

  pub link_next : get_or (with_link pins links k next) (links * link_width + 1) 0 ≡ next
  unfolding with_link
  link_next = get_or-set_same (set pins (links * link_width) k) (links * link_width + 1) next 0 (let h = length-set pins (links * link_width) k in omega arith)

pub link_long : (pins : List ℕ) (links k next : ℕ) → length (with_link pins links k next) ≡ length pins
unfolding with_link
link_long pins links k next = length-set (set pins (links * link_width) k) (links * link_width + 1) next ∙ length-set pins (links * link_width) k

-- ---- how many are listed

listed_here : (all ps : List Part) (k : ℕ) → k < length ps →
    listed_among all (drop k ps) ≡ cond (is_pin (at ps k).role and has_main (designator (at ps k)) all) 1 0 + listed_among all (drop (suc k) ps)
unfolding listed_among
listed_here all ps k h = ap (listed_among all) (drop-cons ps k nothing h)

listed_drop : (all ps : List Part) (k : ℕ) → listed_among all (drop k ps) ≤ listed_among all ps
unfolding listed_among
listed_drop all ps zero = omega arith
listed_drop all [] (suc k) = omega arith
listed_drop all (p ∷ ps) (suc k) = let h = listed_drop all ps k in omega arith

module _ {e a : List ℕ} {top : Container} {notes : List ℕ} {operations : ℕ} {roles : List ℕ} {roled : ℕ} (l : Layer e a top notes operations roles roled) where
  abbrev ps : List Part
  ps = parts l

  -- the items from k on are linked
  pub record Linking (names pins : List ℕ) (links k : ℕ) : Type 0 where
    pub inside : l.used * record_width ≤ length names
    pub named : (d : ℕ) → d < l.used → name_of l.file names d ≡ l.name d
    pub mains : (d : ℕ) → d < l.used → get_or names (d * record_width + main_word) 0 ≡ flag_word (has_main (l.name d) ps)
    pub room : links ≤ length pins / link_width
    pub count : links ≡ listed_among ps (drop k ps)
    pub chains : (d : ℕ) → d < l.used → has_main (l.name d) ps ≡ true → Chain pins links (get_or names (d * record_width + pin_word) 0) (numbers_from (a_pin_of (l.name d)) k (drop k ps))

  pub linking_start : {names pins : List ℕ} → Marked l names (length ps) → Linking names pins 0 top.items
  unfolding listed_among numbers_from
  linking_start {names} {pins} g =
      let many = parts_many l in
      let none : drop top.items ps ≡ [] = drop_of_length-le ps {i = top.items} (omega arith) in
      record {
        inside = g.inside;
        named = g.named;
        mains = λ d u. g.mains d u ∙ ap (λ (x : List Part). flag_word (has_main (l.name d) x)) (take-length ps);
        room = omega arith;
        count = sym (ap (listed_among ps) none);
        chains = λ d u h. rw (g.free d u, none) end;
      }

  pub linking_end : {names pins : List ℕ} {links : ℕ} → Linking names pins links 0 → Links l names pins true
  linking_end {names} {pins} {links} w = record {
    is = sym (le-leb (listed_pins ps) (length pins / link_width) (let r = w.room in let q = w.count in omega arith));
    linked = λ z. record { inside = w.inside; named = w.named; links = links; room = w.room; chains = w.chains };
  }

  module _ (sound : Sound l) {names pins : List ℕ} {links k : ℕ} (w : Linking names pins links (suc k)) (h : k < length ps) {s : Seen} (seen : SeenIs l k s) where
    abbrev p : Part
    p = at ps k

    -- what a pin is noted by: the designator of a pin that has a main has a record that says so
    pub data Asked (d : ℕ) : Bool → Type 0 where
      listed : {i : ℕ} → d ≡ suc i → i < l.used → l.name i ≡ designator p → is_pin p.role ≡ true → has_main (l.name i) ps ≡ true → Asked d true
      not_listed : (is_pin p.role and has_main (designator p) ps) ≡ false → Asked d false

    asked_as : (r : Role) (n : Note) → p.role ≡ r → Means l.file l.name l.used n p.texts → lacks_as r p.texts ≡ false →
        Asked (pin_as r n) (eqb (word_of names (pin_as r n) main_word) 1)
    unfolding pin_as word_of lacks_as is_pin is_held designator designator_as ◌and◌
    asked_as Main n e m held = not_listed (ap (λ (r : Role). is_pin r and has_main (designator p) ps) e)
    asked_as Outline n e m held = not_listed (ap (λ (r : Role). is_pin r and has_main (designator p) ps) e)
    asked_as Other n e m held = not_listed (ap (λ (r : Role). is_pin r and has_main (designator p) ps) e)
    asked_as Pin n e m held = go n.pin p.texts.pin m.pin refl held
      where
        go : (d : ℕ) (v : Value) → Denotes l.name l.used d v → p.texts.pin ≡ v → not (is_held v) ≡ false → Asked d (eqb (word_of names d main_word) 1)
        go zero v hearing.nothing q held = absurd (false≢true (sym held))
        go (suc i) v (one u f) q held = told (has_main (l.name i) ps) refl
          where
            same : l.name i ≡ designator p
            same = f ∙ ap (field 0) (sym q) ∙ sym (ap (λ (r : Role). designator_as r p.texts) e)

            told : (t : Bool) → has_main (l.name i) ps ≡ t → Asked (suc i) (eqb (word_of names (suc i) main_word) 1)
            told true z = subst (Asked (suc i)) (sym (ap (λ (x : ℕ). eqb x 1) (w.mains i u) ∙ flag_one (has_main (l.name i) ps) ∙ z)) (listed refl u same (ap is_pin e) z)
            told false z =
                subst (Asked (suc i)) (sym (ap (λ (x : ℕ). eqb x 1) (w.mains i u) ∙ flag_one (has_main (l.name i) ps) ∙ z))
                (not_listed (ap (λ (r : Role). is_pin r and has_main (designator p) ps) e ∙ ap (λ (x : List ℕ). has_main x ps) (sym same) ∙ z))

    pub asked_is : Asked (pin_as s.role s.note) (eqb (word_of names (pin_as s.role s.note) main_word) 1)
    unfolding lacks
    asked_is =
        subst (λ (r : Role). Asked (pin_as r s.note) (eqb (word_of names (pin_as r s.note) main_word) 1)) (sym seen.role)
        (asked_as p.role s.note refl seen.means (sound.held k h))

    -- a pin of this designator or not
    pin_of : (d : List ℕ) (t : Bool) → same_bytes (designator p) d ≡ t → is_pin p.role ≡ true → a_pin_of d p ≡ t
    unfolding a_pin_of ◌and◌
    pin_of d t f e = (λ i. e i and f i)

    not_pin : (d : List ℕ) → (is_pin p.role and has_main (designator p) ps) ≡ false → has_main d ps ≡ true → a_pin_of d p ≡ false
    unfolding a_pin_of
    not_pin d none has = go (a_pin_of d p) refl
      where
        go : (t : Bool) → a_pin_of d p ≡ t → t ≡ false
        go true q =
            let same = same_is (designator p) d (and_r _ _ q) in
            let pin = and_l (is_pin p.role) _ q in
            absurd (false≢true (sym none ∙ and_i _ _ pin (ap (λ (x : List ℕ). has_main x ps) same ∙ has)))
        go false q = refl

    -- an item that is no pin of a main
    pub linking_skips : {d : ℕ} → Asked d false → Linking names pins links k
    linking_skips (not_listed none) = record {
      inside = w.inside;
      named = w.named;
      mains = w.mains;
      room = w.room;
      count = let c = w.count in let q = listed_here ps ps k h in let z : ◌≡◌ {A = ℕ} (cond (is_pin p.role and has_main (designator p) ps) 1 0) 0 = ap {B = ℕ} (λ (t : Bool). cond t 1 0) none in omega arith;
      chains = λ d u has. rw (numbers_skip (a_pin_of (l.name d)) ps k h (not_pin (l.name d) none has)) (w.chains d u has);
    }

    -- a pin of a main, with room for it
    one_here : (i : ℕ) → l.name i ≡ designator p → is_pin p.role ≡ true → has_main (l.name i) ps ≡ true → ◌≡◌ {A = ℕ} (cond (is_pin p.role and has_main (designator p) ps) 1 0) 1
    one_here i same pin has = ap (λ (t : Bool). cond t 1 0) (and_i _ _ pin (ap (λ (x : List ℕ). has_main x ps) (sym same) ∙ has))

    other_name : (i j : ℕ) → i < l.used → j < l.used → l.name i ≡ designator p → (j ≡ i → ⊥) → same_bytes (designator p) (l.name j) ≡ false
    other_name i j u v same ne = go (same_bytes (designator p) (l.name j)) refl
      where
        go : (t : Bool) → same_bytes (designator p) (l.name j) ≡ t → t ≡ false
        go true f = absurd (ne (sym (l.distinct i j u v (same ∙ same_is (designator p) (l.name j) f))))
        go false f = refl

    module _ (room : links < length pins / link_width) (i : ℕ) (u : i < l.used) (same : l.name i ≡ designator p) (pin : is_pin p.role ≡ true)
        (has : has_main (l.name i) ps ≡ true) where
      abbrev names_now : List ℕ
      names_now = with_word names (suc i) pin_word (links + 1)

      abbrev pins_now : List ℕ
      pins_now = with_link pins links k (word_of names (suc i) pin_word)

      chain_here : Chain pins_now (suc links) (get_or names_now (i * record_width + pin_word) 0) (numbers_from (a_pin_of (l.name i)) k (drop k ps))
      unfolding word_of
      chain_here =
          rw (
            set_here names i pin_word (links + 1) (omega arith) (omega arith) (let n = w.inside in omega arith),
            add-one links,
            numbers_add (a_pin_of (l.name i)) ps k h (pin_of (l.name i) true (ap (same_bytes (designator p)) same ∙ same_refl (designator p)) pin),
          )
          (chain_grows (link_stays pins links k (word_of names (suc i) pin_word) room) (link_number pins links k (word_of names (suc i) pin_word) room)
          (link_next pins links k (word_of names (suc i) pin_word) room) (w.chains i u has))

      chain_there : (j : ℕ) → j < l.used → has_main (l.name j) ps ≡ true → (j ≡ i → ⊥) →
          Chain pins_now (suc links) (get_or names_now (j * record_width + pin_word) 0) (numbers_from (a_pin_of (l.name j)) k (drop k ps))
      chain_there j v z ne =
          rw (
            set_elsewhere names i pin_word (links + 1) (omega arith) (omega arith) j ne,
            numbers_skip (a_pin_of (l.name j)) ps k h (pin_of (l.name j) false (other_name i j u v same ne) pin),
          )
          (chain_stays (link_stays pins links k (word_of names (suc i) pin_word) room) (w.chains j v z))

      linking_more : Linking names_now pins_now (suc links) k
      linking_more = record {
        inside = let long = set_long names i pin_word (links + 1) (omega arith) (omega arith) in let n = w.inside in omega arith;
        named = λ j v. set_name names i pin_word (links + 1) (omega arith) (omega arith) l.file j ∙ w.named j v;
        mains = λ j v. set_other names i pin_word (links + 1) (omega arith) (omega arith) j main_word (omega arith) (λ (z : main_word ≡ pin_word). omega arith) ∙ w.mains j v;
        room = let long = link_long pins links k (word_of names (suc i) pin_word) in rw long (omega arith);
        count = let n = w.count in let q = listed_here ps ps k h in let z = one_here i same pin has in omega arith;
        chains = λ j v z. by_number_lem j v z (eqb j i) refl;
      }
        where
          by_number_lem : (j : ℕ) → j < l.used → has_main (l.name j) ps ≡ true → (t : Bool) → eqb j i ≡ t →
              Chain pins_now (suc links) (get_or names_now (j * record_width + pin_word) 0) (numbers_from (a_pin_of (l.name j)) k (drop k ps))
          by_number_lem j v z true f =
              subst (λ (x : ℕ). Chain pins_now (suc links) (get_or names_now (x * record_width + pin_word) 0) (numbers_from (a_pin_of (l.name x)) k (drop k ps)))
              (sym (eqb-true j i f)) chain_here
          by_number_lem j v z false f = chain_there j v z (eqb-false j i f)

    pub linking_adds : {d : ℕ} → Asked d true → links < length pins / link_width → {names' pins' : List ℕ} → pins' ≡ with_link pins links k (word_of names d pin_word) →
        names' ≡ with_word names d pin_word (links + 1) → Linking names' pins' (links + 1) k
    linking_adds (listed {i = i} q u same pin has) room e f =
        rw (e, f, q)
        (subst (λ (x : ℕ). Linking (with_word names (suc i) pin_word (links + 1)) (with_link pins links k (word_of names (suc i) pin_word)) x k) (sym (add-one links))
        (linking_more room i u same pin has))

    -- there is no room for it
    pub linking_full : {d : ℕ} → Asked d true → length pins / link_width ≤ links → {names' : List ℕ} → Links l names' pins false
    linking_full {d} (listed {i = i} q u same pin has) full = record {
      is = sym (lt-leb (listed_pins ps) (length pins / link_width) (let c = w.count in let n = listed_here ps ps k h in let z = one_here i same pin has in let m = listed_drop ps ps k in omega arith));
      linked = λ z. absurd (false≢true z);
    }

  -- the item before the first of those that are linked, as the pass meets it
  module _ (sound : Sound l) {names pins : List ℕ} {links k : ℕ} (w : Linking names pins links k) (some : 0 < k) (low : k ≤ top.items) {s : Seen} (seen : SeenIs l (k - 1) s)
      {d : ℕ} (noted : d ≡ pin_as s.role s.note) {b : ℕ} (says : b ≡ word_of names d main_word) where
    behind : Linking names pins links (suc (k - 1))
    behind = subst (λ (x : ℕ). Linking names pins links x) (let q : k ≡ suc (k - 1) = omega arith in q) w

    here : k - 1 < length ps
    here = let m = parts_many l in omega arith

    asked : (t : Bool) → eqb b 1 ≡ t → Asked sound behind here seen d t
    asked t e =
        subst (λ (x : ℕ). Asked sound behind here seen x t) (sym noted)
        (subst (λ (x : Bool). Asked sound behind here seen (pin_as s.role s.note) x)
        (sym (ap (λ (x : ℕ). eqb (word_of names x main_word) 1) noted) ∙ sym (ap (λ (x : ℕ). eqb x 1) says) ∙ e)
        (asked_is sound behind here seen))

    pub meets_other : (b ≡ 1 → ⊥) → Linking names pins links (k - 1)
    meets_other ne = linking_skips sound behind here seen (asked false (ne_eqb b 1 ne))

    pub meets_pin : b ≡ 1 → links < length pins / link_width → {names' pins' : List ℕ} → pins' ≡ with_link pins links (k - 1) (word_of names d pin_word) →
        names' ≡ with_word names d pin_word (links + 1) → Linking names' pins' (links + 1) (k - 1)
    meets_pin e = linking_adds sound behind here seen (asked true (eq-eqb b 1 e))

    pub meets_full : b ≡ 1 → length pins / link_width ≤ links → {names' : List ℕ} → Links l names' pins false
    meets_full e = linking_full sound behind here seen (asked true (eq-eqb b 1 e))
