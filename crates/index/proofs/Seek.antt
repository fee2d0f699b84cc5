-- The laws of a search: where it stands, what it finds, and that a record linked at its end is found from then on.
-- Assumes nothing.
use Rattle.std.specs.Prelude.{Err, Ok, Result, ℕ}
use Prim.Native.Nat.{ℕ, zero, suc, ◌+◌, ◌*◌, ◌-◌, ◌≤◌, ◌<◌}
use mathlib.Core.Path.{◌≡◌, refl, sym, ap, ◌∙◌}
use mathlib.Core.Bool.{Bool, true, false, cond}
use mathlib.Core.List.{List}
use mathlib.Core.Logic.{⊎_elim}
use native.Mathlib.Nat.{eq-or-lt_of_le}
use native.Mathlib.Omega.{arith}
use lib.Dec.{eqb}
use lib.ListN.{length, get_or, set}
use lib.Seq.{get_or-set_same, get_or-set_other}
use borrow.Author.Tests.{eqb-true, eqb-false, eq-eqb, ne_eqb}
use Rattle.index.specs.First.{first_of}
use Rattle.index.specs.Tree.{record_width, is_high, bits_above, link_word, link_of, next, last_link}
use Rattle.index.specs.Indexed.{Leads, here, on, Indexed}

-- what a test picks, where only one record is picked, and where none is
module _ (is : ℕ → Bool) (other : Result ℕ ℕ) where
  pub first_none : (i n : ℕ) → ((j : ℕ) → i ≤ j → j < i + n → is j ≡ true → ⊥) → first_of is i n other ≡ other
  unfolding first_of
  first_none i zero none = refl
  first_none i (suc n) none = go (is i) refl (first_none (suc i) n (λ j l h. none j (omega arith) (omega arith)))
    where
      go : (t : Bool) → is i ≡ t → first_of is (suc i) n other ≡ other → elim t [ true ↦ Ok i | false ↦ first_of is (suc i) n other ] ≡ other
      go true e rest = absurd (none i (omega arith) (omega arith) e)
      go false e rest = rest

  pub first_at_lem : (i n j : ℕ) → i ≤ j → j < i + n → is j ≡ true → ((m : ℕ) → m < i + n → is m ≡ true → m ≡ j) → first_of is i n other ≡ Ok j
  unfolding first_of
  first_at_lem i zero j l h e one = absurd (omega arith)
  first_at_lem i (suc n) j l h e one = go (is i) refl (λ k. first_at_lem (suc i) n j k (omega arith) e (λ m g. one m (omega arith)))
    where
      go : (t : Bool) → is i ≡ t → (i < j → first_of is (suc i) n other ≡ Ok j) → ◌≡◌ {A = Result ℕ ℕ} (elim t [ true ↦ Ok i | false ↦ first_of is (suc i) n other ]) (Ok j)
      go true f rest = ap Ok (one i (omega arith) f)
      go false f rest = ⊎_elim
          (λ (q : i ≡ j). let z : true ≡ false = sym e ∙ ap is (sym q) ∙ f in absurd (let w : ◌≡◌ {A = ℕ} 0 1 = cc in omega arith))
          rest
          (eq-or-lt_of_le l)

-- the search for a key `first` stands at record `at`: from there it comes to each record that the test picks, and ends where it would from the first
pub record Seeking (s : List ℕ) (is : ℕ → Bool) (used first key at : ℕ) : Type 0 where
  pub standing : at < used
  pub comes : (j : ℕ) → j < used → is j ≡ true → Leads s key at j
  pub ends : last_link s used at key ≡ last_link s used 0 first

-- a step of a search, to a record known by another name
leads_by : (s : List ℕ) (key i n j : ℕ) → next s i key ≡ n → 0 < n → Leads s (bits_above key) n j → Leads s key i j
leads_by s key i n j e h l =
    let p : 0 < next s i key = rw e h in
    let q : Leads s (bits_above key) (next s i key) j = rw e l in
    on {key = key} {i = i} {j = j} p q

-- where the search leads on from a record that the test does not pick
leads_on : {s : List ℕ} {key i j : ℕ} (is : ℕ → Bool) → is i ≡ false → is j ≡ true → Leads s key i j → (0 < next s i key) × Leads s (bits_above key) (next s i key) j
leads_on is f e here = absurd (let w : ◌≡◌ {A = ℕ} 0 1 = cc in omega arith)
leads_on is f e (on h l) = (h, l)

-- one step of the search for the last link
module _ (s : List ℕ) (n i key : ℕ) where
  last_on : 0 < next s i key → last_link s (suc n) i key ≡ last_link s n (next s i key) (bits_above key)
  unfolding last_link
  last_on h = rw (ne_eqb (next s i key) 0 (λ (z : next s i key ≡ 0). omega arith), last_link)

  last_stop : next s i key ≡ 0 → last_link s (suc n) i key ≡ link_of i key
  unfolding last_link
  last_stop z = rw (eq-eqb (next s i key) 0 z, last_link)

module _ {s : List ℕ} {key_of : ℕ → ℕ} {used : ℕ} (t : Indexed s key_of used) where
  -- steps enough for the records that are left are enough
  pub last_enough : (n m i key : ℕ) → i < used → used ≤ i + n → used ≤ i + m → last_link s n i key ≡ last_link s m i key
  unfolding last_link
  last_enough zero m i key l h k = absurd (omega arith)
  last_enough (suc n) zero i key l h k = absurd (omega arith)
  last_enough (suc n) (suc m) i key l h k =
      go (eqb (next s i key) 0) refl
      (λ p. let w = t.later i key l p in last_enough n m (next s i key) (bits_above key) w.1 (omega arith) (omega arith))
    where
      go : (b : Bool) → eqb (next s i key) 0 ≡ b → (0 < next s i key → last_link s n (next s i key) (bits_above key) ≡ last_link s m (next s i key) (bits_above key)) →
          ◌≡◌ {A = ℕ} (elim b [ true ↦ link_of i key | false ↦ last_link s n (next s i key) (bits_above key) ])
          (elim b [ true ↦ link_of i key | false ↦ last_link s m (next s i key) (bits_above key) ])
      go true e rest = refl
      go false e rest = rest (let q = eqb-false (next s i key) 0 e in omega arith)

  -- a search for a key begins at record 0
  pub seek_start : (is : ℕ → Bool) (key : ℕ) → 0 < used → ((j : ℕ) → is j ≡ true → key_of j ≡ key) → Seeking s is used key key 0
  seek_start is key l same = record { standing = l; comes = λ j h e. rw (same j e) at (t.found j h); ends = refl }

  module _ {is : ℕ → Bool} {first key at : ℕ} (k : Seeking s is used first key at) (f : is at ≡ false) where
    pub seek_on : 0 < next s at key → Seeking s is used first (bits_above key) (next s at key)
    seek_on h =
        let w = t.later at key k.standing h in
        let e : used ≡ suc (used - 1) = omega arith in
        record {
          standing = w.1;
          comes = λ j l p. (leads_on is f p (k.comes j l p)).1;
          ends = last_enough used (used - 1) (next s at key) (bits_above key) w.1 (omega arith) (omega arith)
              ∙ sym (rw (← e) at (last_on s (used - 1) at key h)) ∙ k.ends;
        }

    -- a search that leads nowhere finds nothing, and there is where a new record goes
    pub seek_none : (other : Result ℕ ℕ) → next s at key ≡ 0 → first_of is 0 used other ≡ other
    seek_none other z = first_none is other 0 used (λ j l h e. let w = (leads_on is f e (k.comes j (omega arith) e)).0 in omega arith)

    pub seek_end : next s at key ≡ 0 → link_of at key ≡ last_link s used 0 first
    seek_end z =
        let l = k.standing in
        let e : used ≡ suc (used - 1) = omega arith in
        sym (rw (← e) at (last_stop s (used - 1) at key z)) ∙ k.ends

-- the search stands at a record, and the record leads on by the link in a word
pub record Standing (s : List ℕ) (is : ℕ → Bool) (used first key at link : ℕ) : Type 0 where
  pub seeking : Seeking s is used first key at
  pub leading : link ≡ link_of at key

-- what the word holds: where the search goes on, and that it ends there where that is nowhere
module _ {s : List ℕ} {key_of : ℕ → ℕ} {used : ℕ} (t : Indexed s key_of used) {is : ℕ → Bool} {first key at link to : ℕ}
    (v : Standing s is used first key at link) (e : to ≡ get_or s link 0) where
  led : to ≡ next s at key
  led = e ∙ ap (λ i. get_or s i 0) v.leading

  pub led_later : (to ≡ 0 → ⊥) → (at < to) × (to < used)
  led_later z = let some : 0 < to = omega arith in rw (← led) at (t.later at key v.seeking.standing (rw (← led) some))

  pub led_on : is at ≡ false → (to ≡ 0 → ⊥) → Seeking s is used first (bits_above key) to
  led_on f z = let some : 0 < to = omega arith in rw led (seek_on t v.seeking f (rw (← led) some))

  pub led_nowhere : is at ≡ false → to ≡ 0 → Err link ≡ first_of is 0 used (Err (last_link s used 0 first))
  led_nowhere f z =
      let none = sym led ∙ z in
      ap Err (v.leading ∙ seek_end t v.seeking f none) ∙ sym (seek_none t v.seeking f _ none)

-- ---- a record more

-- a list with the link w, which led nowhere, leading to record `new`
module _ (s : List ℕ) (w new : ℕ) (free : get_or s w 0 ≡ 0) where
  -- what led on before does so still
  pub next_kept : (i key : ℕ) → 0 < next s i key → next (set s w new) i key ≡ next s i key
  next_kept i key h = get_or-set_other s w (link_of i key) new 0 (λ (q : link_of i key ≡ w). let z : next s i key ≡ 0 = ap (λ x. get_or s x 0) q ∙ free in omega arith)

  pub leads_kept : {key i j : ℕ} → Leads s key i j → Leads (set s w new) key i j
  leads_kept here = here
  leads_kept {key} {i} {j} (on h l) =
      leads_by (set s w new) key i (next s i key) j (next_kept i key h) h (leads_kept l)

-- a word that is a link of one of the records in use
pub record LinkBelow (used w : ℕ) : Type 0 where
  pub of : ℕ
  pub for : ℕ
  pub is : w ≡ link_of of for
  pub low : of < used

pub link_words : (i key : ℕ) → (i * record_width + 6 ≤ link_of i key) × (link_of i key ≤ i * record_width + 7)
unfolding link_word
link_words i key = go (is_high key)
  where
    go : (b : Bool) → (i * record_width + 6 ≤ i * record_width + cond b 7 6) × (i * record_width + cond b 7 6 ≤ i * record_width + 7)
    go true = (omega arith, omega arith)
    go false = (omega arith, omega arith)

pub link_place : {used w : ℕ} → LinkBelow used w → w < used * record_width
link_place k = let p = link_words k.of k.for in let q = k.is in let l = k.low in omega arith

-- it is none of the first six words of a record
pub link_other : {used w : ℕ} → LinkBelow used w → (j r : ℕ) → r < 6 → j * record_width + r ≡ w → ⊥
link_other k j r h e = let p = link_words k.of k.for in let q = k.is in omega arith

-- the search for a key comes to the record that is linked where it ended
module _ {s : List ℕ} {key_of : ℕ → ℕ} {used : ℕ} (t : Indexed s key_of used) (new : ℕ) (some : 0 < new) where
  pub last_free : (n i key : ℕ) → i < used → used ≤ i + n → get_or s (last_link s n i key) 0 ≡ 0
  unfolding last_link
  last_free zero i key l h = absurd (omega arith)
  last_free (suc n) i key l h =
      go (eqb (next s i key) 0) refl
      (λ p. let v = t.later i key l p in last_free n (next s i key) (bits_above key) v.1 (omega arith))
    where
      go : (b : Bool) → eqb (next s i key) 0 ≡ b → (0 < next s i key → get_or s (last_link s n (next s i key) (bits_above key)) 0 ≡ 0) →
          get_or s (elim b [ true ↦ link_of i key | false ↦ last_link s n (next s i key) (bits_above key) ]) 0 ≡ 0
      go true e rest = eqb-true (next s i key) 0 e
      go false e rest = rest (let q = eqb-false (next s i key) 0 e in omega arith)

  pub last_is : (n i key : ℕ) → i < used → used ≤ i + n → LinkBelow used (last_link s n i key)
  unfolding last_link
  last_is zero i key l h = absurd (omega arith)
  last_is (suc n) i key l h =
      go (eqb (next s i key) 0) refl
      (λ p. let v = t.later i key l p in last_is n (next s i key) (bits_above key) v.1 (omega arith))
    where
      go : (b : Bool) → eqb (next s i key) 0 ≡ b → (0 < next s i key → LinkBelow used (last_link s n (next s i key) (bits_above key))) →
          LinkBelow used (elim b [ true ↦ link_of i key | false ↦ last_link s n (next s i key) (bits_above key) ])
      go true e rest = record { of = i; for = key; is = refl; low = l }
      go false e rest = rest (let q = eqb-false (next s i key) 0 e in omega arith)

  -- from record i on, the search comes to the new record
  pub leads_new : (n i key : ℕ) → i < used → used ≤ i + n → (w : ℕ) → w ≡ last_link s n i key → Leads (set s w new) key i new
  unfolding last_link
  leads_new zero i key l h w q = absurd (omega arith)
  leads_new (suc n) i key l h w q =
      go (eqb (next s i key) 0) refl q
      (λ p. let v = t.later i key l p in leads_new n (next s i key) (bits_above key) v.1 (omega arith) w)
    where
      inside : w < length s
      inside = let k = link_place (last_is (suc n) i key l h) in omega (arith, t.inside)

      free : get_or s w 0 ≡ 0
      free = rw q (last_free (suc n) i key l h)

      go : (b : Bool) → eqb (next s i key) 0 ≡ b → w ≡ elim b [ true ↦ link_of i key | false ↦ last_link s n (next s i key) (bits_above key) ] →
          (0 < next s i key → w ≡ last_link s n (next s i key) (bits_above key) → Leads (set s w new) (bits_above key) (next s i key) new) → Leads (set s w new) key i new
      go true e q rest =
          let f : next (set s w new) i key ≡ new = ap (λ x. get_or (set s w new) x 0) (sym q) ∙ get_or-set_same s w new 0 inside in
          leads_by (set s w new) key i new new f some here
      go false e q rest =
          let p : 0 < next s i key = let z = eqb-false (next s i key) 0 e in omega arith in
          let f : next (set s w new) i key ≡ next s i key = next_kept s w new free i key p in
          leads_by (set s w new) key i (next s i key) new f p (rest p q)
