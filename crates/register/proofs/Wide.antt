-- Records of two words, read and changed as the records of eight that they stand for.
-- Assumes nothing.
use Prim.Native.Nat.{ℕ, suc, ◌+◌, ◌*◌, ◌/◌, ◌%◌, ◌≤◌, ◌<◌}
use mathlib.Core.Path.{◌≡◌, refl, sym, ap, ◌∙◌}
use mathlib.Core.Bool.{Bool, true, false, cond}
use mathlib.Core.List.{List, [], ◌∷◌}
use native.Mathlib.Nat.{zero-add}
use native.Mathlib.Omega.{arith}
use lib.Dec.{eqb, ltb}
use lib.ListN.{length, get_or, set, length-set}
use lib.Seq.{get_or-set_same, get_or-set_other, slice}
use borrow.Author.Tests.{eqb-true, eqb-false, ltb-true, ltb-false, lt-ltb, le-ltb}
use Rattle.base.proofs.Run.{length_copies, nth_copies}
use Rattle.index.specs.Tree.{link_word}
use Rattle.index.specs.Names.{name_of}
use Rattle.tables.specs.Added.{has_room, added}
use Rattle.sheet.specs.Records.{stored}
use Rattle.sheet.proofs.Stored.{stored_below, stored_above, stored_at, stored_long}
use Rattle.register.specs.Wide.{half, widened, wide, name_words, relinked}

-- lists that are as long and the same at each place are the same
pub same_list : (l m : List ℕ) → length l ≡ length m → ((i : ℕ) → i < length l → get_or l i 0 ≡ get_or m i 0) → l ≡ m
same_list [] [] e h = refl
same_list [] (y ∷ m) e h = absurd (let z : 0 ≡ suc (length m) = e in omega arith)
same_list (x ∷ l) [] e h = absurd (let z : suc (length l) ≡ 0 = e in omega arith)
same_list (x ∷ l) (y ∷ m) e h =
    let z : suc (length l) ≡ suc (length m) = e in
    λ i. h 0 (omega arith) i ∷ same_list l m (omega arith) (λ j lj. h (suc j) (omega arith)) i

widened_long : (s : List ℕ) (i : ℕ) → length (widened s i) ≡ 8
unfolding widened
widened_long s i = refl

pub wide_long : (s : List ℕ) → length (wide s) ≡ length s / 2 * 8
unfolding wide
wide_long s = length_copies (widened s) 8 0 (length s / 2) (λ i l. widened_long s (0 + i))

pub wide_word : (s : List ℕ) (k : ℕ) → k < length s / 2 * 8 → get_or (wide s) k 0 ≡ get_or (widened s (k / 8)) (k % 8) 0
unfolding wide
wide_word s k l = nth_copies (widened s) 8 0 (length s / 2) (λ i l. widened_long s (0 + i)) 0 k l ∙ ap (λ i. get_or (widened s i) (k % 8) 0) (zero-add (k / 8))

pub wide_at : (s : List ℕ) (i k : ℕ) → i < length s / 2 → k < 8 → get_or (wide s) (i * 8 + k) 0 ≡ get_or (widened s i) k 0
wide_at s i k l h =
    let d : (i * 8 + k) / 8 ≡ i = omega arith in
    let m : (i * 8 + k) % 8 ≡ k = omega arith in
    rw (d, m) at (wide_word s (i * 8 + k) (omega arith))

-- ---- one record changed

-- every other record is as it was
abbrev Others : List ℕ → List ℕ → ℕ → Type 0
Others s t i = (a : ℕ) → (a ≡ i → ⊥) → widened t a ≡ widened s a

module _ (s t : List ℕ) (i : ℕ) (long : length t ≡ length s) (room : i < length s / 2) (others : Others s t i) where
  -- word j of another record
  other_word : (j : ℕ) → j < length s / 2 * 8 → (j / 8 ≡ i → ⊥) → get_or (wide t) j 0 ≡ get_or (wide s) j 0
  other_word j l n = wide_word t j (rw long l) ∙ ap (λ w. get_or w (j % 8) 0) (others (j / 8) n) ∙ sym (wide_word s j l)

  -- word k of this one
  this_word : (k : ℕ) → k < 8 → get_or (wide t) (i * 8 + k) 0 ≡ get_or (widened t i) k 0
  this_word k h = wide_at t i k (rw long room) h

  as_long : length (wide t) ≡ length (wide s)
  as_long = wide_long t ∙ ap (λ n. n / 2 * 8) long ∙ sym (wide_long s)

  -- in one word
  pub wide_set : (c new : ℕ) → c < 8 → widened t i ≡ set (widened s i) c new → wide t ≡ set (wide s) (i * 8 + c) new
  wide_set c new h here = same_list (wide t) (set (wide s) (i * 8 + c) new) (as_long ∙ sym (length-set (wide s) (i * 8 + c) new))
      (λ j lj. let l : j < length s / 2 * 8 = omega (arith, wide_long s, as_long) in go j l (eqb (j / 8) i) (eqb (j % 8) c) refl refl)
    where
      place : (j : ℕ) → eqb (j / 8) i ≡ true → j ≡ i * 8 + j % 8
      place j p = let e = eqb-true (j / 8) i p in omega arith

      go : (j : ℕ) → j < length s / 2 * 8 → (x y : Bool) → eqb (j / 8) i ≡ x → eqb (j % 8) c ≡ y → get_or (wide t) j 0 ≡ get_or (set (wide s) (i * 8 + c) new) j 0
      go j l true true p q =
          let k = eqb-true (j % 8) c q in
          let e : j ≡ i * 8 + c = place j p ∙ ap (λ k. i * 8 + k) k in
          rw e (this_word c h ∙ ap (λ w. get_or w c 0) here ∙ get_or-set_same (widened s i) c new 0 (omega (arith, widened_long s i))
          ∙ sym (get_or-set_same (wide s) (i * 8 + c) new 0 (omega (arith, wide_long s))))
      go j l true false p q =
          let k = eqb-false (j % 8) c q in
          let e = place j p in
          let n : i * 8 + j % 8 ≡ i * 8 + c → ⊥ = λ x. k (omega arith) in
          rw e (this_word (j % 8) (omega arith) ∙ ap (λ w. get_or w (j % 8) 0) here ∙ get_or-set_other (widened s i) c (j % 8) new 0 k
          ∙ sym (get_or-set_other (wide s) (i * 8 + c) (i * 8 + j % 8) new 0 n ∙ wide_at s i (j % 8) room (omega arith)))
      go j l false y p q =
          let n = eqb-false (j / 8) i p in
          other_word j l n ∙ sym (get_or-set_other (wide s) (i * 8 + c) j new 0 (λ (x : j ≡ i * 8 + c). n (omega arith)))

  -- in all of them
  pub wide_stored : (w : List ℕ) → length w ≡ 8 → widened t i ≡ w → wide t ≡ stored (wide s) (i * 8) w
  wide_stored w eight here = same_list (wide t) (stored (wide s) (i * 8) w) (as_long ∙ sym (stored_long (wide s) (i * 8) w fits))
      (λ j lj. let l : j < length s / 2 * 8 = omega (arith, wide_long s, as_long) in go j l (eqb (j / 8) i) (ltb j (i * 8)) refl refl)
    where
      fits : i * 8 + length w ≤ length (wide s)
      fits = omega (arith, wide_long s, eight)

      behind : (j : ℕ) → (j < i * 8 + 8 → ⊥) → i * 8 + length w ≤ j
      behind j m = omega (arith, eight, m)

      go : (j : ℕ) → j < length s / 2 * 8 → (x y : Bool) → eqb (j / 8) i ≡ x → ltb j (i * 8) ≡ y → get_or (wide t) j 0 ≡ get_or (stored (wide s) (i * 8) w) j 0
      go j l true y p q =
          let d = eqb-true (j / 8) i p in
          let e : j ≡ i * 8 + j % 8 = omega arith in
          rw e (this_word (j % 8) (omega arith) ∙ ap (λ w. get_or w (j % 8) 0) here ∙ sym (stored_at (wide s) (i * 8) w fits (j % 8) (omega (arith, eight))))
      go j l false true p q = other_word j l (eqb-false (j / 8) i p) ∙ sym (stored_below (wide s) (i * 8) w fits j (ltb-true j (i * 8) q))
      go j l false false p q =
          let n = eqb-false (j / 8) i p in
          let b = ltb-false j (i * 8) q in
          let m : j < i * 8 + 8 → ⊥ = λ x. n (omega arith) in
          other_word j l n ∙ sym (stored_above (wide s) (i * 8) w fits j (behind j m))

-- ---- a link, and a record more

-- a word of record i set anew leaves the others
word_others : (s : List ℕ) (i p v : ℕ) → p / 2 ≡ i → Others s (set s p v) i
unfolding widened
word_others s i p v e a n =
    let first = get_or-set_other s p (a * 2) v 0 (λ (x : a * 2 ≡ p). n (omega arith)) in
    let second = get_or-set_other s p (a * 2 + 1) v 0 (λ (x : a * 2 + 1 ≡ p). n (omega arith)) in
    rw (first, second)

module _ (s : List ℕ) (i : ℕ) (room : i < length s / 2) where
  module _ (new : ℕ) (small : new < half) where
    relinked_here : (high : Bool) → widened (set s (i * 2 + 1) (relinked high (get_or s (i * 2 + 1) 0) new)) i ≡ set (widened s i) (cond high 7 6) new
    unfolding widened relinked
    relinked_here true =
        let links = get_or s (i * 2 + 1) 0 in
        let v = links / half * half + new in
        let name = get_or-set_other s (i * 2 + 1) (i * 2) v 0 (λ (x : i * 2 ≡ i * 2 + 1). omega arith) in
        let here = get_or-set_same s (i * 2 + 1) v 0 (omega arith) in
        let low : v / half ≡ links / half = omega arith in
        let high : v % half ≡ new = omega arith in
        rw (name, here, low, high)
    relinked_here false =
        let links = get_or s (i * 2 + 1) 0 in
        let v = new * half + links % half in
        let name = get_or-set_other s (i * 2 + 1) (i * 2) v 0 (λ (x : i * 2 ≡ i * 2 + 1). omega arith) in
        let here = get_or-set_same s (i * 2 + 1) v 0 (omega arith) in
        let low : v / half ≡ new = omega arith in
        let high : v % half ≡ links % half = omega arith in
        rw (name, here, low, high)

    side : (high : Bool) → cond high 7 6 < 8
    side true = omega arith
    side false = omega arith

    pub wide_relinked : (high : Bool) → wide (set s (i * 2 + 1) (relinked high (get_or s (i * 2 + 1) 0) new)) ≡ set (wide s) (link_word i high) new
    unfolding link_word
    wide_relinked high =
        let v = relinked high (get_or s (i * 2 + 1) 0) new in
        wide_set s (set s (i * 2 + 1) v) i (length-set s (i * 2 + 1) v) room (word_others s i (i * 2 + 1) v (omega arith)) (cond high 7 6) new (side high) (relinked_here high)

  module _ (from to : ℕ) (far : to < half) where
    abbrev name : ℕ
    name = from * half + to

    abbrev renamed : List ℕ
    renamed = set (set s (i * 2) name) (i * 2 + 1) 0

    named_here : widened renamed i ≡ name_words from to
    unfolding widened name_words
    named_here =
        let long = length-set s (i * 2) name in
        let first = get_or-set_other (set s (i * 2) name) (i * 2 + 1) (i * 2) 0 0 (λ (x : i * 2 ≡ i * 2 + 1). omega arith) ∙ get_or-set_same s (i * 2) name 0 (omega arith) in
        let second = get_or-set_same (set s (i * 2) name) (i * 2 + 1) 0 0 (omega arith) in
        let begins : name / half ≡ from = omega arith in
        let ends : name % half ≡ to = omega arith in
        rw (first, second, begins, ends)

    named_others : Others s renamed i
    named_others a n = word_others (set s (i * 2) name) i (i * 2 + 1) 0 (omega arith) a n ∙ word_others s i (i * 2) name (omega arith) a n

    pub wide_named : wide renamed ≡ stored (wide s) (i * 8) (name_words from to)
    unfolding name_words
    wide_named = wide_stored s renamed i (length-set (set s (i * 2) name) (i * 2 + 1) 0 ∙ length-set s (i * 2) name) room named_others (name_words from to) refl named_here

-- ---- room

room_is : (s : List ℕ) → length (wide s) / 8 ≡ length s / 2
room_is s = omega (arith, wide_long s)

pub has_room_lem : (s : List ℕ) (used : ℕ) → has_room (wide s) used ≡ ltb used (length s / 2)
unfolding has_room
has_room_lem s used = ap (ltb used) (room_is s)

-- the record that is put, and the link that leads to it
pub wide_added : (s : List ℕ) (used at from to : ℕ) (high : Bool) → used < length s / 2 → length s / 2 ≤ half → at ≤ used → to < half →
    let r = set (set s (used * 2) (from * half + to)) (used * 2 + 1) 0 in
    wide (set r (at * 2 + 1) (relinked high (get_or r (at * 2 + 1) 0) used)) ≡ added (wide s) used (link_word at high) (name_words from to)
unfolding added
wide_added s used at from to high room small below far =
    let r = set (set s (used * 2) (from * half + to)) (used * 2 + 1) 0 in
    let long : length r ≡ length s = length-set (set s (used * 2) (from * half + to)) (used * 2 + 1) 0 ∙ length-set s (used * 2) (from * half + to) in
    let yes : has_room (wide s) used ≡ true = has_room_lem s used ∙ lt-ltb _ _ room in
    rw yes (wide_relinked r at (omega arith) used (omega arith) high ∙ ap (λ w. set w (link_word at high) used) (wide_named s used room from to far))

pub wide_full : (s : List ℕ) (used link : ℕ) (w : List ℕ) → length s / 2 ≤ used → wide s ≡ added (wide s) used link w
unfolding added
wide_full s used link w full = let no : has_room (wide s) used ≡ false = has_room_lem s used ∙ le-ltb _ _ full in rw no

-- ---- a record read

module _ (s : List ℕ) (i : ℕ) (l : i < length s / 2) where
  pub led_high : get_or s (i * 2 + 1) 0 % half ≡ get_or (wide s) (link_word i true) 0
  unfolding link_word widened
  led_high = sym (wide_at s i 7 l (omega arith))

  pub led_low : get_or s (i * 2 + 1) 0 / half ≡ get_or (wide s) (link_word i false) 0
  unfolding link_word widened
  led_low = sym (wide_at s i 6 l (omega arith))

  pub name_is : (file : List ℕ) → slice (get_or s (i * 2) 0 / half) (get_or s (i * 2) 0 % half) file ≡ name_of file (wide s) i
  unfolding name_of widened
  name_is file =
      let z : i * 8 + 0 ≡ i * 8 = omega arith in
      λ j. slice (sym (rw z at (wide_at s i 0 l (omega arith))) j) (sym (wide_at s i 1 l (omega arith)) j) file

-- records in use lie in the room
pub inside : (s : List ℕ) (used : ℕ) → used * 8 ≤ length (wide s) → used ≤ length s / 2
inside s used h = omega (arith, wide_long s)
