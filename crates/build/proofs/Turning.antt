-- Entries swapped from both ends: i of them so far, and the outcome of the whole of it.
-- Assumes nothing.
use Prim.Native.Nat.{ℕ, suc, ◌+◌, ◌-◌, ◌*◌, ◌≤◌, ◌<◌}
use mathlib.Core.Path.{◌≡◌, refl, ap, ◌∙◌}
use mathlib.Core.Bool.{Bool, true, false}
use mathlib.Core.List.{List}
use mathlib.Core.Logic.{⊎_elim}
use native.Mathlib.Nat.{eq-or-lt_of_le}
use native.Mathlib.Omega.{arith}
use lib.Dec.{ltb}
use lib.ListN.{length}
use borrow.Author.Tests.{ltb-true, ltb-false}
use Rattle.sheet.specs.Records.{entry_width, entry_of, entry_room, entry_words, stored}
use Rattle.sheet.specs.declared.Entry.{Entry}
use Rattle.sheet.proofs.Stored.{entry_stored, entry_kept}
use Rattle.build.specs.Stack.{has_room, Turned}

-- the first i and the last i of the entries from lo up to hi have changed places
pub record Swapped (e e' : List ℕ) (lo hi i : ℕ) : Type 0 where
  pub as_long : length e' ≡ length e
  pub apart : lo + i + i ≤ hi
  pub lows : (k : ℕ) → k < i → entry_of e' (lo + k) ≡ entry_of e (hi - suc k)
  pub highs : (k : ℕ) → k < i → entry_of e' (hi - suc k) ≡ entry_of e (lo + k)
  pub inner : (p : ℕ) → lo + i ≤ p → p + i < hi → entry_of e' p ≡ entry_of e p
  pub below : (p : ℕ) → p < lo → entry_of e' p ≡ entry_of e p
  pub above : (p : ℕ) → hi ≤ p → entry_of e' p ≡ entry_of e p

pub swapped_none : (e : List ℕ) (lo hi : ℕ) → lo ≤ hi → Swapped e e lo hi 0
swapped_none e lo hi l = record {
  as_long = refl;
  apart = omega arith;
  lows = λ k l. absurd (omega arith);
  highs = λ k l. absurd (omega arith);
  inner = λ p l m. refl;
  below = λ p l. refl;
  above = λ p l. refl;
}

-- one pair more
module _ (e e' e'' : List ℕ) (lo hi i j : ℕ) (x y : Entry) (s : Swapped e e' lo hi i) (at_j : j ≡ hi - suc i) (apart : lo + i < j) (room : hi ≤ entry_room e)
    (x-is : x ≡ entry_of e' (lo + i)) (y-is : y ≡ entry_of e' j) (long : length e'' ≡ length e)
    (stores : e'' ≡ stored (stored e' ((lo + i) * entry_width) (entry_words y)) (j * entry_width) (entry_words x)) (mid : length (stored e' ((lo + i) * entry_width) (entry_words y)) ≡ length e') where
  first : List ℕ
  first = stored e' ((lo + i) * entry_width) (entry_words y)

  room_low : lo + i < entry_room e'
  room_low = let l = s.as_long in omega arith

  room_high : j < entry_room first
  unfolding first
  room_high = let l = s.as_long in omega arith

  other : (p : ℕ) → (p ≡ lo + i → ⊥) → (p ≡ j → ⊥) → entry_of e'' p ≡ entry_of e' p
  unfolding first
  other p a b = rw stores (entry_kept first j x room_high p b ∙ entry_kept e' (lo + i) y room_low p a)

  at_low : entry_of e'' (lo + i) ≡ y
  unfolding first
  at_low = rw stores (entry_kept first j x room_high (lo + i) (λ q. let z : lo + i ≡ j = q in absurd (omega arith)) ∙ entry_stored e' (lo + i) y room_low)

  at_high : entry_of e'' j ≡ x
  unfolding first
  at_high = rw stores (entry_stored first j x room_high)

  pub swapped_more : Swapped e e'' lo hi (i + 1)
  swapped_more =
      let far = s.apart in
      record {
        as_long = long;
        apart = omega arith;
        lows = λ k l. ⊎_elim
            (λ (q : k ≡ i). rw q (at_low ∙ y-is ∙ s.inner j (omega arith) (omega arith) ∙ ap (entry_of e) at_j))
            (λ (m : k < i). other (lo + k) (λ q. let z : lo + k ≡ lo + i = q in absurd (omega arith)) (λ q. let z : lo + k ≡ j = q in absurd (omega arith)) ∙ s.lows k m)
            (eq-or-lt_of_le (let t : k ≤ i = omega arith in t));
        highs = λ k l. ⊎_elim
            (λ (q : k ≡ i). rw (q, ← at_j) (at_high ∙ x-is ∙ s.inner (lo + i) (omega arith) (omega arith)))
            (λ (m : k < i). other (hi - suc k) (λ q. let z : hi - suc k ≡ lo + i = q in absurd (omega arith)) (λ q. let z : hi - suc k ≡ j = q in absurd (omega arith)) ∙ s.highs k m)
            (eq-or-lt_of_le (let t : k ≤ i = omega arith in t));
        inner = λ p l m. other p (λ q. let z : p ≡ lo + i = q in absurd (omega arith)) (λ q. let z : p ≡ j = q in absurd (omega arith)) ∙ s.inner p (omega arith) (omega arith);
        below = λ p l. other p (λ q. let z : p ≡ lo + i = q in absurd (omega arith)) (λ q. let z : p ≡ j = q in absurd (omega arith)) ∙ s.below p l;
        above = λ p l. other p (λ q. let z : p ≡ lo + i = q in absurd (omega arith)) (λ q. let z : p ≡ j = q in absurd (omega arith)) ∙ s.above p l;
      }

-- all n are swapped, or the two ends have met
pub turned_all : (e e' : List ℕ) (lo hi n : ℕ) → Swapped e e' lo hi n → Turned e e' lo hi n
turned_all e e' lo hi n s = record {
  as_long = s.as_long;
  below = s.below;
  above = s.above;
  turned = s.lows;
  left = λ i l m. s.highs i l;
  between = s.inner;
}

pub turned_met : (e e' : List ℕ) (lo hi n i : ℕ) → i ≤ n → lo + n ≤ hi → hi ≤ lo + i + i + 1 → Swapped e e' lo hi i → Turned e e' lo hi n
turned_met e e' lo hi n i less fit met s =
    let far = s.apart in
    record {
      as_long = s.as_long;
      below = s.below;
      above = s.above;
      turned = λ k l. go k l (ltb k i) refl;
      left = λ k l m. s.highs k (omega arith);
      between = λ p l m. s.inner p (omega arith) (omega arith);
    }
  where
    -- the entry from the other end that came to lie at lo + k
    mirror : (k : ℕ) → k < n → i ≤ k → (m : Bool) → ltb (hi - suc (lo + k)) i ≡ m → lo + i + i ≤ hi → entry_of e' (lo + k) ≡ entry_of e (hi - suc k)
    mirror k l ik true q far =
        let lt : hi - suc (lo + k) < i = ltb-true _ _ q in
        let p : lo + k ≡ hi - suc (hi - suc (lo + k)) = omega arith in
        let r : lo + (hi - suc (lo + k)) ≡ hi - suc k = omega arith in
        rw p (s.highs (hi - suc (lo + k)) lt ∙ rw r)
    mirror k l ik false q far =
        let ge : i ≤ hi - suc (lo + k) = ltb-false _ _ q in
        let p : lo + k ≡ hi - suc k = omega arith in
        s.inner (lo + k) (omega arith) (omega arith) ∙ ap (entry_of e) p

    go : (k : ℕ) → k < n → (t : Bool) → ltb k i ≡ t → entry_of e' (lo + k) ≡ entry_of e (hi - suc k)
    go k l true q = s.lows k (ltb-true k i q)
    go k l false q = mirror k l (ltb-false k i q) (ltb (hi - suc (lo + k)) i) refl s.apart

-- what a test that there is room says
pub room_left : (e : List ℕ) (closed high : ℕ) → has_room e closed high ≡ true → closed + high < entry_room e
unfolding has_room
room_left e closed high q = ltb-true _ _ q

-- the record below the stack's last
pub next_down : (e : List ℕ) (high : ℕ) → entry_room e - 1 - high ≡ entry_room e - suc high
next_down e high = omega arith
