-- What the calls answer of a store that is a sheet with these items, and of one that is none.
-- Assumes nothing.
use Rattle.std.specs.Prelude.{None, Some, Err}
use Prim.Native.Nat.{ℕ, ◌+◌, ◌-◌, ◌*◌, ◌/◌, ◌%◌, ◌≤◌, ◌<◌}
use mathlib.Core.Path.{◌≡◌, refl, sym, ap, ◌∙◌}
use mathlib.Core.Bool.{true, false}
use mathlib.Core.List.{List, [], ◌∷◌, ◌++◌, append-nil}
use native.Mathlib.Omega.{arith}
use lib.ListN.{length, take, replicate, length-append, length-replicate, replicate-append-replicate}
use lib.Seq.{take_at}
use borrow.Author.Tests.{lt-ltb, le-ltb}
use Rattle.base.specs.And.{◌and◌}
use Rattle.base.specs.Or.{◌or◌}
use Rattle.base.specs.Run.{run}
use Rattle.base.proofs.Run.{length_copies}
use Rattle.place.specs.declared.Item.{Item}
use Rattle.place.specs.Item.{item_width, zero_item}
use Rattle.place.specs.Mark.{Mark, plain}
use Rattle.sheet.specs.Containers.{top_of}
use Rattle.sheet.specs.Meaning.{sheet_items}
use Rattle.sheet.specs.Valid.{ok_head, valid}
use Rattle.sheet.proofs.Expand.{length_sheet}
use Rattle.descend.specs.Answers.{total_of, answer_of}
use Rattle.descend.specs.Slots.{item_words, slot, slots, fetch_of, fetch_number, fetched}
use Rattle.descend.proofs.Slots.{run_join, slots_past, slots_join}
use Rattle.lists.specs.Lists.{number_of, held, slot_of, listed, filled, batch_of}
use Rattle.lists.specs.declared.Batch.{Batch}
use Rattle.lists.proofs.Joined.{refused_zeroes}
use Rattle.law_addresses.specs.Addresses.{sheet_addresses, place_of}
use Rattle.law_addresses.specs.Marks.{addresses_of}
use Rattle.law_addresses.specs.Sought.{misses, sought_top_at, sought_top}
use Rattle.law_addresses.proofs.Matched.{as_many, place_is_sought, place_of_address}
use Rattle.address.specs.Answers.{reply_as, reply_of}
use Rattle.address.specs.declared.Reply.{Reply}
use Rattle.address.specs.Addressed.{address_number, address_words}
use Rattle.address.proofs.AddressedAnswers.{answer_is, answer_past}
use Rattle.demands.specs.Demands.{One, Run, Listed, Addressed}
use Rattle.descend.specs.declared.Unanswered.TheVariants as unanswered

-- the slots of so many words are so many words
slots_long : (ts : List Item) (k words : ℕ) → length (slots ts k words) ≡ words
unfolding slots slot item_words
slots_long ts k words =
    let a = length-append (run (slot ts) k (words / item_width)) (replicate (words % item_width) 0) in
    let b = length_copies (slot ts) item_width k (words / item_width) (λ i l. refl) in
    let c = length-replicate {A = ℕ} (words % item_width) 0 in
    omega arith

listed_long : (ts : List Item) (k n : ℕ) → length (listed ts k n) ≡ n
unfolding listed
listed_long ts k n = let a = length_copies (λ i. slot_of ts i ∷ []) 1 k n (λ i l. refl) in omega arith

-- words that runs left, and join
module _ (ts : List Item) (k next : ℕ) (f s w : List ℕ) (i j : ℕ) (from : next ≡ k + i) (f-long : length f ≡ i * item_width)
    (s-long : length s ≡ j * item_width) (w-long : length w ≡ (i + j) * item_width) where
  pub words_join : f ≡ slots ts k (length f) → s ≡ slots ts next (length s) → w ≡ slots ts k (length w) → f ++ s ≡ w
  words_join p q r =
      let a : f ≡ slots ts k (i * item_width) = p ∙ ap (slots ts k) f-long in
      let b : s ≡ slots ts (k + i) (j * item_width) = q ∙ (λ x. slots ts (from x) (s-long x)) in
      let c : w ≡ slots ts k ((i + j) * item_width) = r ∙ ap (slots ts k) w-long in
      (λ x. a x ++ b x) ∙ slots_join ts k i j ∙ sym c

-- lists that were handed back, and join
pub records_join : (ts : List Item) (k next : ℕ) (f s w : List Item) (n : ℕ) → n ≤ 8 → next ≡ k + n →
    f ≡ listed ts k n → s ≡ listed ts next (8 - n) → w ≡ listed ts k 8 → f ++ s ≡ w
unfolding listed
records_join ts k next f s w n l from p q r =
    let b : s ≡ listed ts (k + n) (8 - n) = q ∙ ap (λ x. listed ts x (8 - n)) from in
    let e : n + (8 - n) ≡ 8 = omega arith in
    (λ x. p x ++ b x) ∙ run_join (λ i. slot_of ts i ∷ []) k n (8 - n) ∙ ap (listed ts k) e ∙ sym r

module _ (head e a : List ℕ) (ts : List Item) (ok : valid head e a ≡ true) (are : sheet_items head e a ≡ ts) where
  pub total_is : total_of head e a ≡ Some (length ts)
  unfolding total_of
  total_is = rw (ok, are)

  pub one_is : (k : ℕ) → One ts k (answer_of head e a k)
  unfolding answer_of
  one_is k = record { is = λ l. rw (ok, are, lt-ltb k (length ts) l); past = λ l. rw (ok, are, le-ltb k (length ts) l) }

  pub run_is : (k words : ℕ) → Run ts k (fetch_of head e a k) (fetched head e a k words)
  unfolding fetch_of fetched
  run_is k words = record {
    done = λ l. rw (ok, are, lt-ltb k (length ts) l);
    past = λ l. rw (ok, are, le-ltb k (length ts) l);
    holds = rw (ok, are) (ap (slots ts k) (sym (slots_long ts k words)));
  }

  pub listed_is : (k m : ℕ) → Listed ts k m (batch_of head e a k m)
  unfolding batch_of number_of fetch_of fetch_number filled held
  listed_is k m = record {
    done = λ l. rw (ok, are, lt-ltb k (length ts) l);
    past = λ l. rw (ok, are, le-ltb k (length ts) l);
    holds = rw (ok, are) (take_at (listed ts k m) (replicate (8 - m) zero_item) m (listed_long ts k m));
  }

  -- eight are all that there are
  pub eight_is : (k : ℕ) → (batch_of head e a k 8).items ≡ listed ts k 8
  unfolding batch_of filled held
  eight_is k = rw (ok, are) (append-nil (listed ts k 8))

  -- zeros name nothing: positions count from 1
  zeros_nothing : place_of (replicate 10 0) (sheet_addresses head e a) ≡ None
  unfolding sought_top sought_top_at misses ◌or◌
  zeros_nothing = place_is_sought head e a ok (replicate 10 0) refl

-- and of one whose addresses are those of marks
module _ (head e a : List ℕ) (marks : List Mark) (ok : valid head e a ≡ true) (are : sheet_items head e a ≡ plain marks)
    (stand : sheet_addresses head e a ≡ addresses_of marks) where
  pub addressed_is : (k : ℕ) → Addressed marks k (address_number head e a k) (address_words head e a k) (reply_of head e a (address_words head e a k))
  unfolding address_words reply_of reply_as
  addressed_is k =
      let long : (top_of head).items ≡ length (plain marks) = sym (length_sheet head e a ok) ∙ ap length are in
      let all : length (sheet_items head e a) ≡ length (plain marks) = ap length are in
      record {
        done = λ l. sym (answer_is head e a k ok (omega arith) _ refl).0;
        past = λ l. sym (answer_past head e a k ok (omega arith)).0;
        is = rw (ok, stand);
        many = sym (ap length stand) ∙ as_many head e a ok ∙ all;
        back = λ l.
            let p = answer_is head e a k ok (omega arith) _ refl in
            ap (reply_of head e a) (sym p.1) ∙ rw (ok, place_of_address head e a ok k (omega arith));
        none = λ l. let p = answer_past head e a k ok (omega arith) in ap (reply_of head e a) (sym p.1) ∙ rw (ok, zeros_nothing head e a (plain marks) ok are);
      }

-- a head of zeros is no sheet's
pub zero_head : (head e a : List ℕ) → head ≡ replicate 8 0 → valid head e a ≡ false
unfolding valid ok_head ◌and◌
zero_head head e a z = rw z

module _ (head e a : List ℕ) (no : valid head e a ≡ false) where
  pub total_none : total_of head e a ≡ None
  unfolding total_of
  total_none = rw no

  pub one_none : (k : ℕ) → answer_of head e a k ≡ Err unanswered.NotSheet
  unfolding answer_of
  one_none k = rw no

  pub run_none : (k : ℕ) → fetch_of head e a k ≡ Err unanswered.NotSheet
  unfolding fetch_of
  run_none k = rw no

  pub words_none : (k words : ℕ) → fetched head e a k words ≡ replicate (length (fetched head e a k words)) 0
  unfolding fetched
  words_none k words = rw no (slots_past [] k words (omega arith) ∙ ap (λ n. replicate n 0) (sym (slots_long [] k words)))

  pub list_none : (k m : ℕ) → m ≤ 8 → batch_of head e a k m ≡ record { number = 21; items = replicate 8 zero_item }
  unfolding batch_of number_of fetch_of fetch_number
  list_none k m l =
      let z : number_of head e a k ≡ 21 = rw no in
      let q : m + (8 - m) ≡ 8 = omega arith in
      let items = (λ i. refused_zeroes head e a k m (λ y. absurd (let x : ◌≡◌ {A = ℕ} 0 21 = sym y ∙ z in omega arith)) i ++ replicate (8 - m) zero_item)
      ∙ replicate-append-replicate m (8 - m) zero_item ∙ ap (λ n. replicate n zero_item) q in
      λ i. record { number = z i; items = items i }

  pub address_none : (k : ℕ) → (address_number head e a k ≡ 21) × (address_words head e a k ≡ replicate 10 0)
  unfolding address_number address_words
  address_none k = (rw no, rw no)

  pub named_none : (w : List ℕ) → reply_of head e a w ≡ record { number = 21; item = 0 }
  unfolding reply_of
  named_none w = rw no
