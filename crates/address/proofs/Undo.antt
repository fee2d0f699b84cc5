-- What the call for an address answers, handed to the call for its item, gives the item again; and the other way round.
-- Assumes nothing.
use Rattle.std.specs.Prelude.{None, Option, Some, ℕ}
use Prim.Native.Nat.{ℕ, ◌<◌}
use mathlib.Core.Path.{◌≡◌, refl, sym, ap, ◌∙◌}
use mathlib.Core.Bool.{Bool, true, false, cond}
use mathlib.Core.List.{List, []}
use native.Mathlib.Omega.{arith}
use lib.Dec.{ltb}
use lib.ListN.{length, replicate}
use borrow.Author.Tests.{ltb-true, lt-ltb, eq-eqb, ne_eqb}
use Rattle.sheet.specs.Meaning.{sheet_items}
use Rattle.sheet.specs.Valid.{valid}
use Rattle.law_addresses.specs.Addresses.{sheet_addresses, place_of}
use Rattle.law_addresses.proofs.Matched.{as_many, place_of_address, address_at_place}
use Rattle.address.specs.Answers.{reply_as, reply_of}
use Rattle.address.specs.declared.Reply.{Reply}
use Rattle.address.specs.Addressed.{address_number, address_words}
use Rattle.address.proofs.AddressedAnswers.{there}
use Rattle.address.specs.Again.{item_again, address_again}

module _ (head e a : List ℕ) where
  abbrev total : ℕ
  total = length (sheet_items head e a)

  abbrev all : List (List ℕ)
  all = sheet_addresses head e a

  -- address k names k
  names_it : valid head e a ≡ true → (k : ℕ) → k < total → reply_of head e a (address_words head e a k) ≡ record { number = 0; item = k }
  unfolding reply_of reply_as address_words
  names_it v k l =
      let many = as_many head e a v in
      rw (v, there all k (replicate 10 0) [] (omega arith), place_of_address head e a v k l)

  -- the address that is written for k names k
  pub item_back : (k : ℕ) → address_number head e a k ≡ 0 → reply_of head e a (address_words head e a k) ≡ item_again head e a k
  unfolding address_number item_again
  item_back k q = by_sheet (valid head e a) refl q
    where
      by_total : valid head e a ≡ true → (t : Bool) → ltb k total ≡ t → ◌≡◌ {A = ℕ} (cond t 0 20) 0 →
          reply_of head e a (address_words head e a k) ≡ cond t (record { number = 0; item = k }) (record { number = 20; item = 0 })
      by_total v true l n = names_it v k (ltb-true k total l)
      by_total v false l n = absurd (let z : ◌≡◌ {A = ℕ} 20 0 = n in omega arith)

      by_sheet : (t : Bool) → valid head e a ≡ t → ◌≡◌ {A = ℕ} (cond t (cond (ltb k total) 0 20) 21) 0 →
          reply_of head e a (address_words head e a k)
          ≡ cond t (cond (ltb k total) (record { number = 0; item = k }) (record { number = 20; item = 0 })) (record { number = 21; item = 0 })
      by_sheet true v n = by_total v (ltb k total) refl n
      by_sheet false v n = absurd (let z : ◌≡◌ {A = ℕ} 21 0 = n in omega arith)

  -- where no address is written, k is past the total or the store is no sheet
  pub item_none : (k : ℕ) → (address_number head e a k ≡ 0 → ⊥) → record { number = address_number head e a k; item = 0 } ≡ item_again head e a k
  unfolding address_number item_again
  item_none k ne = by_sheet (valid head e a) ne
    where
      by_total : (t : Bool) → (◌≡◌ {A = ℕ} (cond t 0 20) 0 → ⊥) →
          ◌≡◌ {A = Reply} (record { number = cond t 0 20; item = 0 }) (cond t (record { number = 0; item = k }) (record { number = 20; item = 0 }))
      by_total true ne = absurd (ne refl)
      by_total false ne = refl

      by_sheet : (t : Bool) → (◌≡◌ {A = ℕ} (cond t (cond (ltb k total) 0 20) 21) 0 → ⊥) →
          ◌≡◌ {A = Reply} (record { number = cond t (cond (ltb k total) 0 20) 21; item = 0 })
          (cond t (cond (ltb k total) (record { number = 0; item = k }) (record { number = 20; item = 0 })) (record { number = 21; item = 0 }))
      by_sheet true ne = by_total (ltb k total) ne
      by_sheet false ne = refl

  -- item n has the address that names it
  has_it : valid head e a ≡ true → (w : List ℕ) (n : ℕ) → place_of w all ≡ Some n → (address_number head e a n ≡ 0) × (address_words head e a n ≡ w)
  unfolding address_number address_words
  has_it v w n q =
      let many = as_many head e a v in
      let p = address_at_place head e a v w n q in
      let inside = p.0 in
      (rw (v, lt-ltb n total inside), rw v (there all n (replicate 10 0) [] (omega arith) ∙ p.1))

  -- what an address names has the address that is written for it
  pub address_back : (w : List ℕ) → (reply_of head e a w).number ≡ 0 →
      (address_number head e a (reply_of head e a w).item ≡ 0) × (address_words head e a (reply_of head e a w).item ≡ w)
  unfolding reply_of reply_as
  address_back w q = by_sheet (valid head e a) refl q
    where
      by_name_lem : valid head e a ≡ true → (x : Option ℕ) → place_of w all ≡ x → (reply_as x).number ≡ 0 →
          (address_number head e a (reply_as x).item ≡ 0) × (address_words head e a (reply_as x).item ≡ w)
      by_name_lem v (Some n) x n0 = has_it v w n x
      by_name_lem v None x n0 = absurd (let z : ◌≡◌ {A = ℕ} 32 0 = n0 in omega arith)

      by_sheet : (t : Bool) → valid head e a ≡ t → (cond t (reply_as (place_of w all)) (record { number = 21; item = 0 })).number ≡ 0 →
          (address_number head e a (cond t (reply_as (place_of w all)) (record { number = 21; item = 0 })).item ≡ 0)
          × (address_words head e a (cond t (reply_as (place_of w all)) (record { number = 21; item = 0 })).item ≡ w)
      by_sheet true v n = by_name_lem v (place_of w all) refl n
      by_sheet false v n = absurd (let z : ◌≡◌ {A = ℕ} 21 0 = n in omega arith)

  -- of what the calls answered
  pub item_told : (k n : ℕ) (w : List ℕ) (r : Reply) → n ≡ address_number head e a k → w ≡ address_words head e a k → n ≡ 0 → r ≡ reply_of head e a w → r ≡ item_again head e a k
  item_told k n w r number words none told = told ∙ ap (reply_of head e a) words ∙ item_back k (sym number ∙ none)

  pub item_refused : (k n : ℕ) → n ≡ address_number head e a k → (n ≡ 0 → ⊥) → record { number = n; item = 0 } ≡ item_again head e a k
  item_refused k n number some = ap (λ x. record { number = x; item = 0 }) number ∙ item_none k (λ q. some (number ∙ q))

  pub address_told : (w : List ℕ) (r : Reply) (n : ℕ) (out : List ℕ) → r ≡ reply_of head e a w → r.number ≡ 0 →
      n ≡ address_number head e a r.item → out ≡ address_words head e a r.item → (n ≡ (reply_of head e a w).number) × (out ≡ address_again head e a w)
  unfolding address_again
  address_told w r n out told none number words =
      let q : (reply_of head e a w).number ≡ 0 = ap (λ (x : Reply). x.number) (sym told) ∙ none in
      let back = address_back w q in
      let same = ap (λ (x : Reply). x.item) told in
      (number ∙ ap (address_number head e a) same ∙ back.0 ∙ sym q, words ∙ ap (address_words head e a) same ∙ back.1 ∙ rw (eq-eqb _ _ q))

  pub address_refused : (w : List ℕ) (r : Reply) → r ≡ reply_of head e a w → (r.number ≡ 0 → ⊥) →
      (r.number ≡ (reply_of head e a w).number) × (replicate 10 0 ≡ address_again head e a w)
  unfolding address_again
  address_refused w r told some =
      let same = ap (λ (x : Reply). x.number) told in
      (same, rw (ne_eqb _ _ (λ q. some (same ∙ q))))
