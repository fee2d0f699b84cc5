-- A container has as many chains as items, and the chains of its entries stand one after the other.
-- Assumes nothing.
use Prim.Native.Nat.{ℕ, zero, suc, ◌+◌, ◌-◌, ◌*◌, ◌≤◌, ◌<◌}
use mathlib.Core.Path.{◌≡◌, refl, ap, ◌∙◌}
use mathlib.Core.Bool.{true}
use mathlib.Core.List.{List, [], ◌∷◌, map}
use native.Mathlib.Omega.{arith}
use lib.ListN.{length, get_or, length-map}
use Rattle.base.specs.Run.{sums}
use Rattle.base.proofs.Run.{length_run_by, nth_run_by, length_copies}
use Rattle.sheet.specs.Records.{entry_of, role_of}
use Rattle.sheet.specs.Containers.{apertures_used, block_of, body_of, top_of}
use Rattle.sheet.specs.Valid.{size_as, size_of, size_at, valid}
use Rattle.sheet.specs.declared.Entry.{Entry}
use Rattle.sheet.specs.declared.Container.{Container}
use Rattle.sheet.specs.declared.Role.{Role}
use Rattle.sheet.specs.declared.Role.TheVariants.{Draws, Uses, Repeats, Defines, Unknown}
use Rattle.sheet.proofs.Conditions.{entry_use}
use Rattle.sheet.proofs.Sound.{Under, top_sound, block_sound, use_under, repeat_under}
use Rattle.sheet.specs.Sound.{Sound}
use Rattle.law_addresses.specs.Positions.{span_at}
use Rattle.law_addresses.proofs.Fitting.{no_repeat}
use Rattle.law_addresses.specs.Chains.{chains_as, entry_chains, before, chains}
use Rattle.law_addresses.specs.Addresses.{raised, addresses_as, entry_addresses, sheet_addresses}

-- an entry has as many chains as items, where what it goes down into has
entry_chains_lem : (a : List ℕ) (h : ℕ) (below : Container → List (List ℕ)) (p : ℕ) (r : Entry) →
    (role_of r.kind ≡ Uses → length (below (block_of a r.who)) ≡ (block_of a r.who).items) →
    (role_of r.kind ≡ Repeats → ⊥) →
    length (entry_chains a h below p r) ≡ size_of a r
unfolding entry_chains size_of chains_as size_as
entry_chains_lem a h below p r used other = go (role_of r.kind) refl
  where
    go : (role : Role) → role_of r.kind ≡ role → length (chains_as role a h below p r) ≡ size_as role a r
    go Draws q = refl
    go Uses q = length-map (below (block_of a r.who)) _ ∙ used q
    go Repeats q = absurd (other q)
    go Defines q = refl
    go Unknown q = refl

-- the place of an entry in its container, from its place in the store
back : (p i : ℕ) → p + i - p ≡ i
back p i = omega arith

module _ (head e a : List ℕ) (v : valid head e a ≡ true) where
  -- a block that an entry uses is lower than 9
  pub used_low : (k : Container) (s : Sound head e a k) (i : ℕ) (l : i < k.len) → role_of (entry_of e (k.first + i)).kind ≡ Uses →
      Under head e a k (block_of a (entry_of e (k.first + i)).who) × ((block_of a (entry_of e (k.first + i)).who).height ≤ 9)
  used_low k s i l q = let u = use_under head e a v k s i l q in let lower = u.lower in let high = s.high in (u, omega arith)

  sizes_by : (h : ℕ) (k : Container) (s : Sound head e a k) → k.height ≤ 9 →
      ((u : Container) → Under head e a k u → u.height ≤ 9 → length (chains e a h u) ≡ u.items) →
      (p i : ℕ) → i < k.len → length (entry_chains a h (chains e a h) p (entry_of e (k.first + i))) ≡ size_at e a (k.first + i)
  sizes_by h k s low deeper p i l = entry_chains_lem a h (chains e a h) p (entry_of e (k.first + i))
      (λ q. let u = used_low k s i l q in deeper _ u.0 u.1)
      (no_repeat head e a v k s low i l)

  pub length_chains : (h : ℕ) (k : Container) → Sound head e a k → k.height ≤ 9 → k.height ≤ h → length (chains e a h k) ≡ k.items
  unfolding chains
  length_chains zero k s low l = let one = s.low in absurd (omega arith)
  length_chains (suc h) k s low l =
      length_run_by (λ i. entry_chains a h (chains e a h) (suc (before e k i)) (entry_of e i)) (size_at e a) k.first k.len
      (λ i. sizes_by h k s low (λ u d below. let m = d.lower in length_chains h u d.sound below (omega arith)) _ i)
      ∙ s.ok.items_are

  -- chain j of entry i is the chain at what the entries before it put out, and j
  pub chain_at : (h : ℕ) (k : Container) (s : Sound head e a k) → k.height ≤ 9 → k.height ≤ suc h → (i j : ℕ) → i < k.len → j < size_at e a (k.first + i) →
      get_or (chains e a (suc h) k) (sums (size_at e a) k.first i + j) []
      ≡ get_or (entry_chains a h (chains e a h) (suc (sums (span_at e) k.first i)) (entry_of e (k.first + i))) j []
  unfolding chains
  chain_at h k s low l i j li lj =
      nth_run_by (λ i. entry_chains a h (chains e a h) (suc (before e k i)) (entry_of e i)) (size_at e a) k.first k.len
      (λ i. sizes_by h k s low (λ u d below. let m = d.lower in length_chains h u d.sound below (omega arith)) _ i)
      [] i j li lj
      ∙ ap (λ n. get_or (entry_chains a h (chains e a h) (suc (sums (span_at e) k.first n)) (entry_of e (k.first + i))) j []) (back k.first i)

  -- the block that an entry of the top level uses
  pub used_block : (i : ℕ) → i < (top_of head).len → role_of (entry_of e ((top_of head).first + i)).kind ≡ Uses →
      Sound head e a (block_of a (entry_of e ((top_of head).first + i)).who) × ((block_of a (entry_of e ((top_of head).first + i)).who).height ≤ 8)
  used_block i l q =
      let u = entry_use a (apertures_used head) (top_of head).height _ ((top_sound head e a v).ok.each_ok i l) q in
      block_sound head e a v _ u.who_in u.block

  -- the body that one repeats
  pub body_nine : (r : Entry) → (body_of r).height ≡ 9
  unfolding body_of
  body_nine r = refl

  pub body_count : (r : Entry) → (body_of r).items ≡ r.count
  unfolding body_of
  body_count r = refl

  module _ (i : ℕ) (l : i < (top_of head).len) where
    abbrev entry : Entry
    entry = entry_of e ((top_of head).first + i)

    pub body_sound : role_of entry.kind ≡ Repeats → Sound head e a (body_of entry)
    body_sound q = (repeat_under head e a v (top_of head) (top_sound head e a v) i l q).sound

    pub length_body : role_of entry.kind ≡ Repeats → length (chains e a 9 (body_of entry)) ≡ entry.count
    length_body q = let nine = body_nine entry in length_chains 9 (body_of entry) (body_sound q) (omega arith) (omega arith) ∙ body_count entry

    pub length_plain : (b : ℕ) → (role_of entry.kind ≡ Repeats → ⊥) → length (entry_chains a 8 (chains e a 8) (suc b) entry) ≡ size_of a entry
    length_plain b other = entry_chains_lem a 8 (chains e a 8) (suc b) entry
        (λ q. let u = used_block i l q in let m = u.1 in length_chains 8 _ u.0 (omega arith) m) other

    entry_addresses_lem : (b : ℕ) → length (entry_addresses e a b entry) ≡ size_of a entry
    unfolding entry_addresses size_of addresses_as
    entry_addresses_lem b = go (role_of entry.kind) refl
      where
        copies_size : entry.sx * entry.sy * entry.count ≡ size_as Repeats a entry
        copies_size = unfold size_as in omega arith

        go : (role : Role) → role_of entry.kind ≡ role → length (addresses_as role e a b entry) ≡ size_as (role_of entry.kind) a entry
        go Draws q = length-map (entry_chains a 8 (chains e a 8) (suc b) entry) _ ∙ length_plain b (λ z. let c : ◌≡◌ {A = ℕ} 0 1 = cc in omega arith)
        go Uses q = length-map (entry_chains a 8 (chains e a 8) (suc b) entry) _ ∙ length_plain b (λ z. let c : ◌≡◌ {A = ℕ} 0 1 = cc in omega arith)
        go Repeats q = rw q (
            length_copies (λ copy. map (λ c. copy ∷ raised b c) (chains e a 9 (body_of entry))) entry.count 1 (entry.sx * entry.sy)
            (λ _ _. length-map (chains e a 9 (body_of entry)) _ ∙ length_body q)
            ∙ copies_size)
        go Defines q = rw q (unfold size_as in refl)
        go Unknown q = rw q (unfold size_as in refl)

  pub length_addresses : length (sheet_addresses head e a) ≡ (top_of head).items
  unfolding sheet_addresses
  length_addresses =
      length_run_by (λ i. entry_addresses e a (before e (top_of head) i) (entry_of e i)) (size_at e a) (top_of head).first (top_of head).len
      (λ i l. entry_addresses_lem i l _)
      ∙ (top_sound head e a v).ok.items_are

  pub address_at : (i j : ℕ) → i < (top_of head).len → j < size_at e a ((top_of head).first + i) →
      get_or (sheet_addresses head e a) (sums (size_at e a) (top_of head).first i + j) []
      ≡ get_or (entry_addresses e a (sums (span_at e) (top_of head).first i) (entry_of e ((top_of head).first + i))) j []
  unfolding sheet_addresses
  address_at i j li lj =
      nth_run_by (λ i. entry_addresses e a (before e (top_of head) i) (entry_of e i)) (size_at e a) (top_of head).first (top_of head).len
      (λ i l. entry_addresses_lem i l _)
      [] i j li lj
      ∙ ap (λ n. get_or (entry_addresses e a (sums (span_at e) (top_of head).first n) (entry_of e ((top_of head).first + i))) j []) (back (top_of head).first i)
