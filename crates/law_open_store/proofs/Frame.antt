-- Stores that agree on what is closed: an entry that is in order in one is in order in the other, and closed containers put out the same.
-- Assumes nothing.
use Prim.Native.Nat.{ℕ, suc, ◌+◌, ◌-◌, ◌≤◌, ◌<◌}
use mathlib.Core.Path.{◌≡◌, refl, sym, ap, ◌∙◌}
use mathlib.Core.Bool.{true}
use mathlib.Core.List.{List}
use native.Mathlib.Nat.{zero-add, le_refl}
use native.Mathlib.Omega.{arith}
use borrow.Author.Tests.{leb-true, le-leb, lt-ltb}
use Rattle.base.specs.Run.{sums}
use Rattle.base.proofs.And.{and_l, and_r, and_i}
use Rattle.base.proofs.Run.{sums_cong}
use Rattle.sheet.specs.Records.{entry_of, aperture_of, role_of}
use Rattle.sheet.specs.Containers.{block_of}
use Rattle.sheet.specs.Valid.{most, is_block, ok_use, ok_repeat, ok_role, ok_entry, size_as, size_of, size_at, ok_container, ok_block}
use Rattle.sheet.specs.declared.Aperture.{Aperture}
use Rattle.sheet.specs.declared.Entry.{Entry}
use Rattle.sheet.specs.declared.Container.{Container}
use Rattle.sheet.specs.declared.Role.{Role}
use Rattle.sheet.specs.declared.Role.TheVariants.{Draws, Uses, Repeats, Defines, Unknown}
use Rattle.sheet.proofs.Conditions.{use_ok, repeat_ok, entry_use, entry_repeat, container_ok}
use Rattle.sheet.proofs.Build.{ok_same, ok_run_lem, sums_from, parts_frame, parts_fuel}
use Rattle.sheet.specs.Open.{OpenOk}
use Rattle.sheet.specs.Parts.{parts}

-- the second store has the closed entries, the stack and the blocks of the first, and the apertures below `limit`
pub record Agrees (room closed high n limit : ℕ) (e a e' a' : List ℕ) : Type 0 where
  pub same_closed : (i : ℕ) → i < closed → entry_of e i ≡ entry_of e' i
  pub same_stack : (p : ℕ) → p < high → entry_of e (room - suc p) ≡ entry_of e' (room - suc p)
  pub same_blocks : (b : ℕ) → b < n → is_block a b ≡ true → aperture_of a b ≡ aperture_of a' b
  pub same_open : (b : ℕ) → b < limit → aperture_of a b ≡ aperture_of a' b

-- apertures that keep the blocks, in a container no lower than before
module _ (a a' : List ℕ) (n n' h h' : ℕ) (more : n ≤ n') (rises : h ≤ h') (tops : h ≡ 10 → h' ≡ 10)
    (same : (b : ℕ) → b < n → is_block a b ≡ true → aperture_of a b ≡ aperture_of a' b) where
  pub entry_ok : (r : Entry) → ok_entry a n h r ≡ true → ok_entry a' n' h' r ≡ true
  unfolding ok_entry ok_role ok_use is_block block_of
  entry_ok r ok = and_i _ _ (and_l _ _ ok) (go (role_of r.kind) (and_r _ _ ok))
    where
      used : ok_use a n h r ≡ true → ok_use a' n' h' r ≡ true
      used q =
          let u = use_ok a n h r q in
          let l = u.who_in in
          let low = u.lower in
          let s = same r.who l u.block in
          let l' : r.who < n' = omega arith in
          let low' : (aperture_of a r.who).height < h' = omega arith in
          and_i _ _ (lt-ltb _ _ l') (and_i _ _ (and_i _ _ (rw (← s) u.block) (rw (← s) (lt-ltb _ _ low'))) (and_r _ _ (and_r _ _ q)))

      repeated : ok_repeat h r ≡ true → ok_repeat h' r ≡ true
      repeated q = let ten = (repeat_ok h r q).at_top in rw (tops ten) (rw ten at q)

      go : (role : Role) → ok_role role a n h r ≡ true → ok_role role a' n' h' r ≡ true
      go Draws q = q
      go Uses q = used q
      go Repeats q = repeated q
      go Defines q = q
      go Unknown q = q

  pub entry_size : (r : Entry) → ok_entry a n h r ≡ true → size_of a r ≡ size_of a' r
  unfolding ok_entry ok_role size_of size_as block_of
  entry_size r ok = go (role_of r.kind) (and_r _ _ ok)
    where
      go : (role : Role) → ok_role role a n h r ≡ true → size_as role a r ≡ size_as role a' r
      go Draws q = refl
      go Uses q = let u = use_ok a n h r q in ap (λ (p : Aperture). p.items) (same r.who u.who_in u.block)
      go Repeats q = refl
      go Defines q = refl
      go Unknown q = refl

  pub open_ok : (f : ℕ → Entry) (len t : ℕ) → OpenOk a n h f len t → OpenOk a' n' h' f len t
  open_ok f len t o =
      let part : (m : ℕ) → m ≤ len → sums (λ i. size_of a (f i)) 0 m ≡ sums (λ i. size_of a' (f i)) 0 m =
      λ m lm. sums_cong (λ i. size_of a (f i)) (λ i. size_of a' (f i)) 0 m (λ i l. rw (zero-add i) (entry_size (f i) (o.each_ok i (omega arith)))) in
      record {
        each_ok = λ i l. entry_ok (f i) (o.each_ok i l);
        before_is = λ i l. o.before_is i l ∙ part i (omega arith);
        items_are = sym (part len (omega arith)) ∙ o.items_are;
      }

-- a closed container that repeats nothing
pub record Kept (e a : List ℕ) (closed n : ℕ) (k : Container) : Type 0 where
  pub low : 1 ≤ k.height
  pub high : k.height ≤ 9
  pub ok : ok_container e a closed n k ≡ true

-- a container in order, as its entries say it and back
pub container_open : (e a : List ℕ) (closed n : ℕ) (k : Container) → ok_container e a closed n k ≡ true →
    OpenOk a n k.height (λ i. entry_of e (k.first + i)) k.len k.items
container_open e a closed n k ok =
    let c = container_ok e a closed n k ok in
    record {
      each_ok = c.each_ok;
      before_is = λ i l. c.before_is i l ∙ sums_from (size_at e a) k.first i;
      items_are = sym (sums_from (size_at e a) k.first k.len) ∙ c.items_are;
    }

pub open_container : (e a : List ℕ) (closed n : ℕ) (k : Container) → k.first + k.len ≤ closed → k.items ≤ most →
    OpenOk a n k.height (λ i. entry_of e (k.first + i)) k.len k.items → ok_container e a closed n k ≡ true
unfolding ok_container
open_container e a closed n k inside small o = and_i _ _ (and_i _ _ (le-leb _ _ inside) (le-leb _ _ small)) (ok_run_lem e a n k o)

module _ (e a : List ℕ) (closed n : ℕ) (blocks_ok : (b : ℕ) → b < n → ok_block e a closed n b ≡ true) where
  -- a block is closed
  pub block_kept : (b : ℕ) → b < n → is_block a b ≡ true → Kept e a closed n (block_of a b) × ((block_of a b).height ≤ 8)
  unfolding ok_block
  block_kept b l q =
      let ok = simp q at (blocks_ok b l) in
      let high : (block_of a b).height ≤ 8 = leb-true _ _ (and_r _ _ (and_l _ _ ok)) in
      (record { low = leb-true _ _ (and_l _ _ (and_l _ _ ok)); high = omega arith; ok = and_r _ _ ok }, high)

  module _ (k : Container) (kept : Kept e a closed n k) (i : ℕ) (l : i < k.len) where
    uses_block : role_of (entry_of e (k.first + i)).kind ≡ Uses → Kept e a closed n (block_of a (entry_of e (k.first + i)).who) × ((block_of a (entry_of e (k.first + i)).who).height < k.height)
    uses_block q =
        let c = container_ok e a closed n k kept.ok in
        let u = entry_use a n k.height _ (c.each_ok i l) q in
        ((block_kept _ u.who_in u.block).0, u.lower)

    no_repeat : role_of (entry_of e (k.first + i)).kind ≡ Repeats → ⊥
    no_repeat q =
        let c = container_ok e a closed n k kept.ok in
        let ten = (entry_repeat a n k.height _ (c.each_ok i l) q).at_top in
        let high = kept.high in
        omega arith

  -- the height bounds the descent
  pub fuel : (k : Container) → Kept e a closed n k → (h h' : ℕ) → k.height ≤ h → k.height ≤ h' → parts e a h k ≡ parts e a h' k
  fuel k c h h' l l' = parts_fuel e a (Kept e a closed n) (λ k c. c.low)
      uses_block
      (λ k c i l q. absurd (no_repeat k c i l q))
      h h' k c l l'

  -- in a store that agrees, closed containers are closed, and put out the same
  module _ (room high limit n' closed' : ℕ) (e' a' : List ℕ) (agree : Agrees room closed high n limit e a e' a') (more : n ≤ n') (longer : closed ≤ closed') where
    pub kept_parts : (k : Container) → Kept e a closed n k → (h : ℕ) → parts e a h k ≡ parts e' a' h k
    unfolding block_of
    kept_parts k c h = parts_frame e a e' a' (Kept e a closed n)
        (λ k c i l. let inside = (container_ok e a closed n k c.ok).inside in agree.same_closed (k.first + i) (omega arith))
        uses_same
        (λ k c i l q. absurd (no_repeat k c i l q))
        h k c
      where
        uses_same : (k : Container) → Kept e a closed n k → (i : ℕ) → i < k.len → role_of (entry_of e (k.first + i)).kind ≡ Uses →
            Kept e a closed n (block_of a (entry_of e (k.first + i)).who) × (block_of a (entry_of e (k.first + i)).who ≡ block_of a' (entry_of e (k.first + i)).who)
        uses_same k c i l q =
            let o = container_ok e a closed n k c.ok in
            let u = entry_use a n k.height _ (o.each_ok i l) q in
            ((uses_block k c i l q).0, rw (agree.same_blocks _ u.who_in u.block))

    pub container_same : (k : Container) → ok_container e a closed n k ≡ true → ok_container e' a' closed' n' k ≡ true
    container_same k ok =
        let c = container_ok e a closed n k ok in
        let inside = c.inside in
        open_container e' a' closed' n' k (omega arith) c.small
        (ok_same a' n' k.height (λ i. entry_of e (k.first + i)) (λ i. entry_of e' (k.first + i)) k.len k.items
        (λ i l. agree.same_closed (k.first + i) (omega arith))
        (open_ok a a' n n' k.height k.height more (le_refl _) (λ q. q) agree.same_blocks _ _ _
        (container_open e a closed n k ok)))
