-- Each mark keeps what holds while a store is built: an aperture more, an item or a flash more, a block or a repeat opened.
-- Assumes nothing.
use Prim.Native.Nat.{ℕ, suc, ◌+◌, ◌-◌, ◌≤◌, ◌<◌}
use mathlib.Core.Path.{◌≡◌, refl, sym, ap, ◌∙◌}
use mathlib.Core.Bool.{Bool, true, false, false≢true}
use mathlib.Core.List.{List}
use native.Mathlib.Nat.{le_refl}
use native.Mathlib.Omega.{arith}
use lib.Dec.{eqb, ltb}
use borrow.Author.Tests.{le-leb, ltb-true, ltb-false}
use Rattle.base.specs.Run.{sums}
use Rattle.base.proofs.And.{and_i}
use Rattle.place.specs.Parts.{Parts, none, item}
use Rattle.place.specs.Mark.{Sheet, parts_of, put}
use Rattle.sheet.specs.Records.{entry_of, aperture_of, role_of, entry_room}
use Rattle.sheet.specs.Containers.{block_of}
use Rattle.sheet.specs.Meaning.{drawn}
use Rattle.sheet.specs.Valid.{is_block, ok_entry, size_as, size_of, ok_container, ok_block, block_length}
use Rattle.sheet.specs.declared.Aperture.{Aperture}
use Rattle.sheet.specs.declared.Entry.{Entry}
use Rattle.sheet.specs.declared.Role.TheVariants.{Draws, Repeats}
use Rattle.sheet.specs.Parts.{part_as, part_of, parts}
use Rattle.law_open_store.specs.Open.{Built}
use Rattle.law_open_store.proofs.Frame.{Agrees, block_kept, kept_parts, container_same}
use Rattle.law_open_store.proofs.Same.{opened_same}
use Rattle.law_open_store.proofs.Grow.{MayRise, stays_as_high, opened_grow}

draws_repeat_not : Draws ≡ Repeats → ⊥
draws_repeat_not q = let z : ◌≡◌ {A = ℕ} 0 1 = cc in omega arith

-- a block by its parts, and an aperture that is none
pub block_is : (e a : List ℕ) (closed n b : ℕ) → is_block a b ≡ true → 1 ≤ (block_of a b).height → (block_of a b).height ≤ 8 →
    ok_container e a closed n (block_of a b) ≡ true → ok_block e a closed n b ≡ true
unfolding ok_block
block_is e a closed n b q low high ok = simp q (and_i _ _ (and_i _ _ (le-leb _ _ low) (le-leb _ _ high)) ok)

pub block_none : (e a : List ℕ) (closed n b : ℕ) → is_block a b ≡ false → ok_block e a closed n b ≡ true
unfolding ok_block
block_none e a closed n b q = simp q

-- the same record is the same block, or none
pub same_kind : (a a' : List ℕ) (b : ℕ) → aperture_of a b ≡ aperture_of a' b → is_block a b ≡ is_block a' b
unfolding is_block
same_kind a a' b s = ap (λ (p : Aperture). eqb p.kind 6) s

pub same_block : (a a' : List ℕ) (b : ℕ) → aperture_of a b ≡ aperture_of a' b → block_of a b ≡ block_of a' b
unfolding block_of
same_block a a' b s = rw s

-- a block, in a store that agrees
module _ (e a : List ℕ) (room closed high n limit : ℕ) (blocks_ok : (b : ℕ) → b < n → ok_block e a closed n b ≡ true)
    (n' closed' : ℕ) (e' a' : List ℕ) (agree : Agrees room closed high n limit e a e' a') (more : n ≤ n') (longer : closed ≤ closed')
    (b : ℕ) (l : b < n) (same : aperture_of a b ≡ aperture_of a' b) where
  pub block_same : ok_block e' a' closed' n' b ≡ true
  block_same = go (is_block a b) refl
    where
      go : (t : Bool) → is_block a b ≡ t → ok_block e' a' closed' n' b ≡ true
      go true q =
          let k = block_kept e a closed n blocks_ok b l q in
          let s = same_block a a' b same in
          block_is e' a' closed' n' b (sym (same_kind a a' b same) ∙ q) (rw (← s) k.0.low) (rw (← s) k.1)
          (rw (← s) (container_same e a closed n blocks_ok room high limit n' closed' e' a' agree more longer (block_of a b) k.0.ok))
      go false q = block_none e' a' closed' n' b (sym (same_kind a a' b same) ∙ q)

  pub block_shows : is_block a b ≡ true → (h : ℕ) → parts e' a' h (block_of a' b) ≡ parts e a h (block_of a b)
  block_shows q h =
      let k = block_kept e a closed n blocks_ok b l q in
      rw (← same_block a a' b same) (sym (kept_parts e a closed n blocks_ok room high limit n' closed' e' a' agree more longer (block_of a b) k.0 h))

module _ (s : Sheet) (e a : List ℕ) (room n closed high start h t : ℕ) (built : Built s e a room n closed high start h t) where
  -- the same in a store that agrees, with apertures more that are no blocks
  pub built_same : (n' : ℕ) (e' a' : List ℕ) → Agrees room closed high n n e a e' a' → entry_room e' ≡ room → n ≤ n' →
      ((b : ℕ) → n ≤ b → b < n' → is_block a' b ≡ false) →
      ((b c : ℕ) → b < n' → c < n' → (aperture_of a' b).number ≡ (aperture_of a' c).number → b ≡ c) →
      sums (block_length a') 0 n' ≡ sums (block_length a) 0 n →
      Built s e' a' room n' closed high start h t
  built_same n' e' a' agree long more fresh distinct lengths = record {
    as_long = long;
    fits = built.fits;
    blocks_ok = λ b l. old_or_new (λ b. ok_block e' a' closed n' b ≡ true) b l
        (λ m. block_same e a room closed high n n built.blocks_ok n' closed e' a' agree more (le_refl _) b m (agree.same_open b m))
        (λ q. block_none e' a' closed n' b q);
    blocks_show = λ b l q. old_or_new (λ b. parts e' a' 8 (block_of a' b) ≡ parts_of (aperture_of a' b).number s.blocks) b l
        (λ m. let same = agree.same_open b m in
        block_shows e a room closed high n n built.blocks_ok n' closed e' a' agree more (le_refl _) b m same (same_kind a a' b same ∙ q) 8
        ∙ built.blocks_show b m (same_kind a a' b same ∙ q)
        ∙ ap (λ (p : Aperture). parts_of p.number s.blocks) same)
        (λ not-block. absurd (false≢true (sym not-block ∙ q)));
    distinct = distinct;
    bodies = built.bodies;
    lengths = ap (λ x. x + built.bodies) lengths ∙ built.lengths;
    opened = opened_same e a room closed high n n built.blocks_ok n' closed e' a' agree more (le_refl _)
        s.around s.here high start h t built.bodies n n' (le_refl _) (le_refl _) more built.opened;
  }
    where
      old_or_new : (P : ℕ → Type 0) (b : ℕ) → b < n' → (b < n → P b) → (is_block a' b ≡ false → P b) → P b
      old_or_new P b l old new = go (ltb b n) refl
        where
          go : (t : Bool) → ltb b n ≡ t → P b
          go true q = old (ltb-true b n q)
          go false q = new (fresh b (ltb-false b n q) l)

  -- an entry that opens nothing, where the stack ends
  pub built_grow : (h' : ℕ) (r : Entry) (ps : Parts) → entry_of e (room - suc high) ≡ r → closed + high < room → MayRise h h' → r.before ≡ t →
      (role_of r.kind ≡ Repeats → ⊥) → ok_entry a n h' r ≡ true → part_of a (parts e a 9) r ≡ ps →
      Built (put ps s) e a room n closed (suc high) start h' (t + size_of a r)
  unfolding put
  built_grow h' r ps at left may b unlike ok shows = record {
    as_long = built.as_long;
    fits = omega arith;
    blocks_ok = built.blocks_ok;
    blocks_show = built.blocks_show;
    distinct = built.distinct;
    bodies = built.bodies;
    lengths = built.lengths;
    opened = opened_grow e a room n h h' may r high at ok ps shows s.around s.here closed start t built.bodies n b unlike built.opened;
  }

  -- an item
  pub item_grow : (r : Entry) → entry_of e (room - suc high) ≡ r → closed + high < room → role_of r.kind ≡ Draws → r.before ≡ t → ok_entry a n h r ≡ true →
      Built (put (item (drawn r) none) s) e a room n closed (suc high) start h (t + 1)
  unfolding part_of part_as size_of size_as
  item_grow r at left role b ok =
      let size : size_of a r ≡ 1 = ap (λ x. size_as x a r) role in
      rw size at (built_grow h r (item (drawn r) none) at left (stays_as_high h) b (λ q. draws_repeat_not (sym role ∙ q)) ok (ap (λ x. part_as x a (parts e a 9) r) role))
