-- What is counted, with more items: the level that reading knows is the one that the builder's numbers give.
-- Assumes nothing.
use Prim.Native.Nat.{ℕ, ◌+◌, ◌≤◌, ◌<◌}
use mathlib.Core.Path.{◌≡◌, refl, sym}
use mathlib.Core.Bool.{Bool, true, false, cond}
use native.Mathlib.Nat.{add-zero}
use native.Mathlib.Omega.{arith}
use lib.Dec.{eqb, leb}
use borrow.Author.Tests.{eqb-true, eqb-false, leb-true, leb-false, le-leb, lt-leb, le-ltb, lt-ltb}
use Rattle.graphics.specs.declared.Level.{Level}
use Rattle.operation_rules.specs.Counts.{most, counted}
use Rattle.build.specs.Builder.{raised}
use Rattle.law_reading.specs.Levels.{higher, raised_to, with_items}
use Rattle.progress.specs.Levels.{level_at, Counted}
use Rattle.progress.proofs.Levels.{block_level, repeat_level, top_level_lem}

-- with the items of a step that is counted
pub items_counted : (l : Level) (n h : ℕ) → Counted l → counted l n ≤ most → Counted (with_items n h l)
unfolding with_items counted
items_counted l n h c k = record { within = rw (add-zero (l.items + n)) k; before = c.before; some = c.some }

higher_none : (h : ℕ) → higher h 0 ≡ h
unfolding higher
higher_none h = rw (le-ltb h 0 (omega arith))

-- items alone leave the height as it is
pub raised_none : (l : Level) → raised_to 0 l ≡ l.height
unfolding raised_to
raised_none l = go (eqb l.inside 1)
  where
    go : (t : Bool) → cond t (higher l.height 0) l.height ≡ l.height
    go true = higher_none l.height
    go false = refl

pub items_level : (h items depth copies sheet n : ℕ) → level_at h (items + n) depth copies sheet ≡ with_items n 0 (level_at h items depth copies sheet)
unfolding with_items level_at
items_level h items depth copies sheet n = λ i. record {
  inside = (level_at h items depth copies sheet).inside;
  items = items + n;
  height = sym (raised_none (level_at h items depth copies sheet)) i;
  depth = depth;
  copies = (level_at h items depth copies sheet).copies;
  sheet = (level_at h items depth copies sheet).sheet;
}

-- a flash of a block raises the block that it stands in, and nothing else
module _ (h k items depth copies sheet n : ℕ) (low : k ≤ 8) (lower : h ≤ 8 → k ≤ 7) where
  raised_high : k < h → raised h k ≡ h
  unfolding raised
  raised_high l = rw (lt-leb h k l)

  raised_low : h ≤ k → raised h k ≡ k + 1
  unfolding raised
  raised_low l = rw (le-leb h k l)

  pub flash_level : level_at (raised h k) (items + n) depth copies sheet ≡ with_items n (k + 1) (level_at h items depth copies sheet)
  unfolding with_items raised_to higher
  flash_level = go (leb h 8) refl (eqb h 9) refl (leb h k) refl
    where
      go : (a : Bool) → leb h 8 ≡ a → (b : Bool) → eqb h 9 ≡ b → (c : Bool) → leb h k ≡ c →
          level_at (raised h k) (items + n) depth copies sheet ≡ with_items n (k + 1) (level_at h items depth copies sheet)
      go true a b q true c =
          let l : h ≤ 8 = leb-true _ _ a in
          let m : h ≤ k = leb-true _ _ c in
          let seven = lower l in
          let less : h < k + 1 = omega arith in
          rw (raised_low m, block_level (k + 1) (items + n) depth copies sheet (omega arith), block_level h items depth copies sheet l, lt-ltb h (k + 1) less)
      go true a b q false c =
          let l : h ≤ 8 = leb-true _ _ a in
          let m : k < h = leb-false _ _ c in
          let less : k + 1 ≤ h = omega arith in
          rw (raised_high m, block_level h (items + n) depth copies sheet l, block_level h items depth copies sheet l, le-ltb h (k + 1) less)
      go false a true q c r =
          let nine : h ≡ 9 = eqb-true _ _ q in
          rw (raised_high (omega arith), repeat_level h (items + n) depth copies sheet nine, repeat_level h items depth copies sheet nine)
      go false a false q c r =
          let l : 8 < h = leb-false _ _ a in
          let ne : h ≡ 9 → ⊥ = eqb-false _ _ q in
          rw (raised_high (omega arith), top_level_lem h (items + n) depth copies sheet l ne, top_level_lem h items depth copies sheet l ne)
