-- What stands open innermost says how high its container is, and so what is known around it.
-- Assumes nothing.
use Prim.Native.Nat.{ℕ, ◌-◌, ◌≤◌, ◌<◌}
use mathlib.Core.Path.{◌≡◌, refl}
use mathlib.Core.Bool.{Bool, true, false, cond}
use mathlib.Core.List.{List, [], ◌∷◌}
use native.Mathlib.Omega.{arith}
use lib.Dec.{eqb, leb}
use borrow.Author.Tests.{leb-true, leb-false, eqb-true, eqb-false}
use Rattle.graphics.specs.declared.Level.{Level}
use Rattle.law_open_store.specs.Open.{opener}
use Rattle.law_reading.specs.State.{Opened, block, repeat}
use Rattle.progress.specs.Levels.{level_at}
use Rattle.progress.specs.Around.{InBlock, InRepeat, Around}

module _ (h items depth copies sheet : ℕ) where
  pub inside_block : (level_at h items depth copies sheet).inside ≡ 1 → h ≤ 8
  unfolding level_at
  inside_block q = go (leb h 8) refl (eqb h 9) q
    where
      go : (x : Bool) → leb h 8 ≡ x → (y : Bool) → ◌≡◌ {A = ℕ} (cond x 1 (cond y 2 0)) 1 → h ≤ 8
      go true p y z = leb-true h 8 p
      go false p true z = absurd (omega arith)
      go false p false z = absurd (omega arith)

  pub inside_repeat : (level_at h items depth copies sheet).inside ≡ 2 → h ≡ 9
  unfolding level_at
  inside_repeat q = go (leb h 8) (eqb h 9) refl q
    where
      go : (x y : Bool) → eqb h 9 ≡ y → ◌≡◌ {A = ℕ} (cond x 1 (cond y 2 0)) 2 → h ≡ 9
      go true y p z = absurd (omega arith)
      go false true p z = eqb-true h 9 p
      go false false p z = absurd (omega arith)

  pub inside_top : (level_at h items depth copies sheet).inside ≡ 0 → (8 < h) × (h ≡ 9 → ⊥)
  unfolding level_at
  inside_top q = go (leb h 8) refl (eqb h 9) refl q
    where
      go : (x : Bool) → leb h 8 ≡ x → (y : Bool) → eqb h 9 ≡ y → ◌≡◌ {A = ℕ} (cond x 1 (cond y 2 0)) 0 → (8 < h) × (h ≡ 9 → ⊥)
      go true p y r z = absurd (omega arith)
      go false p true r z = absurd (omega arith)
      go false p false r z = (leb-false h 8 p, eqb-false h 9 r)

-- nothing is open around the top level
pub around_top : (e a : List ℕ) (room limit : ℕ) (os : List Opened) (start h depth copies sheet : ℕ) → 8 < h → (h ≡ 9 → ⊥) →
    Around e a room limit os start h depth copies sheet → (os ≡ []) × (start ≡ 0) × (h ≡ 10) × (depth ≡ 0)
unfolding Around
around_top e a room limit [] start h depth copies sheet l ne o = (refl, o.0, o.1, o.2)
around_top e a room limit (block n x ∷ os) start h depth copies sheet l ne o = let low = o.0.lower in absurd (omega arith)
around_top e a room limit (repeat x ∷ os) start h depth copies sheet l ne o = absurd (ne o.0.nine)

-- what is open, by the height of the container: a block, of height 8 at most
pub record AroundBlock (e a : List ℕ) (room limit : ℕ) (os : List Opened) (start h depth copies sheet : ℕ) : Type 0 where
  pub number : ℕ
  pub outer : Level
  pub others : List Opened
  pub is : os ≡ block number outer ∷ others
  pub here : InBlock a limit number outer (opener e room start) start h depth copies sheet
  pub rest : Around e a room (opener e room start).who others (opener e room start).sx (opener e room start).sy (depth - 1) copies sheet

pub around_block : (e a : List ℕ) (room limit : ℕ) (os : List Opened) (start h depth copies sheet : ℕ) → h ≤ 8 →
    Around e a room limit os start h depth copies sheet → AroundBlock e a room limit os start h depth copies sheet
unfolding Around
around_block e a room limit [] start h depth copies sheet l o = let ten = o.1 in absurd (omega arith)
around_block e a room limit (block n x ∷ os) start h depth copies sheet l o = record { number = n; outer = x; others = os; is = refl; here = o.0; rest = o.1 }
around_block e a room limit (repeat x ∷ os) start h depth copies sheet l o = let nine = o.0.nine in absurd (omega arith)

-- the body of a repeat, of height 9
pub record AroundRepeat (e a : List ℕ) (room limit : ℕ) (os : List Opened) (start h depth copies sheet : ℕ) : Type 0 where
  pub outer : Level
  pub others : List Opened
  pub is : os ≡ repeat outer ∷ others
  pub here : InRepeat outer (opener e room start) start h depth copies sheet
  pub rest : Around e a room limit others 0 10 0 1 0

pub around_repeat : (e a : List ℕ) (room limit : ℕ) (os : List Opened) (start h depth copies sheet : ℕ) → h ≡ 9 →
    Around e a room limit os start h depth copies sheet → AroundRepeat e a room limit os start h depth copies sheet
unfolding Around
around_repeat e a room limit [] start h depth copies sheet l o = let ten = o.1 in absurd (omega arith)
around_repeat e a room limit (block n x ∷ os) start h depth copies sheet l o = let low = o.0.lower in absurd (omega arith)
around_repeat e a room limit (repeat x ∷ os) start h depth copies sheet l o = record { outer = x; others = os; is = refl; here = o.0; rest = o.1 }
