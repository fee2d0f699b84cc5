-- The level by the height of the container that is built, case by case; the count rule keeps its items few.
-- Assumes nothing.
use Prim.Native.Nat.{ℕ, ◌+◌, ◌*◌, ◌≤◌, ◌<◌}
use mathlib.Core.Path.{◌≡◌, ap}
use mathlib.Core.Bool.{Bool, true, false, cond}
use native.Mathlib.Nat.{mul-le-mul_right}
use native.Mathlib.Omega.{arith}
use lib.Dec.{eqb}
use borrow.Author.Tests.{le-leb, lt-leb, ne_eqb}
use Rattle.graphics.specs.Level.{repeat}
use Rattle.graphics.specs.declared.Level.{Level}
use Rattle.operation_rules.specs.Counts.{most, counted}
use Rattle.law_reading.specs.State.{State}
use Rattle.progress.specs.Lent.{Lent}
use Rattle.progress.specs.Levels.{level_at, level_of}
use Rattle.progress.specs.Knows.{Knows}
use Rattle.progress.specs.declared.Progress.{Progress}

module _ (h items depth copies sheet : ℕ) where
  pub block_level : h ≤ 8 → level_at h items depth copies sheet ≡ record { inside = 1; items = items; height = h; depth = depth; copies = 1; sheet = 0 }
  unfolding level_at
  block_level l = rw (le-leb h 8 l, ne_eqb h 9 (λ q. let z : h ≡ 9 = q in absurd (omega arith)))

  pub repeat_level : h ≡ 9 → level_at h items depth copies sheet ≡ record { inside = 2; items = items; height = 0; depth = depth; copies = copies; sheet = sheet }
  unfolding level_at
  repeat_level q = rw q

  pub top_level_lem : 8 < h → (h ≡ 9 → ⊥) → level_at h items depth copies sheet ≡ record { inside = 0; items = items; height = 0; depth = depth; copies = 1; sheet = 0 }
  unfolding level_at
  top_level_lem l ne = rw (lt-leb h 8 l, ne_eqb h 9 ne)

-- the items alone are within the count
pub items_few : (l : Level) (n : ℕ) → 1 ≤ l.copies → counted l n ≤ most → l.items + n ≤ most
unfolding counted
items_few l n some k = go (eqb l.inside repeat) k
  where
    go : (t : Bool) → cond t (l.sheet + l.copies * (l.items + n)) (l.items + n) ≤ most → l.items + n ≤ most
    go true k = let one = mul-le-mul_right (l.items + n) some in omega arith
    go false k = k

-- what reading knows keeps the items of the innermost container within the count
pub items_known : (w : Lent) (p : Progress) (s : State) → Knows w p s → p.builder.items ≤ most
unfolding level_of level_at
items_known w p s k =
    let same : p.builder.items ≡ s.level.items = ap (λ (l : Level). l.items) k.level in
    let few = items_few s.level 0 k.counts.some k.counts.within in
    omega arith
