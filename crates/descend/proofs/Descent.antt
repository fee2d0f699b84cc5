-- Going down: what is asked of the container under this one with the height left, and what its answer gives.
-- Assumes nothing.
use Prim.Native.Nat.{ℕ, zero, suc, ◌-◌, ◌≤◌, ◌^◌}
use mathlib.Core.Path.{◌≡◌, ap, ◌∙◌}
use mathlib.Core.List.{List}
use native.Mathlib.Omega.{arith}
use Rattle.place.specs.declared.Item.{Item}
use Rattle.place.specs.declared.Pose.{Pose}
use Rattle.place.specs.Placing.{PoseWithin, ItemWithin}
use Rattle.place.proofs.Laws.{item_within}
use Rattle.sheet.specs.declared.Container.{Container}
use Rattle.descend.specs.Search.{HereIs, BelowIs, Asked, Answered}
use Rattle.descend.proofs.Located.{spread_under}

-- a container's height is at least 1
pub tall : (e a : List ℕ) (left : ℕ) (k : Container) (n : ℕ) → Asked e a left k n → 1 ≤ left
tall e a left k n q = let low = q.held.sound.low in let high = q.high in omega arith

pub answer_here : (e a : List ℕ) (left : ℕ) (k : Container) (n : ℕ) (t : Item) → Asked e a left k n → HereIs e a k n t → Answered e a left k n t
answer_here e a zero k n t q d = let l = tall e a 0 k n q in absurd (omega arith)
answer_here e a (suc h) k n t q d = record { is = d.is h q.high; near = d.near }

pub record Down (e a : List ℕ) (left less : ℕ) (k : Container) (n : ℕ) (under : Container) (j : ℕ) (m : Pose) (out : Item → Item) : Type 0 where
  pub asks : Asked e a less under j
  pub can_place : (t : Item) → Answered e a less under j t → PoseWithin (10 ^ 16) m × ItemWithin (10 ^ 16) t
  pub gives : (t : Item) → Answered e a less under j t → Answered e a left k n (out t)

pub answer_below : (e a : List ℕ) (left : ℕ) (k : Container) (n : ℕ) (under : Container) (j : ℕ) (m : Pose) (out : Item → Item) →
    Asked e a left k n → BelowIs e a k n under j m out → Down e a left (left - 1) k n under j m out
answer_below e a left k n under j m out q d = go left (left - 1) (let l = tall e a left k n q in omega arith) q
  where
    go : (left less : ℕ) → left ≡ suc less → Asked e a left k n → Down e a left less k n under j m out
    go left less s q =
        let high = q.high in
        let lower = d.lower in
        record {
          asks = record { held = d.held; high = omega arith };
          can_place = λ t A. (d.pose_in, item_within t (spread_under under.height k.height lower q.held.sound.high) A.near);
          gives = λ t A. record { is = rw s (ap out A.is ∙ d.is less (omega arith)); near = d.near t A.near };
        }
