-- Joining for the flash as it is: the flash around a flash places by the joined placement, and tells its own place (02, request [6]).
-- Assumes nothing.
use Prim.Native.Nat.{ℕ, ◌<◌}
use mathlib.Core.Path.{◌≡◌, refl, sym, ap, ◌∙◌}
use mathlib.Core.List.{List, ◌∷◌, map, append-nil}
use Rattle.place.specs.Placing.{full_turn, placed}
use Rattle.place.specs.Outer.{brought, flashed_by}
use Rattle.place.specs.Parts.{Parts, none, flashed, items_in}
use Rattle.place.specs.declared.Item.{Item}
use Rattle.place.specs.declared.Pose.{Pose}
use Rattle.law_placing.specs.Placement.{Placement, pose, join, identity}
use Rattle.law_placing.proofs.Placing as placing
use Rattle.law_placing.proofs.Placing.{Turned, placed_joined, placed_identity}

-- placing leaves the place that is told, and of two the later is told
placed_brought : (m : Pose) (place : ℕ) (t : Item) → placed m (brought place t) ≡ brought place (placed m t)
unfolding placed brought
placed_brought m place t = refl

brought_twice : (outer inner : ℕ) (t : Item) → brought outer (brought inner t) ≡ brought outer t
unfolding brought
brought_twice outer inner t = refl

module _ (m n : Placement) (outer inner : ℕ) where
  pub flashed_joined : (t : Item) → t.angle < full_turn → flashed_by outer (pose m) (flashed_by inner (pose n) t) ≡ flashed_by outer (pose (join m n)) t
  unfolding flashed_by
  flashed_joined t l =
      ap (brought outer) (placed_brought (pose m) inner (placed (pose n) t))
      ∙ brought_twice outer inner (placed (pose m) (placed (pose n) t))
      ∙ ap (brought outer) (placed_joined m n t l)

  pub flashes_joined : (ts : List Item) → Turned ts → map (flashed_by outer (pose m)) (map (flashed_by inner (pose n)) ts) ≡ map (flashed_by outer (pose (join m n))) ts
  flashes_joined ts placing.none = refl
  flashes_joined ts (placing.more {t = t} {ts = us} l all) = λ i. flashed_joined t l i ∷ flashes_joined us all i

  -- a block that holds the flash of a block alone puts out, where it is flashed, what the inner one does by the joined placement
  pub parts_joined : (b : Parts) → Turned (items_in b) →
      items_in (flashed outer (pose m) (flashed inner (pose n) b none) none) ≡ items_in (flashed outer (pose (join m n)) b none)
  unfolding items_in
  parts_joined b all =
      append-nil (map (flashed_by outer (pose m)) (items_in (flashed inner (pose n) b none)))
      ∙ ap (map (flashed_by outer (pose m))) (append-nil (map (flashed_by inner (pose n)) (items_in b)))
      ∙ flashes_joined (items_in b) all
      ∙ sym (append-nil (map (flashed_by outer (pose (join m n))) (items_in b)))

-- where nothing moves, a flash tells its place and does nothing else
pub flashed_identity : (place : ℕ) (t : Item) → t.angle < full_turn → flashed_by place (pose identity) t ≡ brought place t
unfolding flashed_by
flashed_identity place t l = ap (brought place) (placed_identity t l)
