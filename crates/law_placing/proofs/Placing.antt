-- "placing inside a placed block is the placing of the joined placement" (02, request [12]), of items.
-- Assumes nothing.
use Prim.Native.Nat.{ℕ, zero, suc, ◌*◌, ◌/◌, ◌%◌, ◌<◌}
use mathlib.Core.Path.{◌≡◌, refl, sym, ap, ◌∙◌}
use mathlib.Core.Bool.{Bool, true, false, cond, xor}
use mathlib.Core.List.{List, [], ◌∷◌, map}
use native.Mathlib.Nat.{zero-add, mod-eq_of_lt, div-add-mod}
use native.Mathlib.Omega.{arith}
use Rattle.points.specs.declared.Point.{Point}
use Rattle.place.specs.Item.{has_start, has_end, is_arc, is_oriented}
use Rattle.place.specs.Placing.{quarter_turn, full_turn, moved_if, turned_angle, swapped, placed}
use Rattle.place.specs.declared.Item.{Item}
use Rattle.place.specs.declared.Pose.{Pose}
use Rattle.place.proofs.Laws.{xor_false}
use Rattle.law_placing.specs.Turn.{Turn, ahead, left, back, right, degrees, plus, mirrored}
use Rattle.law_placing.specs.Placement.{Placement, pose, join, identity, inverse}
use Rattle.law_placing.proofs.Turns.{xor_assoc}
use Rattle.law_placing.proofs.Points.{moved_joined}
use Rattle.law_placing.proofs.Swaps.{swapped_twice, start_swapped, end_swapped, arc_swapped, oriented_swapped}
use Rattle.law_placing.proofs.Angles.{angle_joined}
use Rattle.law_placing.proofs.Laws.{moved_identity, inverse_left}

-- every item's angle is below a full turn, as a sheet's are
pub data Turned : List Item → Type 0 where
  none : Turned []
  more : {t : Item} {ts : List Item} → t.angle < full_turn → Turned ts → Turned (t ∷ ts)

swapped_none : (k : ℕ) → swapped false k ≡ k
unfolding swapped
swapped_none k = refl

flip_none : (o f : Bool) → cond o (xor false f) f ≡ f
flip_none true f = xor_false f
flip_none false f = refl

turn_none : (o : Bool) (t : ℕ) → t < full_turn → cond o (turned_angle false (degrees ahead) t) t ≡ t
unfolding turned_angle degrees
turn_none true t l = rw (zero-add t) (mod-eq_of_lt l)
turn_none false t l = refl

moved_if_none : (used : Bool) (p : Point) → moved_if used (pose identity) p ≡ p
unfolding moved_if
moved_if_none true p = moved_identity p
moved_if_none false p = refl

module _ (m n : Placement) where
  pub moved_if_joined : (used : Bool) (p : Point) → moved_if used (pose m) (moved_if used (pose n) p) ≡ moved_if used (pose (join m n)) p
  unfolding moved_if
  moved_if_joined true p = moved_joined m n p
  moved_if_joined false p = refl

  flip_joined : (o f : Bool) →
      cond o (xor m.flip (cond o (xor n.flip f) f)) (cond o (xor n.flip f) f) ≡ cond o (xor (xor m.flip n.flip) f) f
  flip_joined true f = sym (xor_assoc m.flip n.flip f)
  flip_joined false f = refl

  turn_joined : (o : Bool) (t : ℕ) → t < full_turn →
      cond o (turned_angle m.flip (degrees m.turn) (cond o (turned_angle n.flip (degrees n.turn) t) t)) (cond o (turned_angle n.flip (degrees n.turn) t) t)
      ≡ cond o (turned_angle (xor m.flip n.flip) (degrees (plus m.turn (mirrored m.flip n.turn))) t) t
  turn_joined true t l = angle_joined m.flip n.flip m.turn n.turn t l
  turn_joined false t l = refl

  -- field by field; a field that placing keeps needs no word
  pub placed_joined : (t : Item) → t.angle < full_turn → placed (pose m) (placed (pose n) t) ≡ placed (pose (join m n)) t
  unfolding placed pose join
  placed_joined t l = rw (
    start_swapped n.flip t.kind,
    end_swapped n.flip t.kind,
    arc_swapped n.flip t.kind,
    oriented_swapped n.flip t.kind,
    swapped_twice m.flip n.flip t.kind,
    sym (xor_assoc m.toggle n.toggle t.clear),
    flip_joined (is_oriented t.kind) t.flip,
    turn_joined (is_oriented t.kind) t.angle l,
    moved_if_joined (has_start t.kind) t.start,
    moved_if_joined (has_end t.kind) t.end,
    moved_if_joined (is_arc t.kind) t.centre,
  )

  -- of all items of a block that is flashed in a block
  pub list_joined : (ts : List Item) → Turned ts → map (placed (pose m)) (map (placed (pose n)) ts) ≡ map (placed (pose (join m n))) ts
  list_joined ts none = refl
  list_joined ts (more {t = t} {ts = us} l all) = λ i. placed_joined t l i ∷ list_joined us all i

-- where nothing moves, an item stays as it is
pub placed_identity : (t : Item) → t.angle < full_turn → placed (pose identity) t ≡ t
unfolding placed pose identity
placed_identity t l = rw (
  swapped_none t.kind,
  xor_false t.clear,
  flip_none (is_oriented t.kind) t.flip,
  turn_none (is_oriented t.kind) t.angle l,
  moved_if_none (has_start t.kind) t.start,
  moved_if_none (has_end t.kind) t.end,
  moved_if_none (is_arc t.kind) t.centre,
)

-- what is placed can be put back
pub placed_back : (m : Placement) (t : Item) → t.angle < full_turn → placed (pose (inverse m)) (placed (pose m) t) ≡ t
placed_back m t l = placed_joined (inverse m) m t l ∙ ap (λ k. placed (pose k) t) (inverse_left m) ∙ placed_identity t l

-- the poses of a sheet, which are turned by a multiple of 90 degrees below 360 (docs/SHEET.md, 9 and 10), are placements
pub as_placement : (m : Pose) → m.angle % quarter_turn ≡ 0 → m.angle < full_turn → (p : Placement) × (pose p ≡ m)
as_placement m whole below = go (m.angle / quarter_turn) (omega (arith, div-add-mod m.angle quarter_turn)) (omega (arith, div-add-mod m.angle quarter_turn))
  where
    made : (q : Turn) → m.angle ≡ degrees q → (p : Placement) × (pose p ≡ m)
    made q e = (record { flip = m.flip; turn = q; at = m.at; toggle = m.clear }, unfold pose in λ i. record { flip = m.flip; angle = sym e i; clear = m.clear; at = m.at })

    go : (n : ℕ) → m.angle ≡ n * quarter_turn → n < 4 → (p : Placement) × (pose p ≡ m)
    go zero e l = made ahead (unfold degrees in omega arith)
    go (suc zero) e l = made left (unfold degrees in omega arith)
    go (suc (suc zero)) e l = made back (unfold degrees in omega arith)
    go (suc (suc (suc zero))) e l = made right (unfold degrees in omega arith)
    go (suc (suc (suc (suc n)))) e l = absurd (omega arith)
