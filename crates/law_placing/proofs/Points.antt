-- Points flipped, turned and shifted, one after the other.
-- Assumes nothing.
use Prim.Native.Nat.{◌/◌}
use mathlib.Core.Path.{◌≡◌, refl, sym, ap, ◌∙◌}
use mathlib.Core.Bool.{Bool, true, false, xor}
use lib.IntN.{pos, neg_ℤ, neg_ℤ-neg_ℤ, neg_ℤ-+ℤ, +ℤ_assoc, +ℤ_idl, +ℤ_idr, +ℤ_invl}
use Rattle.points.specs.declared.Point.{Point}
use Rattle.points.specs.Points.{pt, shift, flipped, turned}
use Rattle.place.specs.Placing.{quarter_turn, moved}
use Rattle.law_placing.specs.Turn.{Turn, ahead, left, back, right, degrees, next, plus, opposite, mirrored}
use Rattle.law_placing.specs.Placement.{Placement, pose, join, spin, negated}

abbrev origin : Point
origin = pt (pos 0) (pos 0)

-- 01's turn by quarters is the turn of the placement
turned_is : (q : Turn) (p : Point) → turned (degrees q / quarter_turn) p ≡ spin q p
unfolding degrees turned spin
turned_is ahead p = refl
turned_is left p = refl
turned_is back p = refl
turned_is right p = refl

pub moved_is : (m : Placement) (p : Point) → moved (pose m) p ≡ shift (spin m.turn (flipped m.flip p)) m.at
unfolding moved pose
moved_is m p = ap (λ q. shift q m.at) (turned_is m.turn (flipped m.flip p))

shift_assoc : (p q r : Point) → shift (shift p q) r ≡ shift p (shift q r)
unfolding shift
shift_assoc p q r = λ i. pt (+ℤ_assoc p.x q.x r.x i) (+ℤ_assoc p.y q.y r.y i)

pub shift_origin : (p : Point) → shift p origin ≡ p
unfolding shift
shift_origin p = λ i. pt (+ℤ_idr p.x i) (+ℤ_idr p.y i)

pub origin_shift : (p : Point) → shift origin p ≡ p
unfolding shift
origin_shift p = λ i. pt (+ℤ_idl p.x i) (+ℤ_idl p.y i)

pub shift_negated : (p : Point) → shift (negated p) p ≡ origin
unfolding shift negated
shift_negated p = λ i. pt (+ℤ_invl p.x i) (+ℤ_invl p.y i)

flipped_shift : (f : Bool) (p s : Point) → flipped f (shift p s) ≡ shift (flipped f p) (flipped f s)
unfolding flipped shift
flipped_shift true p s = λ i. pt (neg_ℤ-+ℤ p.x s.x i) (shift p s).y
flipped_shift false p s = refl

spin_shift : (q : Turn) (p s : Point) → spin q (shift p s) ≡ shift (spin q p) (spin q s)
unfolding spin shift
spin_shift ahead p s = refl
spin_shift left p s = λ i. pt (neg_ℤ-+ℤ p.y s.y i) (shift p s).x
spin_shift back p s = λ i. pt (neg_ℤ-+ℤ p.x s.x i) (neg_ℤ-+ℤ p.y s.y i)
spin_shift right p s = λ i. pt (shift p s).y (neg_ℤ-+ℤ p.x s.x i)

spin_next : (r : Turn) (p : Point) → spin left (spin r p) ≡ spin (next r) p
unfolding spin next
spin_next ahead p = refl
spin_next left p = refl
spin_next back p = λ i. pt (neg_ℤ-neg_ℤ p.y i) (neg_ℤ p.x)
spin_next right p = λ i. pt (neg_ℤ-neg_ℤ p.x i) p.y

-- two and three quarters, one after the other
spin_back : (p : Point) → spin back p ≡ spin left (spin left p)
unfolding next
spin_back p = sym (spin_next left p)

spin_right : (p : Point) → spin right p ≡ spin left (spin back p)
unfolding next
spin_right p = sym (spin_next back p)

pub spin_spin : (q r : Turn) (p : Point) → spin q (spin r p) ≡ spin (plus q r) p
unfolding plus
spin_spin ahead r p = unfold spin in refl
spin_spin left r p = spin_next r p
spin_spin back r p = spin_back (spin r p) ∙ ap (spin left) (spin_next r p) ∙ spin_next (next r) p
spin_spin right r p =
    spin_right (spin r p) ∙ ap (spin left) (spin_back (spin r p) ∙ ap (spin left) (spin_next r p) ∙ spin_next (next r) p) ∙ spin_next (next (next r)) p

pub flipped_spin : (f : Bool) (r : Turn) (p : Point) → flipped f (spin r p) ≡ spin (mirrored f r) (flipped f p)
unfolding flipped spin mirrored opposite
flipped_spin true ahead p = refl
flipped_spin true left p = λ i. pt (neg_ℤ-neg_ℤ p.y i) (sym (neg_ℤ-neg_ℤ p.x) i)
flipped_spin true back p = refl
flipped_spin true right p = refl
flipped_spin false ahead p = refl
flipped_spin false left p = refl
flipped_spin false back p = refl
flipped_spin false right p = refl

pub flipped_twice : (f g : Bool) (p : Point) → flipped f (flipped g p) ≡ flipped (xor f g) p
unfolding flipped xor
flipped_twice true true p = λ i. pt (neg_ℤ-neg_ℤ p.x i) p.y
flipped_twice true false p = refl
flipped_twice false true p = refl
flipped_twice false false p = refl

pub spin_origin : (q : Turn) → spin q origin ≡ origin
unfolding spin
spin_origin ahead = refl
spin_origin left = refl
spin_origin back = refl
spin_origin right = refl

pub flipped_origin : (f : Bool) → flipped f origin ≡ origin
unfolding flipped
flipped_origin true = refl
flipped_origin false = refl

-- a point flipped and turned, not shifted
abbrev steered : Placement → Point → Point
steered m p = spin m.turn (flipped m.flip p)

steered_shift : (m : Placement) (p s : Point) → steered m (shift p s) ≡ shift (steered m p) (steered m s)
steered_shift m p s = ap (spin m.turn) (flipped_shift m.flip p s) ∙ spin_shift m.turn (flipped m.flip p) (flipped m.flip s)

steered_joined : (m n : Placement) (p : Point) → steered m (steered n p) ≡ steered (join m n) p
unfolding join
steered_joined m n p =
    ap (spin m.turn) (flipped_spin m.flip n.turn (flipped n.flip p))
    ∙ spin_spin m.turn (mirrored m.flip n.turn) (flipped m.flip (flipped n.flip p))
    ∙ ap (spin (plus m.turn (mirrored m.flip n.turn))) (flipped_twice m.flip n.flip p)

joined_at : (m n : Placement) → shift (steered m n.at) m.at ≡ (join m n).at
unfolding join
joined_at m n = sym (moved_is m n.at)

-- "placing inside a placed block is the placing of the joined placement", of a point
pub moved_joined : (m n : Placement) (p : Point) → moved (pose m) (moved (pose n) p) ≡ moved (pose (join m n)) p
moved_joined m n p =
    moved_is m (moved (pose n) p)
    ∙ ap (λ r. shift (steered m r) m.at) (moved_is n p)
    ∙ ap (λ r. shift r m.at) (steered_shift m (steered n p) n.at)
    ∙ shift_assoc (steered m (steered n p)) (steered m n.at) m.at
    ∙ ap (shift (steered m (steered n p))) (joined_at m n)
    ∙ ap (λ r. shift r (join m n).at) (steered_joined m n p)
    ∙ sym (moved_is (join m n) p)
