-- Placements are a group: joining is associative, has an identity on both sides, and every placement an inverse on both sides.
-- Assumes nothing.
use mathlib.Core.Path.{◌≡◌, refl, sym, ap, ◌∙◌}
use mathlib.Core.Bool.{Bool, true, false, xor}
use Rattle.points.specs.declared.Point.{Point}
use Rattle.points.specs.Points.{shift, flipped}
use Rattle.place.specs.Placing.{moved}
use Rattle.place.proofs.Laws.{xor_false}
use Rattle.law_placing.specs.Turn.{Turn, ahead, plus, opposite, mirrored}
use Rattle.law_placing.specs.Placement.{Placement, pose, join, identity, spin, negated, inverse}
use Rattle.law_placing.proofs.Turns.{xor_assoc, xor_right, xor_self, plus_assoc, plus_ahead, plus_opposite, opposite_plus_self, mirrored_plus, mirrored_twice}
use Rattle.law_placing.proofs.Points.{moved_is, moved_joined, shift_origin, origin_shift, shift_negated, spin_spin, flipped_spin, flipped_twice, spin_origin, flipped_origin}

pub join_assoc : (m n o : Placement) → join (join m n) o ≡ join m (join n o)
unfolding join
join_assoc m n o = λ i. record {
  flip = xor_assoc m.flip n.flip o.flip i;
  turn = turns i;
  at = sym (moved_joined m n o.at) i;
  toggle = xor_assoc m.toggle n.toggle o.toggle i;
}
  where
    turns :
        plus (plus m.turn (mirrored m.flip n.turn)) (mirrored (xor m.flip n.flip) o.turn)
        ≡ plus m.turn (mirrored m.flip (plus n.turn (mirrored n.flip o.turn)))
    turns =
        plus_assoc m.turn (mirrored m.flip n.turn) (mirrored (xor m.flip n.flip) o.turn)
        ∙ ap (λ s. plus m.turn (plus (mirrored m.flip n.turn) s)) (sym (mirrored_twice m.flip n.flip o.turn))
        ∙ ap (plus m.turn) (sym (mirrored_plus m.flip n.turn (mirrored n.flip o.turn)))

-- nothing moves
pub moved_identity : (p : Point) → moved (pose identity) p ≡ p
moved_identity p = moved_is identity p ∙ unfold identity spin flipped in shift_origin p

pub identity_left : (m : Placement) → join identity m ≡ m
unfolding join identity mirrored plus
identity_left m = λ i. record {
  flip = xor_false m.flip i;
  turn = m.turn;
  at = moved_identity m.at i;
  toggle = xor_false m.toggle i;
}

mirrored_ahead : (f : Bool) → mirrored f ahead ≡ ahead
unfolding mirrored opposite
mirrored_ahead true = refl
mirrored_ahead false = refl

origin_moved : (m : Placement) → moved (pose m) identity.at ≡ m.at
unfolding identity
origin_moved m =
    moved_is m _ ∙ ap (λ p. shift (spin m.turn p) m.at) (flipped_origin m.flip)
    ∙ ap (λ p. shift p m.at) (spin_origin m.turn) ∙ origin_shift m.at

pub identity_right : (m : Placement) → join m identity ≡ m
unfolding join identity
identity_right m = λ i. record {
  flip = xor_right m.flip i;
  turn = (ap (plus m.turn) (mirrored_ahead m.flip) ∙ plus_ahead m.turn) i;
  at = origin_moved m i;
  toggle = xor_right m.toggle i;
}

-- after the inverse, and before it, everything is where it was
inverse_turn : (m : Placement) → plus m.turn (mirrored m.flip (inverse m).turn) ≡ ahead
unfolding inverse
inverse_turn m =
    ap (plus m.turn) (mirrored_twice m.flip m.flip (opposite m.turn) ∙ ap (λ f. mirrored f (opposite m.turn)) (xor_self m.flip))
    ∙ unfold mirrored in plus_opposite m.turn

turn_inverse : (f : Bool) (q : Turn) → plus (mirrored f (opposite q)) (mirrored f q) ≡ ahead
turn_inverse f q = sym (mirrored_plus f (opposite q) q) ∙ ap (mirrored f) (opposite_plus_self q) ∙ mirrored_ahead f

-- the shift of the inverse, flipped and turned by the placement, is the placement's own the other way
steered_back : (f : Bool) (q : Turn) (p : Point) → spin q (flipped f (spin (mirrored f (opposite q)) (flipped f p))) ≡ p
steered_back f q p =
    ap (spin q) (flipped_spin f (mirrored f (opposite q)) (flipped f p))
    ∙ ap (λ r. spin q (spin r (flipped f (flipped f p)))) (mirrored_twice f f (opposite q) ∙ ap (λ g. mirrored g (opposite q)) (xor_self f))
    ∙ ap (λ r. spin q (spin (mirrored false (opposite q)) r)) (flipped_twice f f p ∙ ap (λ g. flipped g p) (xor_self f))
    ∙ unfold mirrored flipped in (spin_spin q (opposite q) p ∙ ap (λ r. spin r p) (plus_opposite q))
    ∙ unfold spin in refl

pub inverse_right : (m : Placement) → join m (inverse m) ≡ identity
unfolding join
inverse_right m = λ i. record {
  flip = flips i;
  turn = turns i;
  at = ats i;
  toggle = toggles i;
}
  where
    flips : xor m.flip (inverse m).flip ≡ identity.flip
    flips = unfold inverse identity in xor_self m.flip

    toggles : xor m.toggle (inverse m).toggle ≡ identity.toggle
    toggles = unfold inverse identity in xor_self m.toggle

    turns : plus m.turn (mirrored m.flip (inverse m).turn) ≡ identity.turn
    turns = unfold identity in inverse_turn m

    ats : moved (pose m) (inverse m).at ≡ identity.at
    ats = unfold inverse identity in
        (moved_is m _ ∙ ap (λ p. shift p m.at) (steered_back m.flip m.turn (negated m.at)) ∙ shift_negated m.at)

pub inverse_left : (m : Placement) → join (inverse m) m ≡ identity
inverse_left m =
    let n = inverse m in
    let o = inverse (inverse m) in
    sym (identity_right (join n m))
    ∙ ap (join (join n m)) (sym (inverse_right n))
    ∙ join_assoc n m (join n o)
    ∙ ap (join n) (sym (join_assoc m n o) ∙ ap (λ k. join k o) (inverse_right m) ∙ identity_left o)
    ∙ inverse_right n
