-- Turns joined: associative, with an opposite for each; a mirror keeps joining. And the same of flags.
-- Assumes nothing.
use mathlib.Core.Path.{◌≡◌, refl}
use mathlib.Core.Bool.{Bool, true, false, xor}
use Rattle.law_placing.specs.Turn.{Turn, ahead, left, back, right, next, plus, opposite, mirrored}

pub xor_assoc : (a b c : Bool) → xor (xor a b) c ≡ xor a (xor b c)
unfolding xor
xor_assoc true true true = refl
xor_assoc true true false = refl
xor_assoc true false true = refl
xor_assoc true false false = refl
xor_assoc false true true = refl
xor_assoc false true false = refl
xor_assoc false false true = refl
xor_assoc false false false = refl

pub xor_right : (a : Bool) → xor a false ≡ a
unfolding xor
xor_right true = refl
xor_right false = refl

pub xor_self : (a : Bool) → xor a a ≡ false
unfolding xor
xor_self true = refl
xor_self false = refl

next_plus : (q r : Turn) → plus (next q) r ≡ next (plus q r)
unfolding next plus
next_plus ahead r = refl
next_plus left r = refl
next_plus back r = refl
next_plus right ahead = refl
next_plus right left = refl
next_plus right back = refl
next_plus right right = refl

pub plus_assoc : (q r s : Turn) → plus (plus q r) s ≡ plus q (plus r s)
unfolding plus
plus_assoc ahead r s = refl
plus_assoc left r s = next_plus r s
plus_assoc back r s = rw (next_plus (next r) s, next_plus r s)
plus_assoc right r s = rw (next_plus (next (next r)) s, next_plus (next r) s, next_plus r s)

pub plus_ahead : (q : Turn) → plus q ahead ≡ q
unfolding plus next
plus_ahead ahead = refl
plus_ahead left = refl
plus_ahead back = refl
plus_ahead right = refl

pub plus_opposite : (q : Turn) → plus q (opposite q) ≡ ahead
unfolding plus next opposite
plus_opposite ahead = refl
plus_opposite left = refl
plus_opposite back = refl
plus_opposite right = refl

pub opposite_plus_self : (q : Turn) → plus (opposite q) q ≡ ahead
unfolding plus next opposite
opposite_plus_self ahead = refl
opposite_plus_self left = refl
opposite_plus_self back = refl
opposite_plus_self right = refl

opposite_twice : (q : Turn) → opposite (opposite q) ≡ q
unfolding opposite
opposite_twice ahead = refl
opposite_twice left = refl
opposite_twice back = refl
opposite_twice right = refl

opposite_plus : (q r : Turn) → opposite (plus q r) ≡ plus (opposite q) (opposite r)
unfolding plus next opposite
opposite_plus ahead r = refl
opposite_plus left ahead = refl
opposite_plus left left = refl
opposite_plus left back = refl
opposite_plus left right = refl
opposite_plus back ahead = refl
opposite_plus back left = refl
opposite_plus back back = refl
opposite_plus back right = refl
opposite_plus right ahead = refl
opposite_plus right left = refl
opposite_plus right back = refl
opposite_plus right right = refl

pub mirrored_plus : (f : Bool) (q r : Turn) → mirrored f (plus q r) ≡ plus (mirrored f q) (mirrored f r)
unfolding mirrored
mirrored_plus true q r = opposite_plus q r
mirrored_plus false q r = refl

pub mirrored_twice : (f g : Bool) (q : Turn) → mirrored f (mirrored g q) ≡ mirrored (xor f g) q
unfolding mirrored xor
mirrored_twice true true q = opposite_twice q
mirrored_twice true false q = refl
mirrored_twice false true q = refl
mirrored_twice false false q = refl
