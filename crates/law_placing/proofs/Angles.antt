-- An angle turned twice is turned by the joined turn, modulo 360 degrees.
-- Assumes nothing.
use Prim.Native.Nat.{ℕ, ◌+◌, ◌-◌, ◌*◌, ◌/◌, ◌%◌, ◌<◌}
use mathlib.Core.Path.{◌≡◌, refl, sym, ap, ◌∙◌}
use mathlib.Core.Bool.{Bool, true, false, xor}
use native.Mathlib.Nat.{mul-add-mod_self_left, div-add-mod, mod-lt}
use native.Mathlib.Omega.{arith}
use lib.Dec.{lit≤}
use Rattle.place.specs.Placing.{full_turn, turned_angle}
use Rattle.law_placing.specs.Turn.{Turn, ahead, left, back, right, degrees, next, plus, opposite, mirrored}

-- two numbers that full turns make equal are the same angle
same_angle : (a b c d : ℕ) → full_turn * c + a ≡ full_turn * d + b → a % full_turn ≡ b % full_turn
same_angle a b c d e = sym (mul-add-mod_self_left full_turn c a) ∙ ap (λ n. n % full_turn) e ∙ mul-add-mod_self_left full_turn d b

pub degrees_below : (q : Turn) → degrees q < full_turn
unfolding degrees
degrees_below ahead = lit≤ tt
degrees_below left = lit≤ tt
degrees_below back = lit≤ tt
degrees_below right = lit≤ tt

degrees_plus : (q r : Turn) → degrees (plus q r) ≡ (degrees q + degrees r) % full_turn
unfolding degrees plus next
degrees_plus ahead ahead = refl
degrees_plus ahead left = refl
degrees_plus ahead back = refl
degrees_plus ahead right = refl
degrees_plus left ahead = refl
degrees_plus left left = refl
degrees_plus left back = refl
degrees_plus left right = refl
degrees_plus back ahead = refl
degrees_plus back left = refl
degrees_plus back back = refl
degrees_plus back right = refl
degrees_plus right ahead = refl
degrees_plus right left = refl
degrees_plus right back = refl
degrees_plus right right = refl

degrees_opposite : (r : Turn) → degrees (opposite r) ≡ (full_turn - degrees r) % full_turn
unfolding degrees opposite
degrees_opposite ahead = refl
degrees_opposite left = refl
degrees_opposite back = refl
degrees_opposite right = refl

-- the four cases, over numbers; a number is its full turns and the rest
module _ (q r t : ℕ) (q-in : q < full_turn) (r-in : r < full_turn) (t-in : t < full_turn) where
  plain_plain : (q + (r + t) % full_turn) % full_turn ≡ ((q + r) % full_turn + t) % full_turn
  plain_plain =
      let a = div-add-mod (r + t) full_turn in
      let b = div-add-mod (q + r) full_turn in
      same_angle _ _ ((r + t) / full_turn) ((q + r) / full_turn) (omega arith)

  plain_flipped : (q + (r + full_turn - t) % full_turn) % full_turn ≡ ((q + r) % full_turn + full_turn - t) % full_turn
  plain_flipped =
      let a = div-add-mod (r + full_turn - t) full_turn in
      let b = div-add-mod (q + r) full_turn in
      same_angle _ _ ((r + full_turn - t) / full_turn) ((q + r) / full_turn) (omega arith)

  flipped_plain :
      (q + full_turn - (r + t) % full_turn) % full_turn
      ≡ ((q + (full_turn - r) % full_turn) % full_turn + full_turn - t) % full_turn
  flipped_plain =
      let a = div-add-mod (r + t) full_turn in
      let below = mod-lt (r + t) (lit≤ {m = 1} {n = full_turn} tt) in
      let b = div-add-mod (full_turn - r) full_turn in
      let c = div-add-mod (q + (full_turn - r) % full_turn) full_turn in
      same_angle _ _ 1 ((r + t) / full_turn + (full_turn - r) / full_turn + (q + (full_turn - r) % full_turn) / full_turn) (omega arith)

  flipped_flipped :
      (q + full_turn - (r + full_turn - t) % full_turn) % full_turn
      ≡ ((q + (full_turn - r) % full_turn) % full_turn + t) % full_turn
  flipped_flipped =
      let a = div-add-mod (r + full_turn - t) full_turn in
      let below = mod-lt (r + full_turn - t) (lit≤ {m = 1} {n = full_turn} tt) in
      let b = div-add-mod (full_turn - r) full_turn in
      let c = div-add-mod (q + (full_turn - r) % full_turn) full_turn in
      same_angle _ _ 1 ((r + full_turn - t) / full_turn + (full_turn - r) / full_turn + (q + (full_turn - r) % full_turn) / full_turn) (omega arith)

pub angle_joined : (f g : Bool) (q r : Turn) (t : ℕ) → t < full_turn →
    turned_angle f (degrees q) (turned_angle g (degrees r) t) ≡ turned_angle (xor f g) (degrees (plus q (mirrored f r))) t
unfolding turned_angle mirrored xor
angle_joined true true q r t l =
    rw (degrees_plus q (opposite r), degrees_opposite r) (flipped_flipped (degrees q) (degrees r) t (degrees_below q) (degrees_below r) l)
angle_joined true false q r t l =
    rw (degrees_plus q (opposite r), degrees_opposite r) (flipped_plain (degrees q) (degrees r) t (degrees_below q) (degrees_below r) l)
angle_joined false true q r t l = rw (degrees_plus q r) (plain_flipped (degrees q) (degrees r) t (degrees_below q) (degrees_below r) l)
angle_joined false false q r t l = rw (degrees_plus q r) (plain_plain (degrees q) (degrees r) t (degrees_below q) (degrees_below r) l)
