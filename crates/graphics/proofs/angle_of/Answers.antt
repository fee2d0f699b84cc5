-- `graphics::angle_of` meets its contract: its branch is the test of `angle_of`.
use Rattle.graphics.specs.Orientation.{angle_of}
use Rattle.place.specs.Placing.{full_turn}
use Prim.Native.Nat.{◌-◌, ◌%◌}
use mathlib.Core.Path.{◌≡◌, sym, ap, ◌∙◌}
use mathlib.Core.Bool.{true, false}
use lib.IntN.{ℤ, nat_abs}
use mir.Facts.{to_z-of_z}
use Rattle.ints.specs.Ints.{is_neg}
use Rattle.ints.proofs.Bounded.{is_neg_lem}
use Rattle.graphics.proofs.angle_of.Goals as goal

negative-angle : (z : ℤ) → is_neg z ≡ true → angle_of z ≡ (full_turn - nat_abs z % full_turn) % full_turn
unfolding angle_of
negative-angle z e = simp e

other-angle : (z : ℤ) → is_neg z ≡ false → angle_of z ≡ nat_abs z % full_turn
unfolding angle_of
other-angle z e = simp e

pub returns-then-a-lt0 : goal.returns-then-a-lt0
returns-then-a-lt0 c =
    let v = c.unsigned_abs-n.ensures.value ∙ ap nat_abs (to_z-of_z c.ranges.a) in
    let neg : is_neg c.args.a ≡ true = sym (is_neg_lem c.args.a c.ranges.a) ∙ c.if-a-lt0.true in
    ap (λ n. (full_turn - n % full_turn) % full_turn) v ∙ sym (negative-angle _ neg)

pub returns : goal.returns
returns c =
    let v = c.unsigned_abs-n.ensures.value ∙ ap nat_abs (to_z-of_z c.ranges.a) in
    let other : is_neg c.args.a ≡ false = sym (is_neg_lem c.args.a c.ranges.a) ∙ c.if-a-lt0.false in
    ap (λ n. n % full_turn) v ∙ sym (other-angle _ other)
