-- The way from one number to another, by its size and its sign, so that whoever needs it needs no number that holds it.
-- Assumes nothing.
use Prim.Native.Nat.{ℕ, zero, suc, ◌-◌}
use mathlib.Core.Path.{◌≡◌, refl, sym, ap, ◌∙◌}
use mathlib.Core.Bool.{Bool, true, false, not, cond, beq}
use native.Mathlib.Omega.{arith}
use lib.Dec.{ltb, eqb, eqb-suc-zero}
use lib.IntN.{ℤ, pos, negsuc, neg_ℤ, nat_abs, sub_ℕ, ◌+ℤ◌, ◌-ℤ◌, +ℤ_idr, +ℤ_comm, +ℤ_assoc, neg_ℤ-+ℤ, +ℤ-neg_ℤ_cancel, -ℤ-+ℤ_cancel}
use lib.Signed.{lt_z}
use borrow.Author.Tests.{lt-ltb, le-ltb}
use Rattle.base.specs.And.{◌and◌}
use Rattle.base.specs.Or.{◌or◌}
use Rattle.base.proofs.And.{and_true, and_false}
use Rattle.base.proofs.Tests.{ltb_agree}
use Rattle.ints.specs.Ints.{is_neg}
use Rattle.points.specs.Points.{pt, shift}
use Rattle.points.specs.declared.Point.{Point}
use Rattle.reckon.proofs.Signs.{signs}
use Rattle.reckon.specs.ArcCentre.{seen_from, between}

-- ---- which way it goes

neg_below : (m n : ℕ) → is_neg (sub_ℕ m n) ≡ ltb m n
unfolding is_neg
neg_below m n = by_test (ltb m n)
  where
    by_test : (t : Bool) → is_neg (cond t (negsuc (n - suc m)) (pos (m - n))) ≡ t
    by_test true = refl
    by_test false = refl

-- a number is below another where the way from that to it is below zero
pub below_way : (a b : ℤ) → lt_z a b ≡ is_neg (a -ℤ b)
unfolding is_neg
below_way (pos a) (pos zero) = le-ltb a 0 (omega arith)
below_way (pos a) (pos (suc b)) = sym (neg_below a (suc b))
below_way (pos a) (negsuc b) = refl
below_way (negsuc a) (pos zero) = sym (neg_below 0 (suc a) ∙ lt-ltb 0 (suc a) (omega arith))
below_way (negsuc a) (pos (suc b)) = refl
below_way (negsuc a) (negsuc b) = ltb_agree b a (suc b) (suc a) (λ h. omega arith) (λ h. omega arith) ∙ sym (neg_below (suc b) (suc a))

-- the way between two numbers that lie so far from a third is the way between their ways
shifted_way : (a x y : ℤ) → (a +ℤ x) -ℤ (a +ℤ y) ≡ x -ℤ y
shifted_way a x y =
    ap (λ (z : ℤ). (a +ℤ x) +ℤ z) (neg_ℤ-+ℤ a y)
    ∙ sym (+ℤ_assoc (a +ℤ x) (neg_ℤ a) (neg_ℤ y))
    ∙ ap (λ (z : ℤ). z +ℤ neg_ℤ a +ℤ neg_ℤ y) (+ℤ_comm a x)
    ∙ ap (λ (z : ℤ). z +ℤ neg_ℤ y) (+ℤ-neg_ℤ_cancel x a)

shifted_below : (a x y : ℤ) → lt_z (a +ℤ x) (a +ℤ y) ≡ lt_z x y
shifted_below a x y = below_way (a +ℤ x) (a +ℤ y) ∙ ap is_neg (shifted_way a x y) ∙ sym (below_way x y)

-- ---- between two numbers

shifted_between : (a x y z : ℤ) → between (a +ℤ x) (a +ℤ y) (a +ℤ z) ≡ between x y z
unfolding between
shifted_between a x y z =
    λ i. (shifted_below a x z i and shifted_below a z y i) or (shifted_below a y z i and shifted_below a z x i)

above_zero_lem : (m : ℕ) → ltb 0 m ≡ not (eqb m 0)
above_zero_lem zero = refl
above_zero_lem (suc m) = lt-ltb 0 (suc m) (omega arith) ∙ sym (ap not (eqb-suc-zero m))

under_zero : (m : ℕ) → ltb m 0 ≡ false
under_zero m = le-ltb m 0 (omega arith)

upward : (t u v : Bool) → ((t and u) or (v and false)) ≡ (t and u and true)
unfolding ◌and◌ ◌or◌
upward true true v = refl
upward true false v = and_false v
upward false u v = and_false v

neither : (t : Bool) → ((t and false) or false) ≡ false
unfolding ◌or◌
neither t = rw (and_false t) refl

-- from zero on
between_zero : (d o : ℤ) → between (pos 0) d o ≡ (not (eqb (nat_abs o) 0) and ltb (nat_abs o) (nat_abs d) and beq (is_neg o) (is_neg d))
unfolding between is_neg ◌and◌ ◌or◌
between_zero (pos n) (pos m) =
    (λ i. (above_zero_lem m i and ltb m n) or (ltb n m and under_zero m i)) ∙ upward (not (eqb m 0)) (ltb m n) (ltb n m)
between_zero (negsuc n) (pos m) =
    (λ i. (ltb 0 m and false) or under_zero m i) ∙ neither (ltb 0 m) ∙ sym (and_false (not (eqb m 0) and ltb m (suc n)))
between_zero (pos n) (negsuc m) = sym (and_false (not (eqb (suc m) 0) and ltb (suc m) n))
between_zero (negsuc n) (negsuc m) =
    and_true (ltb m n)
    ∙ ltb_agree m n (suc m) (suc n) (λ h. omega arith) (λ h. omega arith)
    ∙ sym (and_true (not (eqb (suc m) 0) and ltb (suc m) (suc n)) ∙ (λ i. not (eqb-suc-zero m i) and ltb (suc m) (suc n)))

-- a and o is strictly between a and b where o is not zero, and shorter than the way to b, and goes there
pub between_ways : (a b o : ℤ)
    → (not (eqb (nat_abs o) 0) and ltb (nat_abs o) (nat_abs (b -ℤ a)) and beq (is_neg o) (is_neg (b -ℤ a))) ≡ between a b (a +ℤ o)
between_ways a b o =
    sym (between_zero (b -ℤ a) o)
    ∙ sym (shifted_between a (pos 0) (b -ℤ a) o)
    ∙ (λ i. between (+ℤ_idr a i) ((+ℤ_comm a (b -ℤ a) ∙ -ℤ-+ℤ_cancel b a) i) (a +ℤ o))

-- the same the other way round
pub between_is : (a b o : ℤ) → between a b (a +ℤ o) ≡ (not (eqb (nat_abs o) 0) and ltb (nat_abs o) (nat_abs (b -ℤ a)) and beq (is_neg o) (is_neg (b -ℤ a)))
between_is a b o = sym (between_ways a b o)

pub ruleset ways = (signs, below_way, between_is)

-- ---- of points

pub seen_shifted : (s o : Point) → seen_from s (shift s o) ≡ o
unfolding seen_from shift
seen_shifted s o = λ i. pt (back s.x o.x i) (back s.y o.y i)
  where
    back : (a x : ℤ) → a +ℤ x -ℤ a ≡ x
    back a x = ap (λ (z : ℤ). z -ℤ a) (+ℤ_comm a x) ∙ +ℤ-neg_ℤ_cancel x a
