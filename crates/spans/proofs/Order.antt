-- Whole numbers in their order, b being some steps up from a, and the lesser and the greater of two.
-- Assumes nothing.
use Prim.Native.Nat.{ℕ, zero, suc, ◌+◌, ◌-◌, ◌≤◌}
use mathlib.Core.Path.{◌≡◌, refl, sym, ap, ◌∙◌}
use mathlib.Core.Bool.{Bool, true, false, cond, true≢false, false≢true}
use native.Mathlib.Omega.{arith}
use lib.Dec.{ltb}
use lib.IntN.{ℤ, pos, negsuc, neg_ℤ, nat_abs, ◌+ℤ◌, +ℤ_idr, +ℤ_assoc, +ℤ_comm, +ℤ_invl, neg_ℤ-+ℤ}
use lib.Signed.{lt_z}
use borrow.Author.Tests.{lt-ltb, le-ltb, ltb-true, ltb-false}
use Rattle.spans.specs.Spans.{least, greatest}

infix 50 ◌⊑◌
pub record ◌⊑◌ (a b : ℤ) : Type 0 where
  pub gap : ℕ
  pub is : b ≡ a +ℤ pos gap

-- one of two is under the other
under : (a b : ℤ) → lt_z a b ≡ true → a ⊑ b
under (pos a) (pos b) e = let h = ltb-true a b e in record { gap = b - a; is = ap pos (omega arith) }
under (pos a) (negsuc b) e = absurd (false≢true e)
under (negsuc a) (pos b) e = record { gap = b + suc a; is = sym (simp (le-ltb (b + suc a) (suc a) (omega arith)) (ap pos (omega arith))) }
under (negsuc a) (negsuc b) e = let h = ltb-true b a e in
    record { gap = a - b; is = sym (simp (lt-ltb (a - b) (suc a) (omega arith)) (ap negsuc (omega arith))) }

not_under : (a b : ℤ) → lt_z a b ≡ false → b ⊑ a
not_under (pos a) (pos b) e = let h = ltb-false a b e in record { gap = a - b; is = ap pos (omega arith) }
not_under (pos a) (negsuc b) e = record { gap = a + suc b; is = sym (simp (le-ltb (a + suc b) (suc b) (omega arith)) (ap pos (omega arith))) }
not_under (negsuc a) (pos b) e = absurd (true≢false e)
not_under (negsuc a) (negsuc b) e = let h = ltb-false b a e in
    record { gap = b - a; is = sym (simp (lt-ltb (b - a) (suc b) (omega arith)) (ap negsuc (omega arith))) }

-- a statement of two numbers, where it holds of the lesser before the greater and the other way round
pub by_order {ℓ} : {P : Type ℓ} (a b : ℤ) → (a ⊑ b → P) → (b ⊑ a → P) → P
by_order {P = P} a b f g = go (lt_z a b) refl
  where
    go : (t : Bool) → lt_z a b ≡ t → P
    go true e = f (under a b e)
    go false e = g (not_under a b e)

-- some steps up is above, and not below
up_above : (a : ℤ) (n : ℕ) → lt_z a (a +ℤ pos (suc n)) ≡ true
up_above (pos a) n = lt-ltb a (a + suc n) (omega arith)
up_above (negsuc a) n = go (ltb (suc n) (suc a)) refl
  where
    go : (t : Bool) → ltb (suc n) (suc a) ≡ t → lt_z (negsuc a) (cond t (negsuc (suc a - suc (suc n))) (pos (suc n - suc a))) ≡ true
    go true e = let h = ltb-true (suc n) (suc a) e in lt-ltb (suc a - suc (suc n)) a (omega arith)
    go false e = refl

up_not_below : (a : ℤ) (n : ℕ) → lt_z (a +ℤ pos n) a ≡ false
up_not_below (pos a) n = le-ltb (a + n) a (omega arith)
up_not_below (negsuc a) n = go (ltb n (suc a)) refl
  where
    go : (t : Bool) → ltb n (suc a) ≡ t → lt_z (cond t (negsuc (suc a - suc n)) (pos (n - suc a))) (negsuc a) ≡ false
    go true e = let h = ltb-true n (suc a) e in le-ltb a (suc a - suc n) (omega arith)
    go false e = refl

either_way : (t : Bool) (a : ℤ) → cond t a a ≡ a
either_way true a = refl
either_way false a = refl

-- which is the lesser, and which the greater
module _ {a b : ℤ} (h : a ⊑ b) where
  first_least : least a b ≡ a
  unfolding least
  first_least = go h.gap h.is
    where
      go : (n : ℕ) → b ≡ a +ℤ pos n → cond (lt_z a b) a b ≡ a
      go zero e = let q : b ≡ a = e ∙ +ℤ_idr a in rw q (either_way (lt_z a a) a)
      go (suc n) e = rw e (rw (up_above a n))

  second_least : least b a ≡ a
  unfolding least
  second_least = let n : lt_z b a ≡ false = rw h.is (up_not_below a h.gap) in rw n

  first_greatest : greatest b a ≡ b
  unfolding greatest
  first_greatest = let n : lt_z b a ≡ false = rw h.is (up_not_below a h.gap) in rw n

  second_greatest : greatest a b ≡ b
  unfolding greatest
  second_greatest = go h.gap h.is
    where
      go : (n : ℕ) → b ≡ a +ℤ pos n → cond (lt_z a b) b a ≡ b
      go zero e = let q : b ≡ a = e ∙ +ℤ_idr a in rw q (either_way (lt_z a a) a)
      go (suc n) e = rw e (rw (up_above a n))

-- ---- the order's laws

⊑_refl : (a : ℤ) → a ⊑ a
⊑_refl a = record { gap = 0; is = sym (+ℤ_idr a) }

⊑_trans : {a b c : ℤ} → a ⊑ b → b ⊑ c → a ⊑ c
⊑_trans {a} {b} {c} h k = record { gap = h.gap + k.gap; is = k.is ∙ ap (λ z. z +ℤ pos k.gap) h.is ∙ +ℤ_assoc a (pos h.gap) (pos k.gap) }

pub ⊑-up : (a : ℤ) {m n : ℕ} → m ≤ n → (a +ℤ pos m) ⊑ (a +ℤ pos n)
⊑-up a {m} {n} h =
    let e : pos n ≡ pos m +ℤ pos (n - m) = ap pos (omega arith) in
    record { gap = n - m; is = ap (λ z. a +ℤ z) e ∙ sym (+ℤ_assoc a (pos m) (pos (n - m))) }

-- shifted alike
⊑-shift : {a b : ℤ} (d : ℤ) → a ⊑ b → (a +ℤ d) ⊑ (b +ℤ d)
⊑-shift {a} {b} d h = record {
  gap = h.gap;
  is = ap (λ z. z +ℤ d) h.is ∙ +ℤ_assoc a (pos h.gap) d ∙ ap (λ z. a +ℤ z) (+ℤ_comm (pos h.gap) d) ∙ sym (+ℤ_assoc a d (pos h.gap));
}

-- turned round: a ≡ b - n is -a ≡ -b + n
⊑-neg : {a b : ℤ} → a ⊑ b → neg_ℤ b ⊑ neg_ℤ a
⊑-neg {a} {b} h =
    let n : ℤ = pos h.gap in
    let e : neg_ℤ b ≡ neg_ℤ a +ℤ neg_ℤ n = ap neg_ℤ h.is ∙ neg_ℤ-+ℤ a n in
    record {
      gap = h.gap;
      is = sym (ap (λ z. z +ℤ n) e ∙ +ℤ_assoc (neg_ℤ a) (neg_ℤ n) n ∙ ap (λ z. neg_ℤ a +ℤ z) (+ℤ_invl n) ∙ +ℤ_idr (neg_ℤ a));
    }

-- ---- the lesser and the greater, of three, of two turned round, of two shifted, of one

pub least_assoc : (a b c : ℤ) → least (least a b) c ≡ least a (least b c)
least_assoc a b c =
    by_order a b
    (λ ab. by_order b c
    (λ bc. rw (first_least ab, first_least bc, first_least ab) (first_least (⊑_trans ab bc)))
    (λ cb. rw (first_least ab, second_least cb)))
    (λ ba. by_order b c
    (λ bc. rw (second_least ba, first_least bc) (sym (second_least ba)))
    (λ cb. rw (second_least ba, second_least cb) (sym (second_least (⊑_trans cb ba)))))

pub greatest_assoc : (a b c : ℤ) → greatest (greatest a b) c ≡ greatest a (greatest b c)
greatest_assoc a b c =
    by_order a b
    (λ ab. by_order b c
    (λ bc. rw (second_greatest ab, second_greatest bc) (sym (second_greatest (⊑_trans ab bc))))
    (λ cb. rw (second_greatest ab, first_greatest cb) (sym (second_greatest ab))))
    (λ ba. by_order b c
    (λ bc. rw (first_greatest ba, second_greatest bc))
    (λ cb. rw (first_greatest ba, first_greatest cb, first_greatest ba) (first_greatest (⊑_trans cb ba))))

pub neg_least : (a b : ℤ) → neg_ℤ (least a b) ≡ greatest (neg_ℤ a) (neg_ℤ b)
neg_least a b = by_order a b
    (λ ab. ap neg_ℤ (first_least ab) ∙ sym (first_greatest (⊑-neg ab)))
    (λ ba. ap neg_ℤ (second_least ba) ∙ sym (second_greatest (⊑-neg ba)))

pub neg_greatest : (a b : ℤ) → neg_ℤ (greatest a b) ≡ least (neg_ℤ a) (neg_ℤ b)
neg_greatest a b = by_order a b
    (λ ab. ap neg_ℤ (second_greatest ab) ∙ sym (second_least (⊑-neg ab)))
    (λ ba. ap neg_ℤ (first_greatest ba) ∙ sym (first_least (⊑-neg ba)))

pub shift_least : (a b d : ℤ) → least a b +ℤ d ≡ least (a +ℤ d) (b +ℤ d)
shift_least a b d = by_order a b
    (λ ab. ap (λ z. z +ℤ d) (first_least ab) ∙ sym (first_least (⊑-shift d ab)))
    (λ ba. ap (λ z. z +ℤ d) (second_least ba) ∙ sym (second_least (⊑-shift d ba)))

pub shift_greatest : (a b d : ℤ) → greatest a b +ℤ d ≡ greatest (a +ℤ d) (b +ℤ d)
shift_greatest a b d = by_order a b
    (λ ab. ap (λ z. z +ℤ d) (second_greatest ab) ∙ sym (second_greatest (⊑-shift d ab)))
    (λ ba. ap (λ z. z +ℤ d) (first_greatest ba) ∙ sym (first_greatest (⊑-shift d ba)))

pub least_same : (a : ℤ) → least a a ≡ a
least_same a = first_least (⊑_refl a)

pub greatest_same : (a : ℤ) → greatest a a ≡ a
greatest_same a = first_greatest (⊑_refl a)

-- of a number and one some steps up, and of two some steps up
pub least_up : (a : ℤ) (n : ℕ) → least a (a +ℤ pos n) ≡ a
least_up a n = first_least (record { gap = n; is = refl })

pub greatest_up : (a : ℤ) (m n : ℕ) → m ≤ n → greatest (a +ℤ pos m) (a +ℤ pos n) ≡ a +ℤ pos n
greatest_up a m n h = second_greatest (⊑-up a h)

-- how far they lie
pub least_within : (n : ℕ) (a b : ℤ) → nat_abs a ≤ n → nat_abs b ≤ n → nat_abs (least a b) ≤ n
unfolding least
least_within n a b h k = go (lt_z a b)
  where
    go : (t : Bool) → nat_abs (cond t a b) ≤ n
    go true = h
    go false = k

pub greatest_within : (n : ℕ) (a b : ℤ) → nat_abs a ≤ n → nat_abs b ≤ n → nat_abs (greatest a b) ≤ n
unfolding greatest
greatest_within n a b h k = go (lt_z a b)
  where
    go : (t : Bool) → nat_abs (cond t b a) ≤ n
    go true = k
    go false = h
