-- Counts of items: when so many more are past a number, and copies counted by division.
-- Assumes nothing.
use Prim.Native.Nat.{ℕ, ◌+◌, ◌-◌, ◌*◌, ◌/◌, ◌≤◌, ◌<◌}
use mathlib.Core.Path.{◌≡◌, refl, sym, ◌∙◌}
use mathlib.Core.Bool.{Bool, true, false, not}
use native.Mathlib.Nat.{div-lt_iff_lt-mul, mul_comm, zero-mul}
use native.Mathlib.Omega.{arith}
use lib.Dec.{ltb, leb}
use borrow.Author.Tests.{lt-ltb, le-ltb, le-leb, lt-leb, leb-true, leb-false}
use Rattle.base.proofs.Tests.{ltb_agree}

-- past a number is not at most it
not_under : (n M : ℕ) → ltb M n ≡ not (leb n M)
not_under n M = by_test (leb n M) refl
  where
    by_test : (t : Bool) → leb n M ≡ t → ltb M n ≡ not t
    by_test true e = le-ltb M n (leb-true n M e)
    by_test false e = lt-ltb M n (leb-false n M e)

-- past it already, or by what is left of it
pub already : (n k M : ℕ) → M < n → true ≡ not (leb (n + k) M)
already n k M h = rw (lt-leb (n + k) M (omega arith)) refl

pub by_what_is_left : (n k M : ℕ) → n ≤ M → ltb (M - n) k ≡ not (leb (n + k) M)
by_what_is_left n k M h = ltb_agree (M - n) k M (n + k) (λ q. omega arith) (λ q. omega arith) ∙ not_under (n + k) M

-- no copies
pub none : (s c m M : ℕ) → s ≤ M → c ≡ 0 → false ≡ not (leb (s + c * m) M)
none s c m M h e = rw (e, zero-mul m, le-leb (s + 0) M (omega arith)) refl

-- s and c times m are past M where m is past the quotient of what s leaves
pub shared : (s c m M : ℕ) → s ≤ M → (c ≡ 0 → ⊥) → not (leb m ((M - s) / c)) ≡ not (leb (s + c * m) M)
shared s c m M h some = sym (not_under m ((M - s) / c)) ∙ by_test (leb (s + c * m) M) refl
  where
    k : 1 ≤ c
    k = omega (arith, some)

    not_below : (n m : ℕ) → (n < m → ⊥) → m ≤ n
    not_below n m f = omega arith

    by_test : (t : Bool) → leb (s + c * m) M ≡ t → ltb ((M - s) / c) m ≡ not t
    by_test true e =
        let f = leb-true (s + c * m) M e in
        let p = mul_comm c m in
        le-ltb _ _ (not_below ((M - s) / c) m (λ q. let g : M - s < m * c = (div-lt_iff_lt-mul k).0 q in omega (arith, f, g, p, h)))
    by_test false e =
        let f = leb-false (s + c * m) M e in
        let p = mul_comm c m in
        let g : M - s < m * c = omega (arith, f, p, h) in
        lt-ltb _ _ ((div-lt_iff_lt-mul k).1 g)
