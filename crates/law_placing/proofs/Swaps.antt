-- A flip of an item's kind: twice is none, and what an item of a kind uses stays.
-- Assumes nothing.
use Prim.Native.Nat.{ℕ}
use mathlib.Core.Path.{◌≡◌, refl, sym, ap, ◌∙◌}
use mathlib.Core.Bool.{Bool, true, false, xor}
use lib.Dec.{eqb}
use borrow.Author.Tests.{eqb-true}
use Rattle.place.specs.Item.{has_start, has_end, is_arc, is_oriented}
use Rattle.place.specs.Placing.{swapped}

-- a statement of every kind: of the four that a flip changes, and of the others
by_kind : (P : ℕ → Type 0) → P 2 → P 3 → P 7 → P 8 → ((k : ℕ) → swapped true k ≡ k → P k) → (k : ℕ) → P k
unfolding swapped
by_kind P two three seven eight other k = go (eqb k 2) (eqb k 3) (eqb k 7) (eqb k 8) refl refl refl refl
  where
    go : (a b c d : Bool) → eqb k 2 ≡ a → eqb k 3 ≡ b → eqb k 7 ≡ c → eqb k 8 ≡ d → P k
    go true b c d e2 e3 e7 e8 = rw (eqb-true k 2 e2) two
    go false true c d e2 e3 e7 e8 = rw (eqb-true k 3 e3) three
    go false false true d e2 e3 e7 e8 = rw (eqb-true k 7 e7) seven
    go false false false true e2 e3 e7 e8 = rw (eqb-true k 8 e8) eight
    go false false false false e2 e3 e7 e8 = other k (rw (e2, e3, e7, e8))

swapped_back : (k : ℕ) → swapped true (swapped true k) ≡ k
unfolding swapped
swapped_back = by_kind (λ k. swapped true (swapped true k) ≡ k) refl refl refl refl (λ k e. ap (swapped true) e ∙ e)

pub swapped_twice : (f g : Bool) (k : ℕ) → swapped f (swapped g k) ≡ swapped (xor f g) k
unfolding xor
swapped_twice true true k = swapped_back k ∙ unfold swapped in refl
swapped_twice true false k = unfold swapped in refl
swapped_twice false true k = unfold swapped in refl
swapped_twice false false k = unfold swapped in refl

-- what a test of kinds says is the same after a flip, if it is of cw and ccw
same_test : (P : ℕ → Bool) → P 2 ≡ P 3 → P 7 ≡ P 8 → (f : Bool) (k : ℕ) → P (swapped f k) ≡ P k
unfolding swapped
same_test P low high true k = by_kind (λ k. P (swapped true k) ≡ P k) (sym low) low (sym high) high (λ k e. ap P e) k
same_test P low high false k = refl

pub start_swapped : (f : Bool) (k : ℕ) → has_start (swapped f k) ≡ has_start k
unfolding has_start
start_swapped f k = same_test has_start refl refl f k

pub end_swapped : (f : Bool) (k : ℕ) → has_end (swapped f k) ≡ has_end k
unfolding has_end
end_swapped f k = same_test has_end refl refl f k

pub arc_swapped : (f : Bool) (k : ℕ) → is_arc (swapped f k) ≡ is_arc k
unfolding is_arc
arc_swapped f k = same_test is_arc refl refl f k

pub oriented_swapped : (f : Bool) (k : ℕ) → is_oriented (swapped f k) ≡ is_oriented k
unfolding is_oriented
oriented_swapped f k = same_test is_oriented refl refl f k
