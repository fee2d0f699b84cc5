-- What the positions of entries add up to, and where a search for one ends.
-- Assumes nothing.
use Prim.Native.Nat.{ℕ, zero, suc, ◌+◌, ◌-◌, ◌≤◌, ◌<◌}
use mathlib.Core.Path.{◌≡◌, refl, sym, ap, ◌∙◌}
use mathlib.Core.Bool.{Bool, true, false}
use mathlib.Core.List.{List}
use native.Mathlib.Nat.{zero-add, add-zero, sub-zero, not-suc-le-zero}
use native.Mathlib.Numerals.{add-one}
use native.Mathlib.Omega.{arith}
use lib.Dec.{leb}
use borrow.Author.Tests.{le-leb, lt-leb, leb-true, leb-false}
use Rattle.base.specs.Run.{sums}
use Rattle.base.proofs.Run.{sums_snoc}
use Rattle.sheet.specs.Records.{entry_of, role_of}
use Rattle.sheet.specs.declared.Role.{Role}
use Rattle.sheet.specs.declared.Role.TheVariants.{Draws, Uses, Repeats, Defines, Unknown}
use Rattle.law_addresses.specs.Positions.{stands, stands_at, spot}
use Rattle.law_addresses.specs.declared.Spot.{Spot}

stands_one : (role : Role) → stands role ≤ 1
unfolding stands
stands_one Draws = omega arith
stands_one Uses = omega arith
stands_one Repeats = omega arith
stands_one Defines = omega arith
stands_one Unknown = omega arith

-- n entries stand at no more than n positions
pub standing_few : (e : List ℕ) (p n : ℕ) → sums (stands_at e) p n ≤ n
unfolding sums
standing_few e p zero = omega arith
standing_few e p (suc n) = let a = stands_one (role_of (entry_of e p).kind) in let b = standing_few e (suc p) n in omega arith

-- one number more, as a loop adds it
pub next_sum : (F : ℕ → ℕ) (p i s more : ℕ) → s ≡ sums F p i → more ≡ F (p + i) → s + more ≡ sums F p (i + 1)
next_sum F p i s more e f = rw (add-one i, sums_snoc F p i, e, f)

pub no_sum : (F : ℕ → ℕ) (p : ℕ) → 0 ≡ sums F p 0
unfolding sums
no_sum F p = refl

-- a search goes on where an entry holds too few
module _ (F : ℕ → ℕ) (p n m : ℕ) where
  pub spot_here : m ≤ F p → spot F p (suc n) m ≡ record { entry = p; left = m }
  unfolding spot
  spot_here l = rw (le-leb m (F p) l)

  pub spot_on : F p < m → spot F p (suc n) m ≡ spot F (suc p) n (m - F p)
  unfolding spot
  spot_on l = rw (lt-leb m (F p) l)

-- a search that does not end after the entries: where it ends
pub record Spotted (F : ℕ → ℕ) (p n m : ℕ) (s : Spot) : Type 0 where
  pub i : ℕ
  pub i_in : i < n
  pub entry_is : s.entry ≡ p + i
  pub some : 1 ≤ s.left
  pub held : s.left ≤ F (p + i)
  pub position : m ≡ sums F p i + s.left

spotted_later : (F : ℕ → ℕ) (p n m : ℕ) (s : Spot) → F p < m → Spotted F (suc p) n (m - F p) s → Spotted F p (suc n) m s
unfolding sums
spotted_later F p n m s l t =
    let i_in = t.i_in in
    let position = t.position in
    let q : suc p + t.i ≡ p + suc t.i = omega arith in
    record {
      i = suc t.i;
      i_in = omega arith;
      entry_is = t.entry_is ∙ q;
      some = t.some;
      held = rw (← q) t.held;
      position = omega arith;
    }

abbrev Ends : (ℕ → ℕ) → ℕ → ℕ → ℕ → Type 0
Ends F p n m = 1 ≤ m → ((spot F p n m).entry ≡ p + n → ⊥) → Spotted F p n m (spot F p n m)

spotted_step : (F : ℕ → ℕ) (p n m : ℕ) → Ends F (suc p) n (m - F p) → (t : Bool) → leb m (F p) ≡ t → Ends F p (suc n) m
unfolding sums
spotted_step F p n m on true e some behind =
    let l = leb-true m (F p) e in
    rw (spot_here F p n m l)
    (record { i = 0; i_in = omega arith; entry_is = omega arith; some = some; held = rw (add-zero p) l; position = omega arith })
spotted_step F p n m on false e some behind =
    let l = leb-false m (F p) e in
    let q = spot_on F p n m l in
    let place : suc p + n ≡ p + suc n = omega arith in
    rw q (spotted_later F p n m _ l (on (omega arith) (λ z. behind (ap (λ (s : Spot). s.entry) q ∙ z ∙ place))))

pub spotted : (F : ℕ → ℕ) (p n m : ℕ) → 1 ≤ m → ((spot F p n m).entry ≡ p + n → ⊥) → Spotted F p n m (spot F p n m)
spotted F p zero m some behind = absurd (behind (unfold spot in omega arith))
spotted F p (suc n) m some behind = spotted_step F p n m (spotted F (suc p) n (m - F p)) (leb m (F p)) refl some behind

-- the position q of entry i is found there
pub spot_at : (F : ℕ → ℕ) (p n i q : ℕ) → i < n → 1 ≤ q → q ≤ F (p + i) → spot F p n (sums F p i + q) ≡ record { entry = p + i; left = q }
unfolding sums
spot_at F p zero i q l some held = absurd (not-suc-le-zero l)
spot_at F p (suc n) zero q l some held = rw (zero-add q, add-zero p) (spot_here F p n q (rw (add-zero p) at held))
spot_at F p (suc n) (suc i) q l some held =
    let step : suc p + i ≡ p + suc i = omega arith in
    let back : F p + sums F (suc p) i + q - F p ≡ sums F (suc p) i + q = omega arith in
    spot_on F p n (F p + sums F (suc p) i + q) (omega arith)
    ∙ rw (back, ← step) (spot_at F (suc p) n i q (omega arith) some (rw step held))

-- how a loop goes through a search: after i entries, with `left` to go
pub spot_start : (F : ℕ → ℕ) (p n m : ℕ) → spot F p n m ≡ spot F (p + 0) (n - 0) m
spot_start F p n m = rw (add-zero p, sub-zero n)

module _ (F : ℕ → ℕ) (p n m i left : ℕ) (t : spot F p n m ≡ spot F (p + i) (n - i) left) where
  pub spot_end : i ≤ n → n ≤ i → record { entry = p + n; left = left } ≡ spot F p n m
  unfolding spot
  spot_end l g =
      let q : i ≡ n = omega arith in
      let z : n - n ≡ 0 = omega arith in
      sym (rw (q, z) at t)

  module _ (span : ℕ) (s : span ≡ F (p + i)) (l : i < n) where
    more : n - i ≡ suc (n - (i + 1))
    more = omega arith

    pub spot_found : left ≤ span → record { entry = p + i; left = left } ≡ spot F p n m
    spot_found f = sym (t ∙ rw more (spot_here F (p + i) (n - (i + 1)) left (omega arith)))

    pub spot_next : span < left → spot F p n m ≡ spot F (p + (i + 1)) (n - (i + 1)) (left - span)
    spot_next f =
        let q : suc (p + i) ≡ p + (i + 1) = omega arith in
        t ∙ rw (more, s, ← q) (spot_on F (p + i) (n - (i + 1)) left (omega arith))
