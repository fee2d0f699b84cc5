-- A search among the entries of a container can be made, and ends at one entry alone.
-- Assumes nothing.
use Prim.Native.Nat.{ℕ, zero, suc, ◌+◌, ◌-◌, ◌≤◌, ◌<◌}
use mathlib.Core.Path.{◌≡◌}
use mathlib.Core.List.{List}
use native.Mathlib.Nat.{add-zero}
use native.Mathlib.Omega.{arith}
use Rattle.base.proofs.Run.{sums_snoc}
use Rattle.sheet.specs.Records.{entry_of}
use Rattle.sheet.specs.Valid.{size_at}
use Rattle.sheet.specs.declared.Container.{Container}
use Rattle.sheet.proofs.Expand.{opens}
use Rattle.sheet.proofs.Sound.{rooms}
use Rattle.descend.specs.Search.{Searched, Found, Held}

-- a container of a sheet with an item n
pub searched : (e a : List ℕ) (k : Container) (n : ℕ) → Held e a k n → Searched e k n
searched e a k n h =
    let s = h.sound in
    let o = opens h.head e a h.ok k s n h.inside in
    record {
      inside = omega (arith, s.ok.inside, (rooms _ _ _ h.ok).0);
      some = o.0;
      begins = o.1;
      rises = λ q low high.
          let i : ℕ = q - k.first in
          let here : k.first + i ≡ q = omega arith in
          let next : k.first + suc i ≡ q + 1 = omega arith in
          let b = rw here at (s.ok.before_is i (omega arith)) in
          let b' = rw next at (s.ok.before_is (suc i) (omega arith)) in
          omega (arith, b, b', sums_snoc (size_at e a) k.first i);
    }

module _ (e : List ℕ) (k : Container) (n : ℕ) (s : Searched e k n) where
  -- d entries further on there are no fewer items before
  rises_far : (q d : ℕ) → k.first ≤ q → q + d < k.first + k.len → (entry_of e q).before ≤ (entry_of e (q + d)).before
  rises_far q zero low high = rw (add-zero q) (omega arith)
  rises_far q (suc d) low high =
      let ih = rises_far q d low (omega arith) in
      let up = s.rises (q + d) (omega arith) (omega arith) in
      let p : q + d + 1 ≡ q + suc d = omega arith in
      omega (arith, ih, rw p at up)

  -- an entry after the last that begins with item n or before it begins after item n
  not_before : (p q : ℕ) → Found e k n p → Found e k n q → p < q → ⊥
  not_before p q f g l =
      let d : p + 1 + (q - (p + 1)) ≡ q = omega arith in
      let far = rw d at (rises_far (p + 1) (q - (p + 1)) (omega (arith, f.low)) (omega (arith, g.high))) in
      omega (arith, far, f.next (omega (arith, g.high)), g.begins)

  pub found_once : (p q : ℕ) → Found e k n p → Found e k n q → p ≡ q
  found_once p q f g =
      let a : p < q → ⊥ = not_before p q f g in
      let b : q < p → ⊥ = not_before q p g f in
      omega arith
