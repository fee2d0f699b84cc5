-- What is open around stays so where its openers and its records stay; the innermost container may rise, if it is a block.
-- Assumes nothing.
use Prim.Native.Nat.{ℕ, suc, ◌-◌, ◌≤◌, ◌<◌}
use mathlib.Core.Path.{◌≡◌, sym, ap, ◌∙◌}
use mathlib.Core.List.{List, [], ◌∷◌}
use native.Mathlib.Nat.{le_refl}
use native.Mathlib.Omega.{arith}
use Rattle.sheet.specs.Records.{entry_of, aperture_of}
use Rattle.sheet.specs.declared.Aperture.{Aperture}
use Rattle.law_open_store.specs.Open.{opener}
use Rattle.law_open_store.proofs.Grow.{MayRise, stays_as_high}
use Rattle.law_open_store.proofs.Starts.{starts_below}
use Rattle.law_reading.specs.State.{Opened, State, block, repeat}
use Rattle.progress.specs.Around.{Around}
use Rattle.progress.specs.Lent.{Lent}
use Rattle.progress.specs.Knows.{Knows}
use Rattle.progress.specs.declared.Progress.{Progress}

-- the innermost container starts on the stack
pub start_low : (w : Lent) (p : Progress) (s : State) → Knows w p s → p.builder.start ≤ p.builder.high
start_low w p s k = starts_below _ _ _ _ _ _ _ _ _ _ _ _ _ k.shows.opened

-- a stack that stays keeps the openers that lie on it
pub openers_kept : (e e' : List ℕ) (room high : ℕ) → ((q : ℕ) → q < high → entry_of e (room - suc q) ≡ entry_of e' (room - suc q)) →
    (q : ℕ) → 1 ≤ q → q ≤ high → opener e room q ≡ opener e' room q
openers_kept e e' room high same q some below = let p : suc (q - 1) ≡ q = omega arith in rw p at (same (q - 1) (omega arith))

-- what is open, over stores that agree on the openers up to `high` of the stack and on the records below `known`
module _ (e a e' a' : List ℕ) (room high known : ℕ) (openers : (q : ℕ) → 1 ≤ q → q ≤ high → opener e room q ≡ opener e' room q)
    (records : (i : ℕ) → i < known → aperture_of a i ≡ aperture_of a' i) where
  pub around_kept : (os : List Opened) (limit limit' start h h' depth copies sheet : ℕ) → start ≤ high → limit ≤ known → limit ≤ limit' → MayRise h h' →
      Around e a room limit os start h depth copies sheet → Around e' a' room limit' os start h' depth copies sheet
  unfolding Around
  around_kept [] limit limit' start h h' depth copies sheet inside few wider may o =
      let ten = o.1 in
      (o.0, may.stays (omega arith) ∙ ten, o.2)
  around_kept (block n l ∷ os) limit limit' start h h' depth copies sheet inside few wider may o =
      let b = o.0 in
      let low = b.low in
      let below = b.below in
      let early = b.early in
      let rises = may.rises in
      let s = records (opener e room start).who (omega arith) in
      rw (← openers start (omega arith) inside) (
        record {
          low = omega arith;
          lower = may.lower b.lower;
          some = b.some;
          below = below;
          early = omega arith;
          number = ap (λ (x : Aperture). x.number) (sym s) ∙ b.number;
          is_open_lem = ap (λ (x : Aperture). x.kind) (sym s) ∙ b.is_open_lem;
          level = b.level;
          counts = b.counts;
        },
        around_kept os (opener e room start).who (opener e room start).who (opener e room start).sx (opener e room start).sy (opener e room start).sy (depth - 1) copies sheet
            (omega arith) (omega arith) (le_refl _) (stays_as_high _) o.1,
      )
  around_kept (repeat l ∷ os) limit limit' start h h' depth copies sheet inside few wider may o =
      let b = o.0 in
      let nine = b.nine in
      rw (← openers start b.some inside) (
        record {
          nine = may.stays (omega arith) ∙ nine;
          none = b.none;
          some = b.some;
          first = b.first;
          copies_are = b.copies_are;
          sheet_is = b.sheet_is;
          level = b.level;
          counts = b.counts;
        },
        around_kept os limit limit' 0 10 10 0 1 0 (omega arith) few wider (stays_as_high _) o.1,
      )
