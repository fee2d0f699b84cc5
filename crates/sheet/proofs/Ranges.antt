-- `all` over a range is the test of its numbers, one after the other.
-- Assumes nothing.
use Prim.Native.Nat.{ℕ, ◌+◌, ◌<◌}
use mathlib.Core.Path.{◌≡◌, sym}
use mathlib.Core.Bool.{Bool, true, false}
use mathlib.Core.List.{List}
use native.Mathlib.Omega.{arith}
use lib.ListN.{length}
use denote.Param.Members.{Mut}
use Rattle.std.specs.Bool.{MatchBool}
use Rattle.std.specs.Prelude.{Option, MatchOption}
use Rattle.std.specs.Fn.{Called}
use Rattle.std.specs.Iterator.{YieldsThen}
use Rattle.std.specs.List.{AllWithin, HoldsAt, FoldsTo, range_with_len}
use Rattle.std.specs.declared.ops.Range.{Range}
use Rattle.std.proofs.lemmas.List.FromFn.{length-range_with_len, get_or-range_with_len}
use Rattle.std.proofs.lemmas.Iterator.{cases_from_all, YieldsList-from_range}
use Rattle.std.proofs.iter.Yields.{nat_range_steps}
use Rattle.sheet.specs.Every.{every}
use Rattle.sheet.proofs.Every.{every_all, every_not}

every_cases : (P : ℕ → Bool) (p n : ℕ) (r : Bool) →
    MatchBool r (AllWithin (λ x. P x ≡ true) (range_with_len p n) 0 (length (range_with_len p n)))
    ((k : ℕ) × (k < length (range_with_len p n)) × HoldsAt (λ x. P x ≡ false) (range_with_len p n) k)
    → r ≡ every P p n
every_cases P p n true h =
    sym (every_all P p n (λ i l. rw (get_or-range_with_len p n i 0 l) at (h i 0 (omega arith) (omega (arith, length-range_with_len p n)))))
every_cases P p n false h =
    let l : h.0 < n = omega (arith, h.1, length-range_with_len p n) in
    sym (every_not P p n h.0 l (rw (get_or-range_with_len p n h.0 0 l) at (h.2 0)))

pub every_from_all : {F : Type 0} {g : Mut F (ℕ × Unit {0}) Bool} {s : Range ℕ} (u : Range ℕ) (f : F) (r : Bool) (P : ℕ → Bool) (p n : ℕ)
    → (xs : List ℕ) × (o : Option ℕ) × (j : F) × YieldsThen nat_range_steps s xs o u × FoldsTo (λ p x q. Called g p (x, tt) true q) f xs j × MatchOption o (r ≡ true) (λ x. (r ≡ false) × ((h : F) × Called g j (x, tt) false h))
    → s ≡ record { start = p; end = p + n }
    → ((x : ℕ) (q : F) → Called g f (x, tt) true q → (q ≡ f) × (P x ≡ true)) → ((x : ℕ) (q : F) → Called g f (x, tt) false q → P x ≡ false)
    → r ≡ every P p n
every_from_all u f r P p n ran e holds fails =
    every_cases P p n r (cases_from_all u f r (λ x. P x ≡ true) (λ x. P x ≡ false) ran (YieldsList-from_range p (p + n) n e (omega arith)) holds fails)
