-- The ways in which the commands end at M02.
-- Assumes nothing.
use Rattle.faults.specs.Rule.{number_of_rule}
use Rattle.faults.specs.declared.Rule.{Rule}
use Rattle.std.specs.Prelude.{Err, Ok, Result, ℕ}
use Prim.Native.Nat.{ℕ}
use mathlib.Core.Path.{◌≡◌}
use borrow.Author.Tests.{eq-eqb, ne_eqb}
use Rattle.sequence.specs.declared.Refusal.{Refusal}
use Rattle.progress.specs.declared.Progress.{Progress}
use Rattle.running.specs.Ends.{settled}

module _ (r : Result Progress Rule) (place : ℕ) (f : Refusal) (rounded : ℕ) where
  pub settles_fault : {rule : Rule} {n : ℕ} → r ≡ Err rule → n ≡ number_of_rule rule → Err (record { number = n; place = place }) ≡ settled r place f rounded
  unfolding settled
  settles_fault q e = rw (q, e)

  pub settles_sheet : {p : Progress} → r ≡ Ok p → f.number ≡ 0 → Ok (record { progress = p; rounded = rounded }) ≡ settled r place f rounded
  unfolding settled
  settles_sheet q e = rw (q, settled, eq-eqb f.number 0 e)

  pub settles_tail : {p : Progress} → r ≡ Ok p → (f.number ≡ 0 → ⊥) → Err f ≡ settled r place f rounded
  unfolding settled
  settles_tail q e = rw (q, settled, ne_eqb f.number 0 e)
