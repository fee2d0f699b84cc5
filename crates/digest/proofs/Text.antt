-- The laws of `unbroken`: a byte that is left out, one that is not, and a text in runs.
-- Assumes nothing.
use Rattle.std.proofs.Common.{◌≡◌, ℕ, ◌+◌, ◌<◌, Bool, true, false, cond, not, List, [], ◌∷◌, ◌++◌, length, get_or, drop, refl, ap}
use mathlib.Core.Bool.{false≢true}
use borrow.Author.Tests.{not-true, not-false}
use Rattle.base.specs.And.{◌and◌}
use Rattle.base.proofs.Lists.{drop_next}
use Rattle.digest.specs.declared.State.{State}
use Rattle.digest.specs.Runs.{pushed, fed}
use Rattle.base.specs.Breaks.{is_break}
use Rattle.digest.specs.Text.{unbroken}

-- what is fed of a run, of a text or of any bytes
abbrev pub taken : Bool → List ℕ → List ℕ
taken text t = cond text (unbroken t) t

pub taken_none : (text : Bool) → taken text [] ≡ []
unfolding unbroken
taken_none true = refl
taken_none false = refl

pub taken_break : (text : Bool) (b : ℕ) (t : List ℕ) → (text and is_break b) ≡ true → taken text (b ∷ t) ≡ taken text t
unfolding unbroken ◌and◌
taken_break true b t h = rw (unbroken, h)
taken_break false b t h = absurd (false≢true h)

pub taken_byte : (text : Bool) (b : ℕ) (t : List ℕ) → (text and is_break b) ≡ false → taken text (b ∷ t) ≡ b ∷ taken text t
unfolding unbroken ◌and◌
taken_byte true b t h = rw (unbroken, h)
taken_byte false b t h = refl

-- the byte at i does not count, or does
module _ (text : Bool) (t : List ℕ) (i : ℕ) (inside : i < length t) (s : State) where
  pub left_out : not (text and is_break (get_or t i 0)) ≡ false → fed s (taken text (drop (i + 1) t)) ≡ fed s (taken text (drop i t))
  left_out h = rw (drop_next t i inside, taken_break text (get_or t i 0) (drop (i + 1) t) (not-false _ h))

  pub goes_in : not (text and is_break (get_or t i 0)) ≡ true → fed (pushed s (get_or t i 0)) (taken text (drop (i + 1) t)) ≡ fed s (taken text (drop i t))
  unfolding fed
  goes_in h = rw (drop_next t i inside, taken_byte text (get_or t i 0) (drop (i + 1) t) (not-true _ h))

joined : (x : ℕ) (a b r : List ℕ) (t : Bool) → a ≡ b ++ r → elim t [ true ↦ a | false ↦ x ∷ a ] ≡ elim t [ true ↦ b | false ↦ x ∷ b ] ++ r
joined x a b r true e = e
joined x a b r false e = ap (λ l. x ∷ l) e

-- a text's lines are joined alike wherever it is cut
pub unbroken_append : (a b : List ℕ) → unbroken (a ++ b) ≡ unbroken a ++ unbroken b
unfolding unbroken
unbroken_append [] b = refl
unbroken_append (x ∷ a) b = joined x (unbroken (a ++ b)) (unbroken a) (unbroken b) (is_break x) (unbroken_append a b)
