-- An outline as a run of items, i to k, that nothing before it goes on to.
use Rattle.std.specs.Prelude.{ℕ, suc, ◌≤◌, ◌<◌, ◌≡◌, true, false, List}
use Rattle.law_components.specs.Parts.{Part}
use Rattle.law_components.specs.Outlines.{at, joins}

pub record Outlined (ps : List Part) (i k : ℕ) : Type 0 where
  pub inside : i ≤ k
  pub joined : (j : ℕ) → i ≤ j → j < k → joins (at ps j) (at ps (suc j)) ≡ true
  pub first : (j : ℕ) → i ≡ suc j → joins (at ps j) (at ps i) ≡ false
