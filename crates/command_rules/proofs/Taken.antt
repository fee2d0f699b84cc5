-- What is taken is refused: with 7 in a region, and else with 8.
-- Assumes nothing.
use Prim.Native.Nat.{ℕ}
use mathlib.Core.Path.{◌≡◌, refl, sym, ◌∙◌}
use mathlib.Core.Bool.{Bool, true, false}
use native.Mathlib.Omega.{arith}
use Rattle.base.specs.Choose.{pick}
use Rattle.faults.specs.Rule.{number_of_rule}
use Rattle.faults.specs.declared.Rule.{Rule}
use Rattle.faults.specs.declared.Rule.TheVariants.{UnknownOrTaken}
use Rattle.faults.proofs.Rules.{some_rule}
use Rattle.graphics.specs.declared.Graphics.{Graphics}
use Rattle.command_rules.specs.Rules.{region_fault}

module _ (g : Graphics) {n : ℕ} (told : n ≡ region_fault g) where
  pub taken_within : (rule : Rule) → number_of_rule rule ≡ n → number_of_rule rule ≡ pick g.region.on 7 8
  unfolding region_fault pick
  taken_within rule is = by_test g.region.on (is ∙ told)
    where
      by_test : (t : Bool) → number_of_rule rule ≡ pick t 7 0 → number_of_rule rule ≡ pick t 7 8
      by_test true e = e
      by_test false e = absurd (some_rule rule e)

  pub taken_outside : n ≡ 0 → number_of_rule UnknownOrTaken ≡ pick g.region.on 7 8
  unfolding region_fault pick number_of_rule
  taken_outside none = by_test g.region.on (sym none ∙ told)
    where
      by_test : (t : Bool) → ◌≡◌ {A = ℕ} 0 (pick t 7 0) → ◌≡◌ {A = ℕ} 8 (pick t 7 8)
      by_test true e = absurd (let z : ◌≡◌ {A = ℕ} 0 7 = e in omega arith)
      by_test false e = refl
