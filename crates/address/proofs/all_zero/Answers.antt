-- `address::all_zero` meets its contract: `all` asks of each word whether it is 0.
use Rattle.std.proofs.Common.{rules, ◌≡◌}
use Rattle.std.proofs.lemmas.Iterator.{cases_from_all, YieldsList-from_slice}
use Rattle.base.proofs.Tests.{tests}
use Rattle.address.proofs.Zeros.{all_zero_cases}
use Rattle.address.proofs.all_zero.Goals as goal

pub returns : goal.returns
returns c =
    all_zero_cases c.args.w.now c.all.result
    (cases_from_all _ _ _ (λ x. x ≡ 0) (λ x. x ≡ 0 → ⊥) c.all.ensures.ran (YieldsList-from_slice c.args.w.now (search rules)) (λ x q k. search (rules, tests)) (λ x q k. search (rules, tests)))
