-- The order in which the rules of one command are tested: by their numbers, but 30 right after 4, 29 right after 11 and 31 right after 12
-- (02, [7] and [9]; decision 487).
use Rattle.std.specs.Prelude.{ℕ, Bool, not, [], ◌∷◌, ltb, eqb}
use Rattle.base.specs.And.{◌and◌}
use Rattle.base.specs.Or.{◌or◌}
use Rattle.base.specs.Choose.{choose}

-- the rule right after which a rule is tested; of one that is tested by its number, itself
unfoldable pub rank_of : ℕ → ℕ
rank_of n = choose ((eqb n 30, 4) ∷ (eqb n 29, 11) ∷ (eqb n 31, 12) ∷ []) n

-- a stands before the rule after which b is tested, or is that rule
unfoldable pub tested_before : ℕ → ℕ → Bool
tested_before a b = ltb (rank_of a) (rank_of b) or (eqb a (rank_of b) and not (eqb b (rank_of b)))

-- of the faults of a code and of the operation after it, 0 where there is none, the one tested first
unfoldable pub sooner : ℕ → ℕ → ℕ
sooner a b = choose ((eqb a 0, b) ∷ (eqb b 0, a) ∷ (tested_before b a, b) ∷ []) a
