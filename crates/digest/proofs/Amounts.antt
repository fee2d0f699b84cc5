-- Each rotation amount is between 1 and 31.
-- Assumes nothing.
use Rattle.std.proofs.Common.{ℕ, zero, suc, ◌%◌, ◌<◌, [], ◌∷◌, get_or, arith}
use Rattle.digest.specs.Rounds.{amounts, amount}

abbrev pub Turns : ℕ → Type 0
Turns s = (0 < s) × (s < 32)

one_of_four : (a b c d k : ℕ) → k < 4 → Turns a → Turns b → Turns c → Turns d → Turns (get_or (a ∷ b ∷ c ∷ d ∷ []) k 0)
one_of_four a b c d zero h p q r s = p
one_of_four a b c d (suc zero) h p q r s = q
one_of_four a b c d (suc (suc zero)) h p q r s = r
one_of_four a b c d (suc (suc (suc zero))) h p q r s = s
one_of_four a b c d (suc (suc (suc (suc k)))) h p q r s = absurd (omega arith)

pub amount_turns : (r j : ℕ) → Turns (amount r j)
unfolding amount amounts
amount_turns zero j = one_of_four 7 12 17 22 (j % 4) (omega arith) (omega arith) (omega arith) (omega arith) (omega arith)
amount_turns (suc zero) j = one_of_four 5 9 14 20 (j % 4) (omega arith) (omega arith) (omega arith) (omega arith) (omega arith)
amount_turns (suc (suc zero)) j = one_of_four 4 11 16 23 (j % 4) (omega arith) (omega arith) (omega arith) (omega arith) (omega arith)
amount_turns (suc (suc (suc r))) j = one_of_four 6 10 15 21 (j % 4) (omega arith) (omega arith) (omega arith) (omega arith) (omega arith)
