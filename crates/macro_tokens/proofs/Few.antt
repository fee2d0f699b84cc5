-- No text has more tokens than bytes, and without its leading line ends it is no longer.
-- Assumes nothing.
use Prim.Native.Nat.{ℕ, suc, ◌≤◌}
use mathlib.Core.Bool.{Bool, true, false, cond}
use mathlib.Core.List.{List, [], ◌∷◌}
use native.Mathlib.Omega.{arith}
use lib.ListN.{length, get_or, length-map}
use Rattle.base.specs.And.{◌and◌}
use Rattle.base.specs.Breaks.{is_break}
use Rattle.base.specs.Trimmed.{drop_leading}
use Rattle.macro_tokens.specs.LineEnds.{without_leading}
use Rattle.macro_tokens.specs.Tokens.{token_of, tokens}
use Rattle.macro_tokens.specs.Words.{numeral, joins, onto, words}

onto_few : (b : ℕ) (ws : List (List ℕ)) → length (onto b ws) ≤ suc (length ws)
unfolding onto
onto_few b [] = omega arith
onto_few b (w ∷ ws) = go (joins b and numeral (get_or w 0 0))
  where
    go : (t : Bool) → length (cond t ((b ∷ w) ∷ ws) ((b ∷ []) ∷ w ∷ ws)) ≤ suc (length (w ∷ ws))
    go true = omega arith
    go false = omega arith

words_few : (s : List ℕ) → length (words s) ≤ length s
unfolding words
words_few [] = omega arith
words_few (b ∷ s) = omega (arith, onto_few b (words s), words_few s)

pub tokens_few : (s : List ℕ) → length (tokens s) ≤ length s
unfolding tokens
tokens_few s = rw (length-map (words s) token_of) (words_few s)

pub leading_short : (s : List ℕ) → length (without_leading s) ≤ length s
unfolding drop_leading
leading_short [] = omega arith
leading_short (b ∷ s) = go (leading_short s) (is_break b)
  where
    go : length (without_leading s) ≤ length s → (t : Bool) → length {A = ℕ} (elim t [ true ↦ without_leading s | false ↦ b ∷ s ]) ≤ suc (length s)
    go h true = omega arith
    go h false = omega arith
