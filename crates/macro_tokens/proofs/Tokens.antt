-- The tokens from a place on: the first of them, and those after it.
-- Assumes nothing.
use Prim.Native.Nat.{ℕ, suc, ◌+◌, ◌-◌, ◌<◌, ◌≤◌}
use mathlib.Core.Path.{◌≡◌, refl}
use mathlib.Core.Bool.{Bool, true, false, cond, not}
use mathlib.Core.List.{List, [], ◌∷◌}
use native.Mathlib.Omega.{arith}
use lib.ListN.{length, take, drop, get_or, drop_of_length-le}
use lib.Seq.{slice, drop-drop}
use borrow.Author.Tests.{lt-ltb}
use Rattle.base.specs.And.{◌and◌}
use Rattle.base.specs.Or.{◌or◌}
use Rattle.base.proofs.Lists.{drop_next, slice_take}
use Rattle.text.specs.First.{first_in, first}
use Rattle.text.proofs.First.{first_from_lem, in_from}
use Rattle.macro_tokens.specs.Words.{numeral, joins, onto, words}
use Rattle.macro_tokens.specs.Tokens.{tokens, word_end, lexed}

-- the end of the run of digits and points with which these bytes begin, which stand from `at` on
abbrev run : List ℕ → ℕ → ℕ
run = first_in (λ b. not (numeral b))

numeral_joins : (b : ℕ) → numeral b ≡ true → joins b ≡ true
unfolding joins ◌or◌
numeral_joins b e = rw e

-- the first word begins with the first byte
word_starts : (b : ℕ) (s : List ℕ) → (u : List ℕ) × (v : List (List ℕ)) × (words (b ∷ s) ≡ (b ∷ u) ∷ v)
unfolding words onto
word_starts b s = go (words s)
  where
    by : (t : Bool) (w : List ℕ) (ws : List (List ℕ)) →
        (u : List ℕ) × (v : List (List ℕ)) × (cond t ((b ∷ w) ∷ ws) ((b ∷ []) ∷ w ∷ ws) ≡ (b ∷ u) ∷ v)
    by true w ws = (w, ws, refl)
    by false w ws = ([], w ∷ ws, refl)

    go : (l : List (List ℕ)) → (u : List ℕ) × (v : List (List ℕ)) × (onto b l ≡ (b ∷ u) ∷ v)
    go [] = ([], [], refl)
    go (w ∷ ws) = by (joins b and numeral (get_or w 0 0)) w ws

-- a byte that joins takes the run after it into its word
word_run : (b : ℕ) (t : List ℕ) (at : ℕ) → joins b ≡ true →
    words (b ∷ t) ≡ (b ∷ take (run t at - at) t) ∷ words (drop (run t at - at) t)
unfolding words onto first_in ◌and◌
word_run b [] at j = let z : at - at ≡ 0 = omega arith in rw z
word_run b (c ∷ t) at j = go (word_run c t (at + 1)) (in_from (λ b. not (numeral b)) t (at + 1)).0 (numeral c) refl
  where
    go : (joins c ≡ true → words (c ∷ t) ≡ (c ∷ take (run t (at + 1) - (at + 1)) t) ∷ words (drop (run t (at + 1) - (at + 1)) t)) →
        at + 1 ≤ run t (at + 1) → (x : Bool) → numeral c ≡ x →
        onto b (words (c ∷ t)) ≡ (b ∷ take (run (c ∷ t) at - at) (c ∷ t)) ∷ words (drop (run (c ∷ t) at - at) (c ∷ t))
    go ih l true e =
        let z : run t (at + 1) - at ≡ suc (run t (at + 1) - (at + 1)) = omega arith in
        rw (ih (numeral_joins c e), onto, j, e, first_in, z)
    go ih l false e =
        let z : at - at ≡ 0 = omega arith in
        let w = word_starts c t in
        rw (w.2, onto, j, e, first_in, z, w.2)

-- any other byte is a word
word_one : (b : ℕ) (t : List ℕ) → joins b ≡ false → words (b ∷ t) ≡ (b ∷ []) ∷ words t
unfolding words onto ◌and◌
word_one b t j = go (words t)
  where
    go : (l : List (List ℕ)) → onto b l ≡ (b ∷ []) ∷ l
    go [] = refl
    go (w ∷ ws) = rw j

module _ (s : List ℕ) (at : ℕ) where
  -- one word, and those after it
  words_next : at < length s → words (drop at s) ≡ slice at (word_end s at) s ∷ words (drop (word_end s at) s)
  unfolding word_end
  words_next h = go (joins (get_or s at 0)) refl
    where
      one : at + 1 - at ≡ 1
      one = omega arith

      go : (x : Bool) → joins (get_or s at 0) ≡ x →
          words (drop at s)
          ≡ slice at (cond x (first (λ b. not (numeral b)) s (at + 1)) (at + 1)) s ∷ words (drop (cond x (first (λ b. not (numeral b)) s (at + 1)) (at + 1)) s)
      go true e =
          let end : ℕ = first (λ b. not (numeral b)) s (at + 1) in
          let low : at + 1 ≤ end = first_from_lem (λ b. not (numeral b)) s (at + 1) in
          let n : end - at ≡ suc (end - (at + 1)) = omega arith in
          let m : at + 1 + (end - (at + 1)) ≡ end = omega arith in
          rw (slice_take at end s, n, drop_next s at h, word_run (get_or s at 0) (drop (at + 1) s) (at + 1) e, drop-drop (end - (at + 1)) (at + 1) s, m)
      go false e = rw (slice_take at (at + 1) s, one, drop_next s at h, word_one (get_or s at 0) (drop (at + 1) s) e)

  -- one token, and those after it
  pub tokens_next : at < length s → tokens (drop at s) ≡ (lexed s at).token ∷ tokens (drop (lexed s at).next s)
  unfolding tokens lexed
  tokens_next h = rw (lt-ltb at (length s) h, words_next h)

  pub tokens_end : length s ≤ at → tokens (drop at s) ≡ []
  unfolding tokens words
  tokens_end h = rw (drop_of_length-le s h)

  -- the next token stands after this one
  pub lexed_further : at < length s → at + 1 ≤ (lexed s at).next
  unfolding lexed word_end
  lexed_further h = rw (lt-ltb at (length s) h) (go (joins (get_or s at 0)))
    where
      go : (x : Bool) → at + 1 ≤ cond x (first (λ b. not (numeral b)) s (at + 1)) (at + 1)
      go true = first_from_lem (λ b. not (numeral b)) s (at + 1)
      go false = omega arith
