-- The laws of `fed`: one run after another, the length, and whole blocks.
-- Assumes nothing.
use Rattle.std.proofs.Common.{◌≡◌, ℕ, zero, suc, ◌+◌, ◌-◌, ◌*◌, ◌/◌, ◌%◌, ◌^◌, ◌<◌, ◌≤◌, Bool, true, false, cond, eqb, List, [], ◌∷◌, ◌++◌, length, take, drop, set, sym, refl, ap, ◌∙◌, append-nil, zero-add, arith, length-drop, length-set, take-append-drop, drop_of_length-le, length-take, drop-drop, eq-eqb, ne_eqb}
use lib.ListN.{length-replicate}
use lib.Seq.{sets, sets-eq}
use Rattle.digest.specs.declared.Words.{Words}
use Rattle.digest.specs.Rounds.{block}
use Rattle.digest.specs.declared.State.{State}
use Rattle.digest.specs.Md5.{blocks}
use Rattle.digest.specs.Runs.{state, empty, pushed, fed}

-- feeding a and then b is feeding a ++ b
pub fed_append : (s : State) (a b : List ℕ) → fed s (a ++ b) ≡ fed (fed s a) b
unfolding fed
fed_append s [] b = refl
fed_append s (x ∷ a) b = fed_append (pushed s x) a b

-- counting goes on modulo 2 ^ 64
pub counted : (n j k m : ℕ) → j + k ≡ m → ((n + j) % 2 ^ 64 + k) % 2 ^ 64 ≡ (n + m) % 2 ^ 64
counted n j k m e = omega arith

pub length_empty : length empty ≡ 64
unfolding empty
length_empty = length-replicate {A = ℕ} 64 0

-- a byte that leaves the block open, and one that fills it
module _ (s : State) (b : ℕ) where
  pub pushed_open : (s.length % 64 ≡ 63 → ⊥) → pushed s b ≡ state s.words (set s.rest (s.length % 64) b) ((s.length + 1) % 2 ^ 64)
  unfolding pushed
  pushed_open h = rw (ne_eqb _ _ h)

  pub pushed_full : s.length % 64 ≡ 63 → pushed s b ≡ state (block (set s.rest (s.length % 64) b) s.words) empty ((s.length + 1) % 2 ^ 64)
  unfolding pushed
  pushed_full h = rw (eq-eqb _ _ h)

either : (t : Bool) (x y : List ℕ) → length x ≡ 64 → length y ≡ 64 → length (cond t x y) ≡ 64
either true x y p q = p
either false x y p q = q

-- the length, and the room for a block
pub fed_length : (s : State) (t : List ℕ) → s.length < 2 ^ 64 → (fed s t).length ≡ (s.length + length t) % 2 ^ 64
unfolding fed pushed
fed_length s [] h = omega arith
fed_length s (b ∷ t) h = fed_length (pushed s b) t (omega arith) ∙ counted s.length 1 (length t) (length (b ∷ t)) (omega arith)

pub fed_rest : (s : State) (t : List ℕ) → length s.rest ≡ 64 → length (fed s t).rest ≡ 64
unfolding fed pushed
fed_rest s [] h = h
fed_rest s (b ∷ t) h =
    fed_rest (pushed s b) t (either (eqb (s.length % 64) 63) _ _ length_empty (length-set s.rest (s.length % 64) b ∙ h))

-- the bytes that fill the block: they go to their places, and the block is worked into the words
pub fed_full : (s : State) (t : List ℕ) → s.length % 64 + length t ≡ 64 →
    fed s t ≡ state (block (sets s.rest (s.length % 64) t) s.words) empty ((s.length + length t) % 2 ^ 64)
unfolding fed
fed_full s [] h = absurd (omega arith)
fed_full s (b ∷ []) h = pushed_full s b (omega arith)
fed_full s (b ∷ c ∷ t) h =
    let still : s.length % 64 ≡ 63 → ⊥ = λ e. omega arith in
    let next : (s.length + 1) % 2 ^ 64 % 64 ≡ suc (s.length % 64) = omega arith in
    let after = state s.words (set s.rest (s.length % 64) b) ((s.length + 1) % 2 ^ 64) in
    rw (pushed_open s b still) (rw (next, counted s.length 1 (length (c ∷ t)) (length (b ∷ c ∷ t)) (omega arith)) at (fed_full after (c ∷ t) (omega arith)))

-- a block whole, from a place where a block begins
pub fed_block : (s : State) (x : List ℕ) → s.length % 64 ≡ 0 → length s.rest ≡ 64 → length x ≡ 64 →
    fed s x ≡ state (block x s.words) empty ((s.length + 64) % 2 ^ 64)
fed_block s x h k l =
    let past : length s.rest ≤ length x = omega arith in
    let none : drop (length x) s.rest ≡ [] = drop_of_length-le s.rest past in
    let e : sets s.rest 0 x ≡ x = sets-eq x s.rest 0 (omega arith) ∙ rw (zero-add, none) (append-nil x) in
    rw (h, e, l) at (fed_full s x (omega arith))

-- the first of several blocks
fed_first : (s : State) (p : List ℕ) → s.length % 64 ≡ 0 → length s.rest ≡ 64 → 64 ≤ length p →
    fed s p ≡ fed (state (block (take 64 p) s.words) empty ((s.length + 64) % 2 ^ 64)) (drop 64 p)
fed_first s p h k l =
    let first : length (take 64 p) ≡ 64 = simp length-take (omega arith) in
    ap (fed s) (sym (take-append-drop 64 p)) ∙ fed_append s (take 64 p) (drop 64 p) ∙ ap (λ q. fed q (drop 64 p)) (fed_block s (take 64 p) h k first)

-- one block or more, from a place where a block begins
pub fed_blocks : (n : ℕ) (s : State) (p : List ℕ) → s.length % 64 ≡ 0 → length s.rest ≡ 64 → length p ≡ 64 * suc n →
    fed s p ≡ state (blocks (suc n) p s.words) empty ((s.length + length p) % 2 ^ 64)
unfolding fed blocks
fed_blocks zero s p h k l =
    let past : length p ≤ 64 = omega arith in
    let only : length p ≡ 64 = omega arith in
    rw only (rw (drop_of_length-le p past) at (fed_first s p h k (omega arith)))
fed_blocks (suc n) s p h k l =
    let after = state (block (take 64 p) s.words) empty ((s.length + 64) % 2 ^ 64) in
    let left : length (drop 64 p) ≡ 64 * suc n = simp length-drop (omega arith) in
    fed_first s p h k (omega arith)
    ∙ (rw (counted s.length 64 (length (drop 64 p)) (length p) (omega arith)) at (fed_blocks n after (drop 64 p) (omega arith) length_empty left))

-- the blocks of t: one and those behind it, or none
module _ (t : List ℕ) (w : Words) where
  pub blocks_next : {x behind : List ℕ} → 64 ≤ length t → x ≡ take 64 t → behind ≡ drop 64 t →
      blocks (length behind / 64) behind (block x w) ≡ blocks (length t / 64) t w
  unfolding blocks
  blocks_next h e f =
      let one : length t / 64 ≡ suc (length (drop 64 t) / 64) = omega (arith, length-drop 64 t) in
      rw (e, f, one)

  pub blocks_none : length t < 64 → w ≡ blocks (length t / 64) t w
  unfolding blocks
  blocks_none h =
      let none : length t / 64 ≡ 0 = omega arith in
      rw none

-- A run in three parts: the first `lead` bytes fill the block, whole blocks reach to `end`, and the rest follows.
module _ (s : State) (t : List ℕ) (lead end : ℕ) (fits : s.length < 2 ^ 64) (size : length s.rest ≡ 64) (fills : (s.length + lead) % 64 ≡ 0)
    (order : lead + 64 ≤ end) (inside : end ≤ length t) (whole : (end - lead) % 64 ≡ 0) where
  abbrev filled : State
  filled = fed s (take lead t)

  abbrev middle : List ℕ
  middle = take (end - lead) (drop lead t)

  length_middle : length middle ≡ end - lead
  length_middle = simp (length-take, length-drop) (omega arith)

  filled_length : filled.length % 64 ≡ 0
  filled_length =
      let n : length (take lead t) ≡ lead = simp length-take (omega arith) in
      let f = fed_length s (take lead t) fits in
      omega arith

  after_lead : middle ++ drop end t ≡ drop lead t
  after_lead =
      let e : lead + (end - lead) ≡ end = omega arith in
      rw (drop-drop (end - lead) lead t, e) at (take-append-drop (end - lead) (drop lead t))

  pub fed_parts : fed (state (blocks (length middle / 64) middle filled.words) empty ((filled.length + (end - lead)) % 2 ^ 64)) (drop end t) ≡ fed s t
  fed_parts =
      let l = length_middle in
      let n : length middle ≡ 64 * suc (length middle / 64 - 1) = omega arith in
      let m : suc (length middle / 64 - 1) ≡ length middle / 64 = omega arith in
      let b = rw (m, l) at (fed_blocks (length middle / 64 - 1) filled middle filled_length (fed_rest s (take lead t) size) n) in
      rw l (ap (λ q. fed q (drop end t)) (sym b))
      ∙ sym (fed_append filled middle (drop end t)) ∙ ap (fed filled) after_lead ∙ sym (fed_append s (take lead t) (drop lead t)) ∙ ap (fed s) (take-append-drop lead t)
