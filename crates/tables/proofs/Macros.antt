-- A macro more whose name was not found: it is read back as it was put, the others stay, and names are found by it too.
-- Assumes nothing.
use Rattle.std.specs.Prelude.{Err}
use Prim.Native.Nat.{ℕ, suc, ◌+◌, ◌*◌, ◌≤◌, ◌<◌}
use mathlib.Core.Path.{◌≡◌, refl}
use mathlib.Core.List.{List}
use native.Mathlib.Nat.{add-zero}
use native.Mathlib.Omega.{arith}
use lib.ListN.{length, get_or}
use lib.Seq.{slice}
use Rattle.index.specs.Tree.{record_width}
use Rattle.index.specs.Names.{key_of, named, Named}
use Rattle.tables.specs.declared.Macro.{Macro}
use Rattle.tables.specs.Added.{added}
use Rattle.tables.specs.Macros.{macro_width, macro_room, macro_of, macro_words}
use Rattle.tables.proofs.Adding.{added_behind, word_new, word_kept}
use Rattle.tables.proofs.Names.{name_ends, named_added}

-- a macro is its first four words
macro_same : (m : List ℕ) (i : ℕ) (r : Macro) → get_or m (i * macro_width + 0) 0 ≡ r.from → get_or m (i * macro_width + 1) 0 ≡ r.to → get_or m (i * macro_width + 2) 0 ≡ r.first
    → get_or m (i * macro_width + 3) 0 ≡ r.end → macro_of m i ≡ r
unfolding macro_of
macro_same m i r p q s t = let p' = rw (add-zero (i * macro_width)) at p in λ x. record { from = p' x; to = q x; first = s x; end = t x }

module _ (file m : List ℕ) (used link : ℕ) (r : Macro) (room : used < macro_room m) (n : Named file m used)
    (free : named file m used (slice r.from r.to file) ≡ Err link) where
  abbrev name : List ℕ
  name = slice r.from r.to file

  abbrev w : List ℕ
  w = macro_words r

  abbrev m' : List ℕ
  m' = added m used link w

  wide : length w ≡ record_width
  unfolding macro_words
  wide = refl

  name_first : slice (get_or w 0 0) (get_or w 1 0) file ≡ name
  unfolding macro_words
  name_first = refl

  low : get_or w 6 0 ≡ 0
  unfolding macro_words
  low = refl

  high : get_or w 7 0 ≡ 0
  unfolding macro_words
  high = refl

  pub macro_named : Named file m' (suc used)
  macro_named = named_added file m used name link w wide room n free name_first low high

  pub macro_new : macro_of m' used ≡ r
  unfolding macro_words
  macro_new =
      let new = word_new m used w wide room n.tree (key_of name) link (name_ends file m used name link free) in
      macro_same m' used r (new 0 (omega arith)) (new 1 (omega arith)) (new 2 (omega arith)) (new 3 (omega arith))

  pub macro_kept : (i : ℕ) → i < used → macro_of m' i ≡ macro_of m i
  unfolding macro_of
  macro_kept i l =
      let kept : (k : ℕ) → k < 6 → get_or m' (i * macro_width + k) 0 ≡ get_or m (i * macro_width + k) 0 = λ k h. word_kept m used w wide room n.tree (key_of name) link (name_ends file m used name link free) i k l h in
      let p : get_or m' (i * macro_width) 0 ≡ get_or m (i * macro_width) 0 = rw (add-zero (i * macro_width)) at (kept 0 (omega arith)) in
      λ x. record { from = p x; to = kept 1 (omega arith) x; first = kept 2 (omega arith) x; end = kept 3 (omega arith) x }

  -- the table is as long, and after the new record as it was
  pub macro_behind : (k : ℕ) → suc used * macro_width ≤ k → get_or m' k 0 ≡ get_or m k 0
  macro_behind = added_behind m used w wide room n.tree (key_of name) link (name_ends file m used name link free)
