-- A sound file has no changes: none of its commands repeats an earlier one, and M02 stands with nothing after it.
-- Assumes nothing.
use Prim.Native.Nat.{ℕ, suc, ◌+◌, ◌-◌}
use mathlib.Core.Path.{◌≡◌, refl, ap, ◌∙◌}
use mathlib.Core.Bool.{Bool, true, false, cond, not, false≢true}
use mathlib.Core.List.{List, [], ◌∷◌}
use native.Mathlib.Omega.{arith}
use lib.Dec.{eqb}
use lib.ListN.{length, take, drop}
use borrow.Author.Tests.{not-true}
use Rattle.book.specs.declared.Book.{Book}
use Rattle.base.specs.And.{◌and◌}
use Rattle.base.specs.Or.{◌or◌}
use Rattle.base.specs.Bytes.{same_bytes}
use Rattle.base.specs.Breaks.{is_break}
use Rattle.base.specs.Trimmed.{kept_before, drop_trailing}
use Rattle.base.proofs.And.{and_l, and_r, and_i, true_and, false_and}
use Rattle.base.proofs.Lists.{same_is}
use Rattle.text.specs.Text.{text}
use Rattle.mending.proofs.Told.{Breaks, none as no-breaks, one_more}
use Rattle.mending.specs.Extents.{between, skips, Piece, piece, pieces, closing, extents_from, extents}
use Rattle.mending.specs.Changes.{drop_after_end, opens, text_of, first_of, matches, repeats, follows, changes_from, changes}
use Rattle.mending.specs.Laws.{closed, end_of, twins, none, unrepeated, Sound}
use Rattle.mending.specs.Rebuilt.{rebuilt, mended}
use Rattle.mending.proofs.Or.{or_l, or_r, false_or}
use Rattle.mending.proofs.Twice.{rebuilt_none}

-- a command that matches neither the first before nor c matches the first after c
match_behind : (w t c d : List ℕ) → matches w t d ≡ false → (opens w c and matches w (text_of c) d) ≡ false → matches w (first_of w t c) d ≡ false
unfolding first_of
match_behind w t c d e f = go (eqb (length t) 0 and opens w c) refl
  where
    go : (b : Bool) → (eqb (length t) 0 and opens w c) ≡ b → matches w (first_of w t c) d ≡ false
    go true h = let o = and_r (eqb (length t) 0) (opens w c) h in rw h (rw (o, true_and) at f)
    go false h = rw h e

repeat_behind : (fs mo c d : List ℕ) → repeats fs mo d ≡ false → twins c d ≡ false → repeats (first_of (text "%FS") fs c) (first_of (text "%MO") mo c) d ≡ false
unfolding repeats twins
repeat_behind fs mo c d e f =
    let a = match_behind (text "%FS") fs c d (or_l _ _ e) (or_l _ _ f) in
    let b = match_behind (text "%MO") mo c d (or_r _ _ e) (or_r _ _ f) in
    rw (a, b, false_or) refl

none_behind : (fs mo c : List ℕ) (es : List (ℕ × List ℕ)) → none (repeats fs mo) es ≡ true → none (twins c) es ≡ true →
    none (repeats (first_of (text "%FS") fs c) (first_of (text "%MO") mo c)) es ≡ true
unfolding none
none_behind fs mo c [] e f = refl
none_behind fs mo c (d ∷ es) e f =
    let h = repeat_behind fs mo c d.1 (not-true _ (and_l _ _ e)) (not-true _ (and_l _ _ f)) in
    and_i _ _ (ap not h) (none_behind fs mo c es (and_r _ _ e) (and_r _ _ f))

-- a text is not empty, so that nothing repeats a first that is not there
not_empty : (a : ℕ) (s : List ℕ) → is_break a ≡ false → same_bytes (drop_trailing is_break (a ∷ s)) [] ≡ false
unfolding drop_trailing same_bytes kept_before
not_empty a s e = go (drop_trailing is_break s)
  where
    go : (r : List ℕ) → same_bytes (kept_before is_break a r) [] ≡ false
    go [] = rw e
    go (b ∷ r) = refl

text_there : (a b : ℕ) (c : List ℕ) → is_break a ≡ false → take 3 c ≡ 37 ∷ a ∷ b ∷ [] → same_bytes (text_of c) [] ≡ false
unfolding text_of
text_there a b [] e h = absurd (let z : ◌≡◌ {A = ℕ} 0 1 = cc in omega arith)
text_there a b (x ∷ []) e h = absurd (let z : ◌≡◌ {A = ℕ} 0 1 = cc in omega arith)
text_there a b (x ∷ y ∷ []) e h = absurd (let z : ◌≡◌ {A = ℕ} 0 1 = cc in omega arith)
text_there a b (x ∷ y ∷ z ∷ s) e h =
    let n : suc (suc (suc (length s))) - 1 ≡ suc (suc (length s)) = omega arith in
    let k : y ≡ a = cc in
    rw n (not_empty y (take (length s) (z ∷ s)) (rw k e))

no_first : (a b : ℕ) (c : List ℕ) → is_break a ≡ false → matches (37 ∷ a ∷ b ∷ []) [] c ≡ false
unfolding matches opens
no_first a b c e = go (same_bytes (take 3 c) (37 ∷ a ∷ b ∷ [])) refl
  where
    go : (t : Bool) → same_bytes (take 3 c) (37 ∷ a ∷ b ∷ []) ≡ t → matches (37 ∷ a ∷ b ∷ []) [] c ≡ false
    go true h = rw (h, true_and) (text_there a b c e (same_is (take 3 c) (37 ∷ a ∷ b ∷ []) h))
    go false h = rw (h, false_and) refl

nothing_first : (es : List (ℕ × List ℕ)) → none (repeats [] []) es ≡ true
unfolding none repeats ◌or◌
nothing_first [] = refl
nothing_first (e ∷ es) =
    let f = no_first 70 83 e.1 refl in
    let m = no_first 77 79 e.1 refl in
    and_i _ _ (rw (f, m) refl) (nothing_first es)

module _ (book : Book) (file : List ℕ) where
  unchanged_from : (fs mo : List ℕ) (at : ℕ) (ps : List Piece) → closed book (extents_from book at ps) ≡ true → unrepeated (extents_from book at ps) ≡ true →
      none (repeats fs mo) (extents_from book at ps) ≡ true → follows (drop (end_of at (extents_from book at ps)) file) ≡ false →
      changes_from book file fs mo at ps ≡ []
  unfolding extents_from closed unrepeated none end_of changes_from
  unchanged_from fs mo at [] a b c d = absurd (false≢true a)
  unchanged_from fs mo at (piece gap c ∷ ps) x y z k =
      go (unchanged_from (first_of (text "%FS") fs c) (first_of (text "%MO") mo c) (at + length gap + length c) ps) (closing book c) refl x y z k
    where
      next : ℕ
      next = at + length gap + length c

      go : (closed book (extents_from book next ps) ≡ true → unrepeated (extents_from book next ps) ≡ true →
          none (repeats (first_of (text "%FS") fs c) (first_of (text "%MO") mo c)) (extents_from book next ps) ≡ true → follows (drop (end_of next (extents_from book next ps)) file) ≡ false →
          changes_from book file (first_of (text "%FS") fs c) (first_of (text "%MO") mo c) next ps ≡ []) →
          (t : Bool) → closing book c ≡ t →
          closed book (extents_from book at (piece gap c ∷ ps)) ≡ true → unrepeated (extents_from book at (piece gap c ∷ ps)) ≡ true →
          none (repeats fs mo) (extents_from book at (piece gap c ∷ ps)) ≡ true → follows (drop (end_of at (extents_from book at (piece gap c ∷ ps))) file) ≡ false →
          changes_from book file fs mo at (piece gap c ∷ ps) ≡ []
      go ih true h x y z k = rw (changes_from, h) (ap (λ (t : Bool). cond t (drop_after_end next ∷ []) []) (rw (end_of, h) at k))
      go ih false h x y z k =
          let es : List (ℕ × List ℕ) = extents_from book next ps in
          let x' : closed book es ≡ true = rw (h, false_or) at x in
          let y' : (none (twins c) es and unrepeated es) ≡ true = rw h at y in
          let z' : (not (repeats fs mo c) and none (repeats fs mo) es) ≡ true = rw h at z in
          let k' : follows (drop (end_of next es) file) ≡ false = rw h at k in
          let r : repeats fs mo c ≡ false = not-true _ (and_l _ _ z') in
          rw (changes_from, h, r) (ih x' (and_r _ _ y') (none_behind fs mo c es (and_r _ _ z') (and_l _ _ y')) k')

-- law (a)
pub sound_unchanged : (book : Book) (file : List ℕ) → Sound book file → changes book file ≡ []
unfolding changes extents
sound_unchanged book file s = unchanged_from book file [] [] 0 (pieces file) s.ends s.alone (nothing_first (extents_from book 0 (pieces file))) s.clean

pub sound_mended : (book : Book) (file : List ℕ) → Sound book file → mended book file ≡ file
unfolding mended
sound_mended book file s = ap (rebuilt file) (sound_unchanged book file s) ∙ rebuilt_none file

-- line ends alone are nothing that 18 would be given for
pub line_ends_clean : {s : List ℕ} → Breaks between s → follows s ≡ false
unfolding follows skips
line_ends_clean no-breaks = refl
line_ends_clean (one_more e b) = rw (follows, e) (line_ends_clean b)
