-- The mended file read off the cut: what is kept of a file from a place on, and that this is what its changes make of it.
-- Assumes nothing.
use Prim.Native.Nat.{ℕ, ◌+◌, ◌-◌, ◌≤◌}
use Prim.Native.Char.{code}
use mathlib.Core.Path.{◌≡◌, refl, sym, ap, ◌∙◌}
use mathlib.Core.Bool.{Bool, true, false, cond}
use mathlib.Core.List.{List, [], ◌∷◌, ◌++◌, append_assoc, append-nil}
use native.Mathlib.Omega.{arith}
use lib.Dec.{eqb, ltb}
use lib.ListN.{length, take, drop, drop_of_length-le, take-append-drop}
use lib.Seq.{slice, slice_empty, take-add, drop-drop}
use borrow.Author.Tests.{ltb-false, eqb-true}
use Rattle.book.specs.declared.Book.{Book}
use Rattle.base.specs.Bytes.{same_bytes}
use Rattle.base.proofs.And.{and_l}
use Rattle.mending.proofs.Or.{false_or}
use Rattle.base.proofs.Lists.{slice_take}
use Rattle.text.specs.First.{place}
use Rattle.text.specs.Text.{text}
use Rattle.mending.specs.Extents.{Piece, piece, pieces, closing}
use Rattle.mending.proofs.Found.{Found, found, percent_closes}
use Rattle.mending.specs.Changes.{Change, drop_repeat, add_end, drop_tail, drop_after_end, opens, first_of, matches, repeats, follows, changes_from, changes}
use Rattle.mending.specs.Rebuilt.{rebuilt_from, rebuilt, mended}

-- what is kept of a file from `at` on, where these complete commands stand
unfoldable pub kept_from : Book → List ℕ → List ℕ → List ℕ → ℕ → List Piece → List ℕ
kept_from book file fs mo at [] = text "M02*"
kept_from book file fs mo at (piece gap c ∷ ps) =
    let next : ℕ = at + length gap + length c in
    elim (closing book c) [
      | true ↦ gap ++ (c ++ cond (follows (drop next file)) [] (drop next file))
      | false ↦ elim (repeats fs mo c) [
        | true ↦ gap ++ kept_from book file fs mo next ps
        | false ↦ gap ++ (c ++ kept_from book file (first_of (text "%FS") fs c) (first_of (text "%MO") mo c) next ps)
      ]
    ]

-- two parts that meet are one, and a part with what stands after it is the rest
pub slices_join : (file : List ℕ) (a b c : ℕ) → a ≤ b → b ≤ c → slice a b file ++ slice b c file ≡ slice a c file
slices_join file a b c h k =
    let e : c - a ≡ b - a + (c - b) = omega arith in
    let f : a + (b - a) ≡ b = omega arith in
    rw (slice_take a b file, slice_take b c file, slice_take a c file, e, take-add (b - a) (c - b) (drop a file), drop-drop (b - a) a file, f) refl

pub slice_rest : (file : List ℕ) (a b : ℕ) → a ≤ b → slice a b file ++ drop b file ≡ drop a file
slice_rest file a b h =
    let f : a + (b - a) ≡ b = omega arith in
    rw (slice_take a b file) (ap (λ (s : List ℕ). take (b - a) (drop a file) ++ s) (sym (drop-drop (b - a) a file ∙ ap (λ (k : ℕ). drop k file) f)) ∙ take-append-drop (b - a) (drop a file))

-- a repeat begins with `%`
opens_percent : (a b : ℕ) (c : List ℕ) → opens (37 ∷ a ∷ b ∷ []) c ≡ true → (d : List ℕ) × (c ≡ 37 ∷ d)
unfolding opens same_bytes
opens_percent a b [] e = absurd (let z : ◌≡◌ {A = ℕ} 0 1 = cc in omega arith)
opens_percent a b (x ∷ d) e = go (eqb x 37) refl e
  where
    go : (t : Bool) → eqb x 37 ≡ t → opens (37 ∷ a ∷ b ∷ []) (x ∷ d) ≡ true → (y : List ℕ) × (x ∷ d ≡ 37 ∷ y)
    go true f e = (d, ap (λ (k : ℕ). k ∷ d) (eqb-true x 37 f))
    go false f e = absurd (let g = rw (f, same_bytes) at e in let z : ◌≡◌ {A = ℕ} 0 1 = cc in omega arith)

repeat_percent : (fs mo c : List ℕ) → repeats fs mo c ≡ true → (d : List ℕ) × (c ≡ 37 ∷ d)
unfolding repeats matches
repeat_percent fs mo c e = go (matches (text "%FS") fs c) refl
  where
    go : (t : Bool) → matches (text "%FS") fs c ≡ t → (d : List ℕ) × (c ≡ 37 ∷ d)
    go true f = opens_percent 70 83 c (and_l _ _ f)
    go false f = opens_percent 77 79 c (and_l _ _ (rw (repeats, f, false_or) at e))

-- so the next `%` after its first ends it
repeat_closes : {file : List ℕ} {at : ℕ} {gap c : List ℕ} {ps : List Piece} → Found file at gap c ps → (d : List ℕ) × (c ≡ 37 ∷ d) →
    place (code "%") file (at + length gap + 1) + 1 ≡ at + length gap + length c
repeat_closes {file} {at} {gap} {c} f d =
    let w = rw d.1 at f.whole in
    let b = rw d.1 at f.behind in
    rw d.1 (percent_closes file (at + length gap) d.0 w b)

rebuilt_repeat : {file : List ℕ} {at : ℕ} {gap c : List ℕ} {ps : List Piece} (fs mo : List ℕ) (from : ℕ) (cs : List Change) → Found file at gap c ps → repeats fs mo c ≡ true →
    rebuilt_from file from (drop_repeat (at + length gap) ∷ cs) ≡ slice from (at + length gap) file ++ rebuilt_from file (at + length gap + length c) cs
unfolding rebuilt_from
rebuilt_repeat {c} fs mo from cs f q = rw (repeat_closes f (repeat_percent fs mo c q)) refl

-- what stands before a command, and the command, follow on what stands before them
module _ {file : List ℕ} {at : ℕ} {gap c : List ℕ} {ps : List Piece} (f : Found file at gap c ps) (from : ℕ) (h : from ≤ at) (x : List ℕ) where
  gap_follows : slice from at file ++ (gap ++ x) ≡ slice from (at + length gap) file ++ x
  gap_follows =
      sym (append_assoc (slice from at file) gap x)
      ∙ ap (λ (s : List ℕ). s ++ x) (ap (λ (s : List ℕ). slice from at file ++ s) f.before ∙ slices_join file from at (at + length gap) h (omega arith))

pub command_follows : {file : List ℕ} {at : ℕ} {gap c : List ℕ} {ps : List Piece} → Found file at gap c ps → (from : ℕ) → from ≤ at → (x : List ℕ) →
    slice from at file ++ (gap ++ (c ++ x)) ≡ slice from (at + length gap + length c) file ++ x
command_follows {file} {at} {gap} {c} f from h x =
    gap_follows f from h (c ++ x)
    ∙ sym (append_assoc (slice from (at + length gap) file) c x)
    ∙ ap (λ (s : List ℕ). s ++ x)
    (ap (λ (s : List ℕ). slice from (at + length gap) file ++ s) f.command
    ∙ slices_join file from (at + length gap) (at + length gap + length c) (omega arith) (omega arith))

-- the end of a file without M02
module _ (file : List ℕ) (from at : ℕ) where
  rebuilt_end : rebuilt_from file from (add_end at ∷ cond (ltb at (length file)) (drop_tail at ∷ []) []) ≡ slice from at file ++ text "M02*"
  unfolding rebuilt_from
  rebuilt_end = go (ltb at (length file)) refl
    where
      go : (t : Bool) → ltb at (length file) ≡ t → rebuilt_from file from (add_end at ∷ cond (ltb at (length file)) (drop_tail at ∷ []) []) ≡ slice from at file ++ text "M02*"
      go true e = rw (e, slice_empty at file) (append-nil (slice from at file ++ text "M02*"))
      go false e = rw (e, drop_of_length-le file (ltb-false at (length file) e)) (append-nil (slice from at file ++ text "M02*"))

  -- and of one with it
  rebuilt_closed : from ≤ at →
      rebuilt_from file from (cond (follows (drop at file)) (drop_after_end at ∷ []) []) ≡ slice from at file ++ cond (follows (drop at file)) [] (drop at file)
  unfolding rebuilt_from
  rebuilt_closed h = go (follows (drop at file)) refl
    where
      go : (t : Bool) → follows (drop at file) ≡ t →
          rebuilt_from file from (cond (follows (drop at file)) (drop_after_end at ∷ []) []) ≡ slice from at file ++ cond (follows (drop at file)) [] (drop at file)
      go true e = rw e (sym (append-nil (slice from at file)))
      go false e = rw e (sym (slice_rest file from at h))

-- what the changes from `at` on make of the bytes from `from` on
pub rebuilt_kept : (book : Book) (file fs mo : List ℕ) (from at : ℕ) (ps : List Piece) → from ≤ at → pieces (drop at file) ≡ ps →
    rebuilt_from file from (changes_from book file fs mo at ps) ≡ slice from at file ++ kept_from book file fs mo at ps
unfolding changes_from kept_from
rebuilt_kept book file fs mo from at [] h e = rebuilt_end file from at
rebuilt_kept book file fs mo from at (piece gap c ∷ ps) h e =
    go (found file at gap c ps e)
    (λ fs mo from l. rebuilt_kept book file fs mo from (at + length gap + length c) ps l (found file at gap c ps e).others)
    (closing book c) refl (repeats fs mo c) refl
  where
    next : ℕ
    next = at + length gap + length c

    go : Found file at gap c ps →
        ((fs mo : List ℕ) (from : ℕ) → from ≤ next → rebuilt_from file from (changes_from book file fs mo next ps) ≡ slice from next file ++ kept_from book file fs mo next ps) →
        (t : Bool) → closing book c ≡ t → (u : Bool) → repeats fs mo c ≡ u →
        rebuilt_from file from (changes_from book file fs mo at (piece gap c ∷ ps)) ≡ slice from at file ++ kept_from book file fs mo at (piece gap c ∷ ps)
    go f ih true p u q = rw (changes_from, kept_from, p) (rebuilt_closed file from next (omega arith) ∙ sym (command_follows f from h (cond (follows (drop next file)) [] (drop next file))))
    go f ih false p true q = rw (changes_from, kept_from, p, q)
        (rebuilt_repeat fs mo from (changes_from book file fs mo next ps) f q ∙ ap (λ (s : List ℕ). slice from (at + length gap) file ++ s) (ih fs mo next (omega arith) ∙ rw (slice_empty next file) refl)
        ∙ sym (gap_follows f from h (kept_from book file fs mo next ps)))
    go f ih false p false q = rw (changes_from, kept_from, p, q)
        (ih (first_of (text "%FS") fs c) (first_of (text "%MO") mo c) from (omega arith)
        ∙ sym (command_follows f from h (kept_from book file (first_of (text "%FS") fs c) (first_of (text "%MO") mo c) next ps)))

-- the mended file
pub mended_kept : (book : Book) (file : List ℕ) → mended book file ≡ kept_from book file [] [] 0 (pieces file)
unfolding mended rebuilt changes
mended_kept book file = rebuilt_kept book file [] [] 0 0 (pieces file) (omega arith) refl
