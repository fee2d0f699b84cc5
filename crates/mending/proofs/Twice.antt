-- Mending twice is mending once: the mended file is cut into the commands that were kept, and none of them is changed again.
-- Assumes nothing.
use Prim.Native.Nat.{ℕ, ◌+◌}
use mathlib.Core.Path.{◌≡◌, refl, sym, ap, ◌∙◌}
use mathlib.Core.Bool.{Bool, true, false, cond}
use mathlib.Core.List.{List, [], ◌∷◌, ◌++◌, append_assoc}
use native.Mathlib.Omega.{arith}
use lib.ListN.{length, drop, length-append}
use lib.Seq.{drop-drop, drop-append_seam}
use Rattle.book.specs.declared.Book.{Book}
use Rattle.base.specs.Or.{◌or◌}
use Rattle.base.specs.Bytes.{same_bytes}
use Rattle.text.specs.Text.{text}
use Rattle.mending.specs.Extents.{between, skips, closes, mark, Piece, piece, pieces, closing, extents_from, extents}
use Rattle.mending.proofs.Told.{Breaks, none, Whole, ended, goes}
use Rattle.mending.proofs.Joined.{piece_joined, breaks_joined}
use Rattle.mending.proofs.Found.{Found, found}
use Rattle.mending.specs.Changes.{Change, drop_repeat, add_end, drop_tail, drop_after_end, first_of, repeats, follows, changes_from, changes}
use Rattle.mending.specs.Laws.{remaining}
use Rattle.mending.specs.Mended.{words_of, words, change_of, changes_in, report}
use Rattle.mending.specs.Rebuilt.{rebuilt_from, rebuilt, mended}
use Rattle.mending.proofs.Kept.{kept_from, mended_kept}

end_whole : Whole between (text "M02*")
unfolding skips closes mark ◌or◌
end_whole = goes refl refl (goes refl refl (goes refl refl (ended refl refl)))

end_closing : (book : Book) → closing book (text "M02*") ≡ true
unfolding closing same_bytes ◌or◌
end_closing book = refl

-- a kept command in the mended file m, after line ends that are left over
module _ (m : List ℕ) (p : ℕ) {left gap c : List ℕ} (b : Breaks between left) (g : Breaks between gap) (w : Whole between c) (x : List ℕ)
    (e : drop p m ≡ left ++ (gap ++ (c ++ x))) where
  kept_bytes : drop p m ≡ (left ++ gap) ++ c ++ x
  kept_bytes = e ∙ sym (append_assoc left gap (c ++ x)) ∙ sym (append_assoc (left ++ gap) c x)

  kept_piece : pieces (drop p m) ≡ piece (left ++ gap) c ∷ pieces x
  kept_piece = ap pieces kept_bytes ∙ piece_joined (breaks_joined b g) w x

  kept_behind : drop (p + length (left ++ gap) + length c) m ≡ x
  kept_behind =
      let n : p + length (left ++ gap) + length c ≡ p + length ((left ++ gap) ++ c) = omega (arith, length-append (left ++ gap) c) in
      ap (λ (k : ℕ). drop k m) n ∙ sym (drop-drop (length ((left ++ gap) ++ c)) p m) ∙ rw kept_bytes (drop-append_seam ((left ++ gap) ++ c) x)

-- nothing is changed from p on, and these are the complete commands there
pub record Still (book : Book) (fs mo m : List ℕ) (p : ℕ) (es : List (ℕ × List ℕ)) : Type 0 where
  pub unchanged : changes_from book m fs mo p (pieces (drop p m)) ≡ []
  pub commands : extents_from book p (pieces (drop p m)) ≡ es

-- what follows M02 in a mended file is nothing that 18 would be given for
tail_clean : (s : List ℕ) → follows (cond (follows s) [] s) ≡ false
unfolding follows
tail_clean s = go (follows s) refl
  where
    go : (t : Bool) → follows s ≡ t → follows (cond t [] s) ≡ false
    go true e = refl
    go false e = e

module _ (book : Book) (m fs mo : List ℕ) (p : ℕ) {left gap c : List ℕ} (b : Breaks between left) (g : Breaks between gap) (w : Whole between c) where
  -- M02 is the last
  still_closed : closing book c ≡ true → (x : List ℕ) → follows x ≡ false → drop p m ≡ left ++ (gap ++ (c ++ x)) →
      {q : ℕ} → p + length (left ++ gap) ≡ q → Still book fs mo m p ((q, c) ∷ [])
  unfolding changes_from extents_from
  still_closed h x f e n = record {
    unchanged = rw (kept_piece m p b g w x e, changes_from, h, kept_behind m p b g w x e, f) refl;
    commands = rw (kept_piece m p b g w x e, extents_from, h, n) refl;
  }

  -- a command that is kept
  still_kept : closing book c ≡ false → repeats fs mo c ≡ false → (x : List ℕ) → drop p m ≡ left ++ (gap ++ (c ++ x)) → {es : List (ℕ × List ℕ)} →
      Still book (first_of (text "%FS") fs c) (first_of (text "%MO") mo c) m (p + length (left ++ gap) + length c) es →
      {q : ℕ} → p + length (left ++ gap) ≡ q → Still book fs mo m p ((q, c) ∷ es)
  unfolding changes_from extents_from
  still_kept h f x e {es} s {q} n =
      let u = rw (kept_behind m p b g w x e) at s.unchanged in
      let v = rw (kept_behind m p b g w x e) at s.commands in
      record {
        unchanged = rw (kept_piece m p b g w x e, changes_from, h, f) u;
        commands = rw (kept_piece m p b g w x e, extents_from, h) (λ i. (n i, c) ∷ v i);
      }

-- from the place p of the mended file on, where what is kept from `at` on stands after line ends that are left over
still : (book : Book) (m file fs mo : List ℕ) (at : ℕ) (ps : List Piece) → pieces (drop at file) ≡ ps →
    (left : List ℕ) → Breaks between left → (p gone : ℕ) → p + length left + gone ≡ at →
    drop p m ≡ left ++ kept_from book file fs mo at ps → Still book fs mo m p (remaining book fs mo gone at (extents_from book at ps))
unfolding kept_from remaining extents_from follows
still book m file fs mo at [] e left b p gone n d =
    still_closed book m fs mo p b none end_whole (end_closing book) [] refl d (omega (arith, length-append left []))
still book m file fs mo at (piece gap c ∷ ps) e left b p gone n d =
    go (found file at gap c ps e)
    (λ fs mo left b p gone n d. still book m file fs mo (at + length gap + length c) ps (found file at gap c ps e).others left b p gone n d)
    (closing book c) refl (repeats fs mo c) refl
  where
    next : ℕ
    next = at + length gap + length c

    go : Found file at gap c ps →
        ((fs mo left : List ℕ) → Breaks between left → (p gone : ℕ) → p + length left + gone ≡ next →
        drop p m ≡ left ++ kept_from book file fs mo next ps → Still book fs mo m p (remaining book fs mo gone next (extents_from book next ps))) →
        (t : Bool) → closing book c ≡ t → (u : Bool) → repeats fs mo c ≡ u →
        Still book fs mo m p (remaining book fs mo gone at (extents_from book at (piece gap c ∷ ps)))
    go f ih true h u q =
        rw (h, remaining)
        (still_closed book m fs mo p b f.breaks f.whole h (cond (follows (drop next file)) [] (drop next file)) (tail_clean (drop next file))
        (rw (kept_from, h) at d) (omega (arith, length-append left gap)))
    go f ih false h true q =
        rw (h, remaining, q, h)
        (ih fs mo (left ++ gap) (breaks_joined b f.breaks) p (gone + length c) (omega (arith, length-append left gap))
        ((rw (kept_from, h, q) at d) ∙ sym (append_assoc left gap (kept_from book file fs mo next ps))))
    go f ih false h false q =
        let x : List ℕ = kept_from book file (first_of (text "%FS") fs c) (first_of (text "%MO") mo c) next ps in
        let k : drop p m ≡ left ++ (gap ++ (c ++ x)) = rw (kept_from, h, q) at d in
        rw (h, remaining, q, h)
        (still_kept book m fs mo p b f.breaks f.whole h q x k
        (ih (first_of (text "%FS") fs c) (first_of (text "%MO") mo c) [] none (p + length (left ++ gap) + length c) gone
        (omega (arith, length-append left gap)) (kept_behind m p b f.breaks f.whole x k))
        (omega (arith, length-append left gap)))

module _ (book : Book) (file : List ℕ) where
  all_still : Still book [] [] (mended book file) 0 (remaining book [] [] 0 0 (extents book file))
  unfolding extents
  all_still = still book (mended book file) file [] [] 0 (pieces file) refl [] none 0 0 (omega arith) (mended_kept book file)

  -- the mended file has no changes
  pub mended_unchanged : changes book (mended book file) ≡ []
  unfolding changes
  mended_unchanged = all_still.unchanged

  -- its complete commands are those of the file without the repeats, M02 at the end
  pub mended_commands : extents book (mended book file) ≡ remaining book [] [] 0 0 (extents book file)
  unfolding extents
  mended_commands = all_still.commands

-- no changes make no difference
pub rebuilt_none : (file : List ℕ) → rebuilt file [] ≡ file
unfolding rebuilt rebuilt_from
rebuilt_none file = refl

pub mended_twice : (book : Book) (file : List ℕ) → mended book (mended book file) ≡ mended book file
mended_twice book file = unfold mended in (ap (rebuilt (mended book file)) (mended_unchanged book file) ∙ rebuilt_none (mended book file))

-- the report is enough to rebuild the mended file
words_tell : (cs : List Change) → changes_in (words cs) ≡ cs
unfolding words words_of changes_in change_of
words_tell [] = refl
words_tell (drop_repeat at ∷ cs) = ap (λ (x : List Change). drop_repeat at ∷ x) (words_tell cs)
words_tell (add_end at ∷ cs) = ap (λ (x : List Change). add_end at ∷ x) (words_tell cs)
words_tell (drop_tail at ∷ cs) = ap (λ (x : List Change). drop_tail at ∷ x) (words_tell cs)
words_tell (drop_after_end at ∷ cs) = ap (λ (x : List Change). drop_after_end at ∷ x) (words_tell cs)

pub report_rebuilds : (book : Book) (file : List ℕ) → rebuilt file (changes_in (report book file)) ≡ mended book file
unfolding mended report
report_rebuilds book file = ap (rebuilt file) (words_tell (changes book file))
