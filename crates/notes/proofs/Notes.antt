-- Notes stored and read back: the one that is put is there, and the others stay.
-- Assumes nothing.
use Prim.Native.Nat.{ℕ, ◌+◌, ◌*◌, ◌/◌, ◌<◌, ◌≤◌}
use mathlib.Core.Path.{◌≡◌, refl, sym, ap, ◌∙◌}
use mathlib.Core.Bool.{Bool, true, false, cond}
use mathlib.Core.List.{List, [], ◌∷◌}
use native.Mathlib.Nat.{add-zero}
use native.Mathlib.Omega.{arith}
use borrow.Author.Tests.{lt-ltb, ltb-true, ltb-false, eqb-true, eqb-false}
use lib.Dec.{eqb, ltb}
use lib.ListN.{length, get_or, drop}
use lib.Seq.{get_or-drop}
use Rattle.command.specs.Span.{span}
use Rattle.sheet.specs.Records.{stored}
use Rattle.sheet.proofs.Stored.{stored_below, stored_at, stored_long}
use Rattle.notes.specs.Notes.{note_width, note_room, note_in, note_of, note_words, with_note, Sought}
use Rattle.notes.specs.declared.Note.{Note}

pub place_word : (s : List ℕ) (i : ℕ) → get_or s (i * note_width) 0 ≡ (note_of s i).place
unfolding note_of note_in
place_word s i = sym (get_or-drop (i * note_width) s 0 0 ∙ ap (λ (n : ℕ). get_or s n 0) (add-zero (i * note_width)))

-- a note is its words
same_words_lem : (s s' : List ℕ) (i : ℕ) → ((m : ℕ) → m < note_width → get_or s (i * note_width + m) 0 ≡ get_or s' (i * note_width + m) 0) → note_of s i ≡ note_of s' i
unfolding note_of note_in
same_words_lem s s' i h =
    let w : (m : ℕ) → m < note_width → get_or (drop (i * note_width) s) m 0 ≡ get_or (drop (i * note_width) s') m 0 =
    λ m l. get_or-drop (i * note_width) s m 0 ∙ h m l ∙ sym (get_or-drop (i * note_width) s' m 0) in
    λ j. record {
      place = w 0 (omega arith) j;
      component = w 1 (omega arith) j;
      pin = w 2 (omega arith) j;
      number = span (w 3 (omega arith) j) (w 4 (omega arith) j);
      rotation = span (w 5 (omega arith) j) (w 6 (omega arith) j);
      value = span (w 7 (omega arith) j) (w 8 (omega arith) j);
      footprint = span (w 9 (omega arith) j) (w 10 (omega arith) j);
      mount = span (w 11 (omega arith) j) (w 12 (omega arith) j);
    }

module _ (s : List ℕ) (i : ℕ) (n : Note) (room : i < note_room s) where
  with_room : with_note s i n ≡ stored s (i * note_width) (note_words n)
  unfolding with_note
  with_room = rw (lt-ltb i (note_room s) room)

  fits : i * note_width + length (note_words n) ≤ length s
  unfolding note_words
  fits = omega arith

  word : (m : ℕ) → m < note_width → get_or (stored s (i * note_width) (note_words n)) (i * note_width + m) 0 ≡ get_or (note_words n) m 0
  unfolding note_words
  word m l = stored_at s (i * note_width) (note_words n) fits m (omega arith)

  pub note_put : note_of (with_note s i n) i ≡ n
  unfolding note_of note_in note_words
  note_put =
      ap (λ (l : List ℕ). note_of l i) with_room
      ∙ (let w : (m : ℕ) → m < note_width → get_or (drop (i * note_width) (stored s (i * note_width) (note_words n))) m 0 ≡ get_or (note_words n) m 0 =
      λ m l. get_or-drop (i * note_width) (stored s (i * note_width) (note_words n)) m 0 ∙ word m l in
      λ j. record {
        place = w 0 (omega arith) j;
        component = w 1 (omega arith) j;
        pin = w 2 (omega arith) j;
        number = span (w 3 (omega arith) j) (w 4 (omega arith) j);
        rotation = span (w 5 (omega arith) j) (w 6 (omega arith) j);
        value = span (w 7 (omega arith) j) (w 8 (omega arith) j);
        footprint = span (w 9 (omega arith) j) (w 10 (omega arith) j);
        mount = span (w 11 (omega arith) j) (w 12 (omega arith) j);
      })

  pub note_stays : (k : ℕ) → k < i → note_of (with_note s i n) k ≡ note_of s k
  note_stays k l =
      ap (λ (t : List ℕ). note_of t k) with_room
      ∙ same_words_lem (stored s (i * note_width) (note_words n)) s k (λ m h. stored_below s (i * note_width) (note_words n) fits (k * note_width + m) (omega arith))

pub length_with : (s : List ℕ) (i : ℕ) (n : Note) → length (with_note s i n) ≡ length s
unfolding with_note
length_with s i n = go (ltb i (note_room s)) refl
  where
    go : (t : Bool) → ltb i (note_room s) ≡ t → length (cond t (stored s (i * note_width) (note_words n)) s) ≡ length s
    go true e = stored_long s (i * note_width) (note_words n) (fits s i n (ltb-true i (note_room s) e))
    go false e = refl

-- ---- the note of a place, by halves

module _ {s : List ℕ} {used place : ℕ} (w : Sought s used place) (i : ℕ) (l : i < used) where
  pub from_here : (note_of s i).place ≤ place → i ≤ w.at
  from_here h = go (ltb w.at i) refl
    where
      go : (t : Bool) → ltb w.at i ≡ t → i ≤ w.at
      go true e = absurd (let r = w.ordered.rises w.at i (ltb-true _ _ e) l in let q = w.is in omega arith)
      go false e = ltb-false _ _ e

  pub before_here : place < (note_of s i).place → w.at < i
  before_here h = go (ltb w.at i) refl
    where
      go : (t : Bool) → ltb w.at i ≡ t → w.at < i
      go true e = ltb-true _ _ e
      go false e = absurd (at_or_behind (eqb i w.at) refl (ltb-false _ _ e))
        where
          at_or_behind : (t : Bool) → eqb i w.at ≡ t → i ≤ w.at → ⊥
          at_or_behind true q h' = let p : (note_of s i).place ≡ (note_of s w.at).place = ap (λ (j : ℕ). (note_of s j).place) (eqb-true i w.at q) in let r = w.is in omega arith
          at_or_behind false q h' = let ne = eqb-false i w.at q in let r = w.ordered.rises i w.at (omega arith) w.inside in let p = w.is in omega arith
