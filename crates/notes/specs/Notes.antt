-- What is noted of each D01 and D03, in records of thirteen words in the order of their places (decision 592).
use Rattle.std.specs.Prelude.{ℕ, ◌*◌, ◌/◌, ◌<◌, ◌≤◌, ◌≡◌, cond, List, [], ◌∷◌, ltb, length, get_or, drop}
use Rattle.command.specs.Span.{span}
use Rattle.sheet.specs.Records.{stored}
use Rattle.notes.specs.declared.Note.{Note}

abbrev pub note_width : ℕ
note_width = 13

abbrev pub note_room : List ℕ → ℕ
note_room s = length s / note_width

unfoldable pub note_in : List ℕ → Note
note_in w =
    record {
      place = get_or w 0 0;
      component = get_or w 1 0;
      pin = get_or w 2 0;
      number = span (get_or w 3 0) (get_or w 4 0);
      rotation = span (get_or w 5 0) (get_or w 6 0);
      value = span (get_or w 7 0) (get_or w 8 0);
      footprint = span (get_or w 9 0) (get_or w 10 0);
      mount = span (get_or w 11 0) (get_or w 12 0);
    }

unfoldable pub note_of : List ℕ → ℕ → Note
note_of s i = note_in (drop (i * note_width) s)

unfoldable pub note_words : Note → List ℕ
note_words n =
    n.place ∷ n.component ∷ n.pin
    ∷ n.number.from ∷ n.number.to
    ∷ n.rotation.from ∷ n.rotation.to
    ∷ n.value.from ∷ n.value.to
    ∷ n.footprint.from ∷ n.footprint.to
    ∷ n.mount.from ∷ n.mount.to ∷ []

-- with note i, where there is room for it
unfoldable pub with_note : List ℕ → ℕ → Note → List ℕ
with_note s i n = cond (ltb i (note_room s)) (stored s (i * note_width) (note_words n)) s

-- the first `used` notes stand in the order of their places
pub record Ordered (s : List ℕ) (used : ℕ) : Type 0 where
  pub inside : used ≤ note_room s
  pub rises : (i j : ℕ) → i < j → j < used → (note_of s i).place < (note_of s j).place

-- one of them is of the command at a place
pub record Sought (s : List ℕ) (used place : ℕ) : Type 0 where
  pub ordered : Ordered s used
  pub at : ℕ
  pub inside : at < used
  pub is : (note_of s at).place ≡ place

pub record Found (s : List ℕ) (used place r : ℕ) : Type 0 where
  pub inside : r < used
  pub is : (note_of s r).place ≡ place
