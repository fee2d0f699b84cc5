-- Which texts are FS, MO and M02: of every recogniser only that of word commands makes M02, and a data block that begins with FS or MO is
-- one, or is refused.
-- Assumes nothing.
use Rattle.std.specs.Prelude.{Err, Ok, Result}
use Prim.Native.Nat.{ℕ, zero, suc, ◌≤◌}
use Prim.Native.Char.{code}
use mathlib.Core.Path.{◌≡◌, refl, subst}
use mathlib.Core.Bool.{Bool, true, false}
use mathlib.Core.List.{List, [], ◌∷◌}
use native.Mathlib.Omega.{arith}
use lib.Dec.{eqb}
use lib.ListN.{take, drop}
use Rattle.base.specs.And.{◌and◌}
use Rattle.base.specs.Or.{◌or◌}
use Rattle.base.specs.Bytes.{same_bytes}
use Rattle.base.specs.Choose.{pick}
use Rattle.text.specs.First.{first_in, place}
use Rattle.text.specs.Text.{text, ◌is◌, ◌begins◌}
use Rattle.text.proofs.First.{in_from}
use Rattle.book.specs.Books.{is_old}
use Rattle.book.specs.declared.Book.{Book}
use Rattle.formats.specs.declared.Format.{Format}
use Rattle.films.specs.Codes.{is_end}
use Rattle.films.specs.Words as films
use Rattle.films.specs.Words.{operate_of, coded_of, general_of, miscellaneous_of, other_of}
use Rattle.films.specs.declared.Word.{Word}
use Rattle.films.specs.declared.Word.TheVariants as film
use Rattle.operations.specs.Operations as op
use Rattle.operations.specs.declared.Written.{Written}
use Rattle.scan.specs.declared.Kind.{Kind}
use Rattle.scan.specs.declared.Kind.TheVariants as kind
use Rattle.command.specs.declared.Flaw.{Flaw}
use Rattle.command.specs.declared.Flaw.TheVariants as flaw
use Rattle.command.specs.declared.Setting.TheVariants as setting
use Rattle.command.specs.declared.Command.{Command}
use Rattle.command.specs.declared.Command.TheVariants.{Broken, Note, End, Set, Operate, Coded, Select, Define, Contain, Attribute}
use Rattle.words.specs.Newer as newer
use Rattle.words.specs.Old as old
use Rattle.words.specs.Words.{word_of}
use Rattle.settings.specs.Header.{formatted, format_of, unit_of}
use Rattle.settings.specs.Repeats.{repeats, repeat_start, repeat_of}
use Rattle.settings.specs.Transformations.{mirror_of, rotation_of, scale_of, transformation_of}
use Rattle.apertures.specs.Definitions as ad
use Rattle.apertures.specs.Blocks.{block_start, block_of}
use Rattle.attribute_commands.specs.Attributes.{attribute_of, deletion_of}
use Rattle.macro_form.specs.Macro.{headed, macro_of}
use Rattle.recognise.specs.Commands.{data_of, data_in, extended_of, command_of}
use Rattle.law_bounds.proofs.Tables.{picks, judges}
use Rattle.formats.specs.declared.FormatError.TheVariants as format_error
use Rattle.formats.specs.declared.FormatError.{FormatError}

-- a command is M02 only where P holds
abbrev EndsBy : Type 0 → Command → Type 0
EndsBy P End = P
EndsBy P (Broken flaw) = Unit
EndsBy P Note = Unit
EndsBy P (Set x) = Unit
EndsBy P (Operate o) = Unit
EndsBy P (Coded x o) = Unit
EndsBy P (Select n) = Unit
EndsBy P (Define d) = Unit
EndsBy P (Contain b) = Unit
EndsBy P (Attribute d) = Unit

module _ (P : Type 0) where
  abbrev Ends : Command → Type 0
  Ends = EndsBy P

  -- the others than M02
  operates_none : (w : Written) → Ends (op.operates w)
  unfolding op.operates
  operates_none w = judges Ends tt tt (λ f l. tt)

  operated_none : (g : ℕ) (w : Written) → Ends (old.operated g w)
  unfolding old.operated op.coded
  operated_none g w = picks Ends (λ e. operates_none w) (judges Ends tt tt (λ f l. tt))

  comment_none : (s : List ℕ) → Ends (newer.comment_of s)
  unfolding newer.comment_of
  comment_none s = picks Ends (λ e. tt) tt

  select_none : (s : List ℕ) → Ends (newer.select_of s)
  unfolding newer.select_of
  select_none s = judges Ends tt tt (λ f l. tt)

  transformation_none : (t : List ℕ) → Ends (transformation_of t)
  unfolding transformation_of mirror_of rotation_of scale_of
  transformation_none t =
      picks Ends (λ e. tt)
      (picks Ends (λ e. tt)
      (picks Ends
      (λ e. picks Ends (λ e. tt) (picks Ends (λ e. tt) (picks Ends (λ e. tt) (picks Ends (λ e. tt) tt))))
      (picks Ends (λ e. judges Ends tt tt (λ f l. tt)) (picks Ends (λ e. judges Ends tt tt (λ f l. tt)) tt))))

  formatted_none : (x : Result Format FormatError) → Ends (formatted x)
  unfolding formatted
  formatted_none (Err format_error.NotForm) = tt
  formatted_none (Err format_error.SevenPlaces) = tt
  formatted_none (Ok g) = tt

  start_none : (x : List ℕ) → Ends (repeat_start x)
  unfolding repeat_start repeats
  start_none x = judges Ends tt tt (λ f l. tt)

  data_none : (book : Book) (t : List ℕ) → Ends (data_of book t)
  unfolding data_of format_of unit_of repeat_of block_of block_start ad.aperture_of ad.definition deletion_of attribute_of
  data_none book t =
      picks Ends (λ e. formatted_none _)
      (picks Ends (λ e. picks Ends (λ e. tt) (picks Ends (λ e. tt) tt))
      (picks Ends (λ e. picks Ends (λ e. judges Ends tt tt (λ f l. tt)) tt)
      (picks Ends (λ e. picks Ends (λ e. tt) (picks Ends (λ e. judges Ends tt tt (λ f l. tt)) tt))
      (picks Ends (λ e. picks Ends (λ e. tt) (picks Ends (λ e. start_none _) tt))
      (picks Ends (λ e. transformation_none t)
      (picks Ends (λ e. picks Ends (λ e. tt) (picks Ends (λ e. tt) tt))
      (picks Ends (λ e. picks Ends (λ e. tt) (picks Ends (λ e. tt) (picks Ends (λ e. tt) tt))) tt)))))))

  extended_none : (book : Book) (s : List ℕ) → Ends (extended_of book s)
  unfolding extended_of data_in
  extended_none book s = picks Ends (λ e. picks Ends (λ e. tt) (data_none book _)) tt

  macro_none : (s : List ℕ) → Ends (macro_of s)
  unfolding macro_of headed
  macro_none s = picks Ends (λ e. judges Ends tt tt (λ f l. tt)) tt

  -- M02 of the newer edition
  newer_ends : (f : Format) (s : List ℕ) → (s is "M02" ≡ true → P) → Ends (newer.newer_word f s)
  unfolding newer.newer_word newer.code_of op.operation_of
  newer_ends f s h =
      picks Ends (λ e. comment_none s)
      (picks Ends (λ e. operates_none _)
      (picks Ends (λ e. operates_none _)
      (picks Ends (λ e. operates_none _)
      (picks Ends (λ e. select_none (drop 1 s))
      (picks Ends (λ e. tt)
      (picks Ends (λ e. tt)
      (picks Ends (λ e. tt) (picks Ends (λ e. tt) (picks Ends (λ e. tt) (picks Ends (λ e. tt) (picks Ends h tt)))))))))))

-- M02 of the old book
abbrev WordEnds : Type 0 → Word → Type 0
WordEnds P film.End = P
WordEnds P film.NotForm = Unit
WordEnds P film.Note = Unit
WordEnds P film.Halt = Unit
WordEnds P (film.Code g) = Unit
WordEnds P (film.Select at) = Unit
WordEnds P (film.Operate g number from to) = Unit

module _ (P : Type 0) (s : List ℕ) where
  abbrev Words : Word → Type 0
  Words = WordEnds P

  operate_none : (g from : ℕ) (other : Word) → Words other → Words (operate_of g from s other)
  unfolding operate_of
  operate_none g from other k = picks Words (λ e. k) tt

  note_none : Words (films.comment_of s)
  unfolding films.comment_of
  note_none = picks Words (λ e. tt) tt

  general_none : Words (general_of s)
  unfolding general_of coded_of
  general_none =
      picks Words (λ e. note_none)
      (picks Words (λ e. note_none)
      (picks Words (λ e. tt) (picks Words (λ e. picks Words (λ e. tt) tt) (picks Words (λ e. tt) (operate_none _ _ film.NotForm tt)))))

  film_ends : (is_end s ≡ true → P) → Words (films.word_of s)
  unfolding films.word_of miscellaneous_of other_of
  film_ends h =
      picks Words (λ e. general_none)
      (picks Words (λ e. picks Words h (picks Words (λ e. tt) tt)) (picks Words (λ e. operate_none 0 0 (film.Select 1) tt) (operate_none 0 0 film.NotForm tt)))

  said_ends : (f : Format) (w : Word) → Words w → EndsBy P (old.said f s w)
  unfolding old.said
  said_ends f film.NotForm k = tt
  said_ends f film.Note k = tt
  said_ends f film.Halt k = tt
  said_ends f film.End k = k
  said_ends f (film.Code g) k = tt
  said_ends f (film.Select at) k = select_none P (drop at s)
  said_ends f (film.Operate g number from to) k = operated_none P g _

-- the text of M02, by the book
abbrev pub end_text : Book → List ℕ → Bool
end_text book s = s is "M02" or (is_old book and s is "M2")

word_ends : (P : Type 0) (book : Book) (f : Format) (s : List ℕ) → (end_text book s ≡ true → P) → EndsBy P (word_of book f s)
unfolding word_of old.old_word pick ◌or◌ ◌and◌ is_end
word_ends P book f s h = go (is_old book) refl
  where
    go : (t : Bool) → is_old book ≡ t → EndsBy P (pick t (old.old_word f s) (newer.newer_word f s))
    go true e = said_ends P s f (films.word_of s) (film_ends P s (λ q. h (rw e q)))
    go false e = newer_ends P f s (λ q. h (rw (q) refl))

-- only M02 is M02
pub record Ended (book : Book) (k : Kind) (s : List ℕ) : Type 0 where
  pub word : k ≡ kind.Word
  pub is_text : end_text book s ≡ true

pub end_told : (book : Book) (f : Format) (k : Kind) (s : List ℕ) → command_of book f k s ≡ End → Ended book k s
unfolding command_of
end_told book f kind.Word s e =
    subst (EndsBy (Ended book kind.Word s)) e (word_ends (Ended book kind.Word s) book f s (λ q. record { word = refl; is_text = q }))
end_told book f kind.Extended s e = absurd (subst (EndsBy ⊥) e (extended_none ⊥ book s))
end_told book f kind.Macro s e = absurd (subst (EndsBy ⊥) e (macro_none ⊥ s))

-- and M02 is M02, of either edition
pub end_said : (book : Book) (f : Format) → command_of book f kind.Word (text "M02") ≡ End
unfolding command_of word_of old.old_word old.said films.word_of miscellaneous_of is_end newer.newer_word newer.code_of pick same_bytes ◌or◌
end_said book f = go (is_old book)
  where
    go : (t : Bool) → pick t (old.old_word f (text "M02")) (newer.newer_word f (text "M02")) ≡ End
    go true = refl
    go false = refl

pub short_end_said : (book : Book) (f : Format) → is_old book ≡ true → command_of book f kind.Word (text "M2") ≡ End
unfolding command_of word_of old.old_word old.said films.word_of miscellaneous_of is_end pick same_bytes ◌or◌
short_end_said book f e = rw e refl

-- a data block keeps its first two letters, where neither is `*`
block_begins : (a b : ℕ) (s : List ℕ) → eqb a 42 ≡ false → eqb b 42 ≡ false → take 2 (take (place (code "*") (a ∷ b ∷ s) 0) (a ∷ b ∷ s)) ≡ a ∷ b ∷ []
unfolding first_in
block_begins a b s e f = rw (e, f, first_in) (go (first_in (λ x. eqb x 42) s 2) (in_from (λ x. eqb x 42) s 2).0)
  where
    go : (n : ℕ) → 2 ≤ n → take 2 (take n (a ∷ b ∷ s)) ≡ a ∷ b ∷ []
    go zero h = absurd (omega arith)
    go (suc zero) h = absurd (omega arith)
    go (suc (suc n)) h = refl

-- FS or a flaw
pub data Formats : Command → Type 0 where
  format : (f : Format) → Formats (Set (setting.Format f))
  flawed : (x : Flaw) → Formats (Broken x)

-- MO or a flaw
pub data Units : Command → Type 0 where
  millimetres : Units (Set setting.Millimetres)
  inches : Units (Set setting.Inches)
  unflawed : (x : Flaw) → Units (Broken x)

formatted_formats : (x : Result Format FormatError) → Formats (formatted x)
unfolding formatted
formatted_formats (Err format_error.NotForm) = flawed flaw.NotForm
formatted_formats (Err format_error.SevenPlaces) = flawed flaw.Unread
formatted_formats (Ok g) = format g

data_formats : (book : Book) (t : List ℕ) → t begins "FS" ≡ true → Formats (data_of book t)
unfolding data_of format_of pick
data_formats book t e = rw e (formatted_formats _)

unit_units : (t : List ℕ) → Units (unit_of t)
unfolding unit_of
unit_units t = picks Units (λ e. millimetres) (picks Units (λ e. inches) (unflawed flaw.NotForm))

data_units : (book : Book) (t : List ℕ) → take 2 t ≡ text "MO" → Units (data_of book t)
unfolding data_of pick same_bytes
data_units book t e = rw e (unit_units t)

pub format_said : (book : Book) (s : List ℕ) → Formats (extended_of book (70 ∷ 83 ∷ s))
unfolding extended_of data_in same_bytes
format_said book s =
    picks Formats (λ e. picks Formats (λ e. flawed flaw.Unread) (data_formats book _ (rw (block_begins 70 83 s refl refl) refl))) (flawed flaw.NotForm)

pub unit_said : (book : Book) (s : List ℕ) → Units (extended_of book (77 ∷ 79 ∷ s))
unfolding extended_of data_in
unit_said book s =
    picks Units (λ e. picks Units (λ e. unflawed flaw.Unread) (data_units book _ (block_begins 77 79 s refl refl))) (unflawed flaw.NotForm)
