-- Which commands set a name of the file's: TF only, and only where the text begins with `TF`, whatever the format of FS and the edition.
-- Assumes nothing.
use Rattle.std.specs.Prelude.{Err, Ok, Result, None}
use Prim.Native.Nat.{ℕ, zero, suc}
use Prim.Native.Char.{code}
use mathlib.Core.Path.{◌≡◌, refl, sym, ◌∙◌}
use mathlib.Core.Bool.{Bool, true, false, false≢true}
use mathlib.Core.List.{List, [], ◌∷◌}
use lib.Dec.{eqb}
use lib.ListN.{take}
use Rattle.base.specs.Bytes.{same_bytes}
use Rattle.text.specs.First.{place}
use Rattle.text.specs.Text.{◌begins◌}
use Rattle.scan.specs.declared.Kind.{Kind}
use Rattle.scan.specs.declared.Kind.TheVariants as kind
use Rattle.command.specs.declared.Command.{Command}
use Rattle.book.specs.declared.Book.{Book}
use Rattle.formats.specs.Format.{no_format}
use Rattle.formats.specs.declared.Format.{Format}
use Rattle.films.specs.Words as film
use Rattle.films.specs.declared.Word.{Word}
use Rattle.films.specs.declared.Word.TheVariants as word
use Rattle.operations.specs.Operations.{operates, coded, operation_of}
use Rattle.operations.specs.declared.Written.{Written}
use Rattle.words.specs.Newer.{comment_of, select_of, code_of, newer_word}
use Rattle.words.specs.Old.{operated, said, old_word}
use Rattle.words.specs.Words.{word_of}
use Rattle.settings.specs.Header.{formatted, format_of, unit_of}
use Rattle.settings.specs.Repeats.{repeats, repeat_start, repeat_of}
use Rattle.settings.specs.Transformations.{rotation_of, scale_of, mirror_of, transformation_of}
use Rattle.apertures.specs.Definitions.{definition, aperture_of}
use Rattle.apertures.specs.Blocks.{block_start, block_of}
use Rattle.macro_form.specs.Macro.{headed, macro_of}
use Rattle.attribute_commands.specs.Attributes.{attribute_of, deletion_of}
use Rattle.recognise.specs.Commands.{data_of, data_in, extended_of, command_of}
use Rattle.law_bounds.proofs.Tables.{picks, judges}
use Rattle.names.specs.Sets.{sets_by, sets_of}
use Rattle.formats.specs.declared.FormatError.TheVariants as format_error
use Rattle.formats.specs.declared.FormatError.{FormatError}

-- it sets no name
abbrev pub Nameless : Command → Type 0
Nameless c = sets_of c ≡ None

-- no word command does, nor a macro
operation_none : (w : Written) → Nameless (operates w)
unfolding sets_of operates
operation_none w = judges Nameless refl refl (λ formed fits. refl)

select_none : (t : List ℕ) → Nameless (select_of t)
unfolding sets_of select_of
select_none t = judges Nameless refl refl (λ formed fits. refl)

newer_none : (f : Format) (s : List ℕ) → Nameless (newer_word f s)
unfolding sets_of newer_word comment_of operation_of code_of
newer_none f s =
    picks Nameless (λ e. picks Nameless (λ e. refl) refl)
    (picks Nameless (λ e. operation_none _)
    (picks Nameless (λ e. operation_none _)
    (picks Nameless (λ e. operation_none _)
    (picks Nameless (λ e. select_none _)
    (picks Nameless (λ e. refl)
    (picks Nameless (λ e. refl)
    (picks Nameless (λ e. refl)
    (picks Nameless (λ e. refl) (picks Nameless (λ e. refl) (picks Nameless (λ e. refl) (picks Nameless (λ e. refl) refl)))))))))))

said_none : (f : Format) (s : List ℕ) (w : Word) → Nameless (said f s w)
unfolding sets_of said operated coded
said_none f s word.NotForm = refl
said_none f s word.Note = refl
said_none f s word.Halt = refl
said_none f s word.End = refl
said_none f s (word.Code g) = refl
said_none f s (word.Select at) = select_none _
said_none f s (word.Operate g number from to) = picks Nameless (λ e. operation_none _) (judges Nameless refl refl (λ formed fits. refl))

pub word_none : (book : Book) (f : Format) (s : List ℕ) → Nameless (word_of book f s)
unfolding word_of old_word
word_none book f s = picks Nameless (λ e. said_none f s (film.word_of s)) (newer_none f s)

pub macro_none : (s : List ℕ) → Nameless (macro_of s)
unfolding sets_of macro_of headed
macro_none s = picks Nameless (λ e. judges Nameless refl refl (λ formed fits. refl)) refl

-- nor an extended one with another beginning
module _ (s : List ℕ) where
  formatted_none : (a : Result Format FormatError) → Nameless (formatted a)
  unfolding sets_of formatted
  formatted_none (Err format_error.NotForm) = refl
  formatted_none (Err format_error.SevenPlaces) = refl
  formatted_none (Ok f) = refl

  format_none : (book : Book) → Nameless (format_of book s)
  unfolding format_of
  format_none book = formatted_none _

  unit_none : Nameless (unit_of s)
  unfolding sets_of unit_of
  unit_none = picks Nameless (λ e. refl) (picks Nameless (λ e. refl) refl)

  aperture_none : Nameless (aperture_of s)
  unfolding sets_of aperture_of definition
  aperture_none = picks Nameless (λ e. judges Nameless refl refl (λ formed fits. refl)) refl

  block_none : Nameless (block_of s)
  unfolding sets_of block_of block_start
  block_none = picks Nameless (λ e. refl) (picks Nameless (λ e. judges Nameless refl refl (λ formed fits. refl)) refl)

  repeat_none : Nameless (repeat_of s)
  unfolding sets_of repeat_of repeat_start repeats
  repeat_none = picks Nameless (λ e. refl) (picks Nameless (λ e. judges Nameless refl refl (λ formed fits. refl)) refl)

  mirror_none : Nameless (mirror_of s)
  unfolding sets_of mirror_of
  mirror_none = picks Nameless (λ e. refl) (picks Nameless (λ e. refl) (picks Nameless (λ e. refl) (picks Nameless (λ e. refl) refl)))

  transformation_none : Nameless (transformation_of s)
  unfolding sets_of transformation_of rotation_of scale_of
  transformation_none =
      picks Nameless (λ e. refl)
      (picks Nameless (λ e. refl)
      (picks Nameless (λ e. mirror_none)
      (picks Nameless (λ e. judges Nameless refl refl (λ formed fits. refl)) (picks Nameless (λ e. judges Nameless refl refl (λ formed fits. refl)) refl))))

  deletion_none : Nameless (deletion_of s)
  unfolding sets_of sets_by deletion_of
  deletion_none = picks Nameless (λ e. refl) (picks Nameless (λ e. refl) refl)

  attribute_none : s begins "TF" ≡ false → Nameless (attribute_of s)
  unfolding sets_of sets_by attribute_of
  attribute_none other =
      picks Nameless (λ named. picks Nameless (λ e. absurd (false≢true (sym other ∙ e))) (picks Nameless (λ e. refl) (picks Nameless (λ e. refl) refl))) refl

  data_none : (book : Book) → s begins "TF" ≡ false → Nameless (data_in book s)
  unfolding sets_of data_in data_of
  data_none book other =
      picks Nameless (λ e. refl)
      (picks Nameless (λ e. format_none book)
      (picks Nameless (λ e. unit_none)
      (picks Nameless (λ e. aperture_none)
      (picks Nameless (λ e. block_none)
      (picks Nameless (λ e. repeat_none)
      (picks Nameless (λ e. transformation_none)
      (picks Nameless (λ e. deletion_none) (attribute_none other))))))))

-- a part that begins so is that of a text that begins so
begins_part : (k : ℕ) (s : List ℕ) → s begins "TF" ≡ false → take k s begins "TF" ≡ false
unfolding same_bytes
begins_part zero s e = refl
begins_part (suc zero) [] e = refl
begins_part (suc zero) (a ∷ s) e = go (eqb a 84)
  where
    go : (t : Bool) → elim t [ true ↦ false | false ↦ false ] ≡ false
    go true = refl
    go false = refl
begins_part (suc (suc k)) [] e = refl
begins_part (suc (suc k)) (a ∷ []) e = e
begins_part (suc (suc k)) (a ∷ b ∷ s) e = e

pub extended_none : (book : Book) (s : List ℕ) → s begins "TF" ≡ false → Nameless (extended_of book s)
unfolding sets_of extended_of
extended_none book s other = picks Nameless (λ e. data_none _ book (begins_part (place (code "*") s 0) s other)) refl

-- FS does not matter
pub sets_any : (book : Book) (f : Format) (k : Kind) (s : List ℕ) → sets_of (command_of book f k s) ≡ sets_of (command_of book no_format k s)
unfolding command_of
sets_any book f kind.Word s = word_none book f s ∙ sym (word_none book no_format s)
sets_any book f kind.Extended s = refl
sets_any book f kind.Macro s = refl
