-- No recognised command has more decimals that were rounded than its text has bytes, so that a sum over a file is no more than its length.
-- Assumes nothing.
use Rattle.std.specs.Prelude.{Err, Ok, Result}
use Prim.Native.Nat.{ℕ, ◌-◌, ◌≤◌}
use Prim.Native.Char.{code}
use mathlib.Core.List.{List}
use native.Mathlib.Omega.{arith}
use lib.ListN.{length, take, drop, length-take, length-drop}
use Rattle.base.specs.Breaks.{is_break}
use Rattle.base.proofs.Trimmed.{trailing_short}
use Rattle.digits.specs.Digits.{past_digits}
use Rattle.text.specs.First.{place, before, after}
use Rattle.text.specs.Text.{text}
use Rattle.scan.specs.declared.Kind.{Kind}
use Rattle.scan.specs.declared.Kind.TheVariants as kind
use Rattle.command.specs.Numbers.{size_of}
use Rattle.command.specs.Rounded.{rounded_in_setting, rounded_in_definition, rounded_in_bracket, rounded_of}
use Rattle.command.specs.declared.Command.{Command}
use Rattle.command.proofs.Rounded.{counted_within}
use Rattle.book.specs.declared.Book.{Book}
use Rattle.formats.specs.declared.Format.{Format}
use Rattle.films.specs.Words as film
use Rattle.films.specs.declared.Word.{Word}
use Rattle.films.specs.declared.Word.TheVariants as word
use Rattle.command.specs.declared.Setting.{Setting}
use Rattle.operations.specs.Operations.{operates, coded, operation_of}
use Rattle.operations.specs.declared.Written.{Written}
use Rattle.words.specs.Newer.{comment_of, select_of, code_of, newer_word}
use Rattle.words.specs.Old as old
use Rattle.words.specs.Words.{word_of}
use Rattle.settings.specs.Header.{formatted, format_of, unit_of}
use Rattle.settings.specs.Repeats.{repeats, repeat_start, repeat_of}
use Rattle.settings.specs.Transformations.{rotation_of, scale_of, mirror_of, transformation_of}
use Rattle.apertures.specs.Blocks.{block_start, block_of}
use Rattle.apertures.specs.Definitions.{definition, aperture_of}
use Rattle.apertures.proofs.Few.{parameters_few}
use Rattle.attribute_commands.specs.Attributes.{attribute_of, deletion_of}
use Rattle.macro_tokens.specs.LineEnds.{without_trailing}
use Rattle.macro_form.specs.Macro.{headed, macro_of}
use Rattle.macro_form.proofs.Few.{blocks_few}
use Rattle.recognise.specs.Commands.{data_of, data_in, extended_of, command_of}
use Rattle.law_bounds.proofs.Tables.{picks, judges, begins_long}
use Rattle.formats.specs.declared.FormatError.TheVariants as format_error
use Rattle.formats.specs.declared.FormatError.{FormatError}

module _ (s : List ℕ) where
  -- no more of its decimals were rounded than there are bytes
  abbrev Few : Command → Type 0
  Few c = rounded_of c ≤ length s

  none : 0 ≤ length s
  none = omega arith

  -- the words have none
  operation_few : (w : Written) → Few (operates w)
  unfolding operates rounded_of
  operation_few w = judges Few none none (λ formed fits. none)

  select_few : (t : List ℕ) → Few (select_of t)
  unfolding select_of rounded_of
  select_few t = judges Few none none (λ formed fits. none)

  newer_few : (f : Format) → Few (newer_word f s)
  unfolding newer_word comment_of operation_of code_of rounded_of rounded_in_setting
  newer_few f =
      picks Few (λ e. picks Few (λ e. none) none)
      (picks Few (λ e. operation_few _)
      (picks Few (λ e. operation_few _)
      (picks Few (λ e. operation_few _)
      (picks Few (λ e. select_few _)
      (picks Few (λ e. none)
      (picks Few (λ e. none)
      (picks Few (λ e. none)
      (picks Few (λ e. none) (picks Few (λ e. none) (picks Few (λ e. none) (picks Few (λ e. none) none)))))))))))

  -- nor has what a G code sets
  abbrev FewSet : Setting → Type 0
  FewSet a = rounded_in_setting a ≤ length s

  setting_few : (g : ℕ) → FewSet (old.setting_of g)
  unfolding old.setting_of rounded_in_setting
  setting_few g =
      picks FewSet (λ e. none)
      (picks FewSet (λ e. none)
      (picks FewSet (λ e. none)
      (picks FewSet (λ e. none)
      (picks FewSet (λ e. none)
      (picks FewSet (λ e. none)
      (picks FewSet (λ e. none) (picks FewSet (λ e. none) (picks FewSet (λ e. none) (picks FewSet (λ e. none) none)))))))))

  said_few : (f : Format) (w : Word) → Few (old.said f s w)
  unfolding old.said old.operated coded rounded_of rounded_in_setting
  said_few f word.NotForm = none
  said_few f word.Note = none
  said_few f word.Halt = none
  said_few f word.End = none
  said_few f (word.Code g) = setting_few g
  said_few f (word.Select at) = select_few _
  said_few f (word.Operate g number from to) = picks Few (λ e. operation_few _) (judges Few none none (λ formed fits. none))

  word_few : (book : Book) (f : Format) → Few (word_of book f s)
  unfolding word_of old.old_word
  word_few book f = picks Few (λ e. said_few f (film.word_of s)) (newer_few f)

  -- nor have FS, MO, AB and the attributes
  formatted_few : (a : Result Format FormatError) → Few (formatted a)
  unfolding formatted rounded_of rounded_in_setting
  formatted_few (Err format_error.NotForm) = none
  formatted_few (Err format_error.SevenPlaces) = none
  formatted_few (Ok f) = none

  format_few : (book : Book) → Few (format_of book s)
  unfolding format_of
  format_few book = formatted_few _

  unit_few : Few (unit_of s)
  unfolding unit_of rounded_of rounded_in_setting
  unit_few = picks Few (λ e. none) (picks Few (λ e. none) none)

  block_few : Few (block_of s)
  unfolding block_of block_start rounded_of rounded_in_bracket
  block_few = picks Few (λ e. none) (picks Few (λ e. judges Few none none (λ formed fits. none)) none)

  deletion_few : Few (deletion_of s)
  unfolding deletion_of rounded_of
  deletion_few = picks Few (λ e. none) (picks Few (λ e. none) none)

  attribute_few : Few (attribute_of s)
  unfolding attribute_of rounded_of
  attribute_few = picks Few (λ named. picks Few (λ e. none) (picks Few (λ e. none) (picks Few (λ e. none) none))) none

  aperture_few : Few (aperture_of s)
  unfolding aperture_of definition rounded_of rounded_in_definition
  aperture_few =
      let q : ℕ = place (code ",") s (past_digits s 3) in
      picks Few (λ e. judges Few none none (λ formed fits. omega (arith, parameters_few (drop q s), length-drop q s))) none

  -- SR's two stand after three letters
  repeat_few : Few (repeat_of s)
  unfolding repeat_of repeat_start repeats rounded_of rounded_in_bracket
  repeat_few =
      let i : List ℕ = after "I" (after "Y" (drop 3 s)) in
      let dx = counted_within (size_of (before "J" i)).rounded in
      let dy = counted_within (size_of (after "J" i)).rounded in
      picks Few (λ e. none) (picks Few (λ e. judges Few none none (λ formed fits. omega (arith, begins_long s (text "SRX") e))) none)

  mirror_few : Few (mirror_of s)
  unfolding mirror_of rounded_of rounded_in_setting
  mirror_few = picks Few (λ e. none) (picks Few (λ e. none) (picks Few (λ e. none) (picks Few (λ e. none) none)))

  -- that of LR and LS after two
  transformation_few : Few (transformation_of s)
  unfolding transformation_of rotation_of scale_of rounded_of rounded_in_setting
  transformation_few =
      let one = counted_within (size_of (drop 2 s)).rounded in
      picks Few (λ e. none)
      (picks Few (λ e. none)
      (picks Few (λ e. mirror_few)
      (picks Few (λ e. judges Few none none (λ formed fits. omega (arith, begins_long s (text "LR") e)))
      (picks Few (λ e. judges Few none none (λ formed fits. omega (arith, begins_long s (text "LS") e))) none))))

  data_few : (book : Book) → Few (data_in book s)
  unfolding data_in data_of rounded_of
  data_few book =
      picks Few (λ e. none)
      (picks Few (λ e. format_few book)
      (picks Few (λ e. unit_few)
      (picks Few (λ e. aperture_few)
      (picks Few (λ e. block_few)
      (picks Few (λ e. repeat_few) (picks Few (λ e. transformation_few) (picks Few (λ e. deletion_few) attribute_few)))))))

  macro_few : Few (macro_of s)
  unfolding macro_of headed rounded_of rounded_in_definition
  macro_few =
      let t : List ℕ = without_trailing s in
      let u : List ℕ = take (length t - 1) t in
      let q : ℕ = place (code "*") u 2 in
      picks Few
      (λ e. judges Few none none
      (λ formed fits. omega (arith, blocks_few (drop q u), length-drop q u, length-take (length t - 1) t, trailing_short is_break s)))
      none

extended_few : (book : Book) (s : List ℕ) → Few s (extended_of book s)
unfolding extended_of rounded_of
extended_few book s =
    let star : ℕ = place (code "*") s 0 in
    picks (Few s) (λ e. omega (arith, data_few (take star s) book, length-take star s)) (none s)

pub rounded_within : (book : Book) (f : Format) (kind : Kind) (text : List ℕ) → rounded_of (command_of book f kind text) ≤ length text
unfolding command_of
rounded_within book f kind.Word text = word_few text book f
rounded_within book f kind.Extended text = extended_few book text
rounded_within book f kind.Macro text = macro_few text
