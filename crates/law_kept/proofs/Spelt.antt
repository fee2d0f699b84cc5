-- What an operation's text says of where it goes: of every recogniser only those of D01, D02 and D03 make operations, by their coordinates.
-- Assumes nothing.
use Rattle.std.specs.Prelude.{Option, ℤ, Err, Ok, Result}
use Prim.Native.Nat.{ℕ, ◌+◌, ◌-◌}
use Prim.Native.Char.{code}
use mathlib.Core.Path.{◌≡◌, refl, sym, subst}
use mathlib.Core.Bool.{Bool, true, false, cond, false≢true}
use mathlib.Core.List.{List}
use lib.Dec.{eqb}
use lib.IntN.{ℤ}
use lib.ListN.{length, get_or, drop}
use lib.Seq.{slice}
use Rattle.base.specs.And.{◌and◌}
use Rattle.base.specs.Choose.{pick}
use Rattle.text.specs.Text.{byte}
use Rattle.book.specs.Books.{is_old}
use Rattle.book.specs.declared.Book.{Book}
use Rattle.formats.specs.Values.{taken_in}
use Rattle.formats.specs.declared.Format.{Format}
use Rattle.films.specs.Codes.{operation_length}
use Rattle.films.specs.Words as films
use Rattle.films.specs.Words.{operate_of, coded_of, general_of, miscellaneous_of, other_of}
use Rattle.films.specs.declared.Word.{Word}
use Rattle.films.specs.declared.Word.TheVariants as film
use Rattle.points.specs.Points.{pt}
use Rattle.points.specs.declared.Point.{Point}
use Rattle.digits.specs.Digits.{past_digits}
use Rattle.digits.specs.Sign.{is_sign}
use Rattle.operations.specs.Coordinates.{given, missing, field_at, fields_in}
use Rattle.operations.specs.Operations as op
use Rattle.operations.specs.declared.TakenField.{TakenField}
use Rattle.operations.specs.declared.Written.{Written}
use Rattle.scan.specs.declared.Kind.{Kind}
use Rattle.scan.specs.declared.Kind.TheVariants as kind
use Rattle.command.specs.declared.Setting.{Setting}
use Rattle.command.specs.declared.Operation.{Operation}
use Rattle.command.specs.declared.Operation.TheVariants as operation
use Rattle.command.specs.declared.Command.{Command}
use Rattle.command.specs.declared.Command.TheVariants.{Broken, Note, End, Set, Operate, Coded, Select, Define, Contain, Attribute}
use Rattle.command.specs.Flaws.{too_long}
use Rattle.words.specs.Newer as newer
use Rattle.words.specs.Old as old
use Rattle.words.specs.Words.{word_of}
use Rattle.settings.specs.Header.{formatted, format_of, unit_of}
use Rattle.settings.specs.Repeats.{repeats, repeat_start, repeat_of}
use Rattle.settings.specs.Transformations.{mirror_of, rotation_of, scale_of, transformation_of}
use Rattle.apertures.specs.Definitions as ad
use Rattle.apertures.specs.Blocks.{block_start, block_of}
use Rattle.attribute_commands.specs.Attributes.{attribute_of, deletion_of}
use Rattle.macro_form.specs.Macro.{headed, macro_of}
use Rattle.recognise.specs.Commands.{data_of, data_in, extended_of, command_of}
use Rattle.law_bounds.proofs.Tables.{picks, judges, neither}
use Rattle.graphics.specs.Graphics.{with_header, with_notation, with_mode, with_quadrants, with_region}
use Rattle.graphics.specs.declared.Graphics.{Graphics}
use Rattle.changes.specs.After.{along, with_coded, after_setting}
use Rattle.law_kept.specs.Coordinates as says
use Rattle.law_kept.specs.Coordinates.{Says, Goes, first_coordinate, operation_at, coordinates_in}
use Rattle.digits.specs.declared.answers.NumberError.TheVariants as number_error
use Rattle.digits.specs.declared.answers.NumberError.{NumberError}
use Rattle.formats.specs.declared.FormatError.TheVariants as format_error
use Rattle.formats.specs.declared.FormatError.{FormatError}

-- a field of good form, as long as it may be
field_says : (f : Format) (incremental : Bool) (letter : ℕ) (u : List ℕ) (at : ℕ) (old : ℤ) → (field_at f letter u at).field.formless ≡ false →
    (field_at f letter u at).field.long ≡ false →
    Says f incremental letter u at old (along incremental (op.axis_of (field_at f letter u at).field) old) (field_at f letter u at).next
unfolding field_at op.axis_of along given missing
field_says f incremental letter u at old formed short =
    go (eqb (get_or u at 0) letter) refl (is_sign (get_or u (at + 1) 0)) (taken_in f u (at + 1)).coordinate refl formed short
  where
    taken : Bool → Bool → Result ℤ NumberError → TakenField
    taken t sign c =
        cond {A = TakenField} t (record { field = given sign c; next = (taken_in f u (at + 1)).next }) (record { field = missing; next = at })

    go : (t : Bool) → eqb (get_or u at 0) letter ≡ t → (sign : Bool) (c : Result ℤ NumberError) → (taken_in f u (at + 1)).coordinate ≡ c →
        (taken t sign c).field.formless ≡ false → (taken t sign c).field.long ≡ false →
        Says f incremental letter u at old (along incremental (op.axis_of (taken t sign c).field) old) (taken t sign c).next
    go true e sign (Err number_error.NotForm) q f l = absurd (false≢true (sym f))
    go true e sign (Err number_error.TooLong) q f l = absurd (false≢true (sym l))
    go true e sign (Ok v) q f l = says.digits e q
    go false e sign c q f l = says.missing e

-- where an operation with these axes goes
abbrev goes_by : Bool → Option ℤ → Option ℤ → Point → Point
goes_by incremental x y old = pt (along incremental x old.x) (along incremental y old.y)

-- what the text of its coordinates says of an operation
abbrev SpeltBy : Format → List ℕ → Option ℤ → Option ℤ → Type 0
SpeltBy f u x y = (incremental : Bool) (old : Point) → Goes f incremental u old (goes_by incremental x y old)

fields_go : (f : Format) (u : List ℕ) → op.broken (fields_in f u) ≡ false → op.too_long (fields_in f u) ≡ false →
    SpeltBy f u (op.axis_of (fields_in f u).x) (op.axis_of (fields_in f u).y)
unfolding fields_in op.broken op.too_long
fields_go f u formed short incremental old =
    let f1 = (neither _ _ formed).0 in
    let f2 = (neither _ _ f1).0 in
    let f3 = neither _ _ f2 in
    let f4 = neither _ _ f3.0 in
    let l1 = (neither _ _ short).0 in
    let l2 = neither _ _ l1 in
    let l3 = neither _ _ l2.0 in
    record {
      between = _;
      last = _;
      across = field_says f incremental (code "X") u 0 old.x f4.1 l3.0;
      up = field_says f incremental (code "Y") u _ old.y f3.1 l3.1;
    }

abbrev pub SpeltAs : Format → List ℕ → Operation → Type 0
SpeltAs f u (operation.Draw x y o) = SpeltBy f u x y
SpeltAs f u (operation.Move x y) = SpeltBy f u x y
SpeltAs f u (operation.Flash x y) = SpeltBy f u x y

-- a code before an operation leaves the format as it is
abbrev pub Steady : Setting → Type 0
Steady x = (g : Graphics) → (after_setting x g).header.format ≡ g.header.format

abbrev pub Spelt : Format → List ℕ → Command → Type 0
Spelt f u (Operate o) = SpeltAs f u o
Spelt f u (Coded x o) = SpeltAs f u o × Steady x
Spelt f u (Broken flaw) = Unit
Spelt f u Note = Unit
Spelt f u End = Unit
Spelt f u (Set x) = Unit
Spelt f u (Select m) = Unit
Spelt f u (Define d) = Unit
Spelt f u (Contain b) = Unit
Spelt f u (Attribute d) = Unit

setting_steady : (g : ℕ) → Steady (old.setting_of g)
unfolding old.setting_of after_setting with_header with_notation with_mode with_quadrants with_region with_coded
setting_steady g =
    picks Steady (λ e g. refl)
    (picks Steady (λ e g. refl)
    (picks Steady (λ e g. refl)
    (picks Steady (λ e g. refl)
    (picks Steady (λ e g. refl)
    (picks Steady (λ e g. refl)
    (picks Steady (λ e g. refl) (picks Steady (λ e g. refl) (picks Steady (λ e g. refl) (picks Steady (λ e g. refl) (λ g. refl))))))))))

module _ (f : Format) (u : List ℕ) where
  -- an operation of these coordinates, of good form
  written : (number : ℕ) → (op.operation_in number f u).formless ≡ false → (op.operation_in number f u).long ≡ false → SpeltAs f u (op.operation_in number f u).operation
  unfolding op.operation_in op.draw op.move op.flash op.without_offset
  written number = go (eqb number 1) (eqb number 2)
    where
      given_by : (t v : Bool) → Written
      given_by t v = cond t (op.draw (fields_in f u)) (cond v (op.move (fields_in f u)) (op.flash (fields_in f u)))

      go : (t v : Bool) → (given_by t v).formless ≡ false → (given_by t v).long ≡ false → SpeltAs f u (given_by t v).operation
      go true v formed short = fields_go f u (neither _ _ formed).0 short
      go false true formed short = fields_go f u (neither _ _ (neither _ _ formed).0).0 short
      go false false formed short = fields_go f u (neither _ _ (neither _ _ formed).0).0 short

  operates_spelt : (number : ℕ) → Spelt f u (op.operates (op.operation_in number f u))
  unfolding op.operates
  operates_spelt number = judges (Spelt f u) tt tt (λ formed short. written number formed short)

  coded_spelt : (g number : ℕ) → Spelt f u (op.coded (old.setting_of g) (op.operation_in number f u))
  unfolding op.coded
  coded_spelt g number = judges (Spelt f u) tt tt (λ formed short. (written number formed short, setting_steady g))

  operated_spelt : (g number : ℕ) → Spelt f u (old.operated g (op.operation_in number f u))
  unfolding old.operated
  operated_spelt g number = picks (Spelt f u) (λ e. operates_spelt number) (coded_spelt g number)

  -- what is no operation says nothing of coordinates
  comment_none : (s : List ℕ) → Spelt f u (newer.comment_of s)
  unfolding newer.comment_of
  comment_none s = picks (Spelt f u) (λ e. tt) tt

  select_none : (s : List ℕ) → Spelt f u (newer.select_of s)
  unfolding newer.select_of
  select_none s = judges (Spelt f u) tt tt (λ f l. tt)

  code_none : (s : List ℕ) → Spelt f u (newer.code_of s)
  unfolding newer.code_of
  code_none s =
      picks (Spelt f u) (λ e. tt)
      (picks (Spelt f u) (λ e. tt)
      (picks (Spelt f u) (λ e. tt)
      (picks (Spelt f u) (λ e. tt) (picks (Spelt f u) (λ e. tt) (picks (Spelt f u) (λ e. tt) (picks (Spelt f u) (λ e. tt) tt))))))

  start_none : (x : List ℕ) → Spelt f u (repeat_start x)
  unfolding repeat_start repeats
  start_none x = judges (Spelt f u) tt tt (λ f l. tt)

  transformation_none : (t : List ℕ) → Spelt f u (transformation_of t)
  unfolding transformation_of mirror_of rotation_of scale_of
  transformation_none t =
      picks (Spelt f u) (λ e. tt)
      (picks (Spelt f u) (λ e. tt)
      (picks (Spelt f u)
      (λ e. picks (Spelt f u) (λ e. tt) (picks (Spelt f u) (λ e. tt) (picks (Spelt f u) (λ e. tt) (picks (Spelt f u) (λ e. tt) tt))))
      (picks (Spelt f u) (λ e. judges (Spelt f u) tt tt (λ f l. tt)) (picks (Spelt f u) (λ e. judges (Spelt f u) tt tt (λ f l. tt)) tt))))

  formatted_none : (x : Result Format FormatError) → Spelt f u (formatted x)
  unfolding formatted
  formatted_none (Err format_error.NotForm) = tt
  formatted_none (Err format_error.SevenPlaces) = tt
  formatted_none (Ok g) = tt

  data_none : (book : Book) (t : List ℕ) → Spelt f u (data_of book t)
  unfolding data_of format_of unit_of repeat_of block_of block_start ad.aperture_of ad.definition deletion_of attribute_of
  data_none book t =
      picks (Spelt f u) (λ e. formatted_none _)
      (picks (Spelt f u) (λ e. picks (Spelt f u) (λ e. tt) (picks (Spelt f u) (λ e. tt) tt))
      (picks (Spelt f u) (λ e. picks (Spelt f u) (λ e. judges (Spelt f u) tt tt (λ f l. tt)) tt)
      (picks (Spelt f u) (λ e. picks (Spelt f u) (λ e. tt) (picks (Spelt f u) (λ e. judges (Spelt f u) tt tt (λ f l. tt)) tt))
      (picks (Spelt f u) (λ e. picks (Spelt f u) (λ e. tt) (picks (Spelt f u) (λ e. start_none _) tt))
      (picks (Spelt f u) (λ e. transformation_none t)
      (picks (Spelt f u) (λ e. picks (Spelt f u) (λ e. tt) (picks (Spelt f u) (λ e. tt) tt))
      (picks (Spelt f u) (λ e. picks (Spelt f u) (λ e. tt) (picks (Spelt f u) (λ e. tt) (picks (Spelt f u) (λ e. tt) tt))) tt)))))))

  extended_none : (book : Book) (s : List ℕ) → Spelt f u (extended_of book s)
  unfolding extended_of data_in
  extended_none book s = picks (Spelt f u) (λ e. picks (Spelt f u) (λ e. tt) (data_none book _)) tt

  macro_none : (s : List ℕ) → Spelt f u (macro_of s)
  unfolding macro_of headed
  macro_none s = picks (Spelt f u) (λ e. judges (Spelt f u) tt tt (λ f l. tt)) tt

-- where a word command of the old book has its coordinates
abbrev Stood : List ℕ → ℕ → Word → Type 0
Stood s first (film.Operate g number from to) = (from ≡ first) × (to ≡ length s - operation_length s)
Stood s first film.NotForm = Unit
Stood s first film.Note = Unit
Stood s first film.Halt = Unit
Stood s first film.End = Unit
Stood s first (film.Code g) = Unit
Stood s first (film.Select at) = Unit

module _ (s : List ℕ) (first : ℕ) where
  operate_stood : (g : ℕ) (other : Word) → Stood s first other → Stood s first (operate_of g first s other)
  unfolding operate_of
  operate_stood g other k = picks (Stood s first) (λ e. k) (refl, refl)

  comment_stood : Stood s first (films.comment_of s)
  unfolding films.comment_of
  comment_stood = picks (Stood s first) (λ e. tt) tt

  coded_stood : (g : ℕ) → Stood s first (coded_of g first s)
  unfolding coded_of
  coded_stood g =
      picks (Stood s first) (λ e. tt)
      (picks (Stood s first) (λ e. picks (Stood s first) (λ e. tt) tt) (picks (Stood s first) (λ e. tt) (operate_stood g film.NotForm tt)))

  miscellaneous_stood : Stood s first (miscellaneous_of s)
  unfolding miscellaneous_of
  miscellaneous_stood = picks (Stood s first) (λ e. tt) (picks (Stood s first) (λ e. tt) tt)

general_stood : (s : List ℕ) → Stood s (past_digits s 1) (general_of s)
unfolding general_of
general_stood s =
    let first : ℕ = past_digits s 1 in
    picks (Stood s first) (λ e. comment_stood s first) (picks (Stood s first) (λ e. comment_stood s first) (coded_stood s first _))

other_stood : (s : List ℕ) → Stood s 0 (other_of s)
unfolding other_of
other_stood s = picks (Stood s 0) (λ e. operate_stood s 0 0 (film.Select 1) tt) (operate_stood s 0 0 film.NotForm tt)

word_stood : (s : List ℕ) → Stood s (cond (byte "G" (get_or s 0 0)) (past_digits s 1) 0) (films.word_of s)
unfolding films.word_of pick
word_stood s = go (byte "G" (get_or s 0 0))
  where
    go : (t : Bool) → Stood s (cond t (past_digits s 1) 0) (pick t (general_of s) (pick (byte "M" (get_or s 0 0)) (miscellaneous_of s) (other_of s)))
    go true = general_stood s
    go false = picks (Stood s 0) {test = byte "M" (get_or s 0 0)} (λ e. miscellaneous_stood s 0) (other_stood s)

module _ (f : Format) (s : List ℕ) where
  said_spelt : (first : ℕ) (w : Word) → Stood s first w → Spelt f (slice first (length s - operation_length s) s) (old.said f s w)
  unfolding old.said
  said_spelt first film.NotForm k = tt
  said_spelt first film.Note k = tt
  said_spelt first film.Halt k = tt
  said_spelt first film.End k = tt
  said_spelt first (film.Code g) k = tt
  said_spelt first (film.Select at) k = select_none f _ (drop at s)
  said_spelt first (film.Operate g number from to) k =
      subst (λ (u : List ℕ). Spelt f u (old.operated g (op.operation_in number f (slice from to s)))) (λ i. slice (k.0 i) (k.1 i) s)
      (operated_spelt f (slice from to s) g number)

  newer_spelt : Spelt f (slice 0 (length s - 3) s) (newer.newer_word f s)
  unfolding newer.newer_word op.operation_of op.uncoded
  newer_spelt =
      let u : List ℕ = slice 0 (length s - 3) s in
      picks (Spelt f u) (λ e. comment_none f u s)
      (picks (Spelt f u) (λ e. operates_spelt f u 1)
      (picks (Spelt f u) (λ e. operates_spelt f u 2)
      (picks (Spelt f u) (λ e. operates_spelt f u 3) (picks (Spelt f u) (λ e. select_none f u (drop 1 s)) (code_none f u s)))))

  word_spelt : (book : Book) → Spelt f (coordinates_in book s) (word_of book f s)
  unfolding word_of old.old_word first_coordinate operation_at ◌and◌ pick
  word_spelt book = go (is_old book)
    where
      go : (t : Bool) → Spelt f (slice (cond (t and byte "G" (get_or s 0 0)) (past_digits s 1) 0) (length s - cond t (operation_length s) 3) s)
          (pick t (old.old_word f s) (newer.newer_word f s))
      go true = said_spelt _ (films.word_of s) (word_stood s)
      go false = newer_spelt

  pub spelt : (book : Book) (k : Kind) → Spelt f (coordinates_in book s) (command_of book f k s)
  unfolding command_of
  spelt book kind.Word = word_spelt book
  spelt book kind.Extended = extended_none f _ book s
  spelt book kind.Macro = macro_none f _ s
