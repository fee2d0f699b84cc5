-- What a command says (01, What is read; 02, [9]): a word command, an extended one, or AM.
use Rattle.std.specs.Prelude.{ℕ, ◌+◌, Bool, List, [], ◌∷◌, ltb, leb, length, take}
use Prim.Native.Char.{code}
use Rattle.base.specs.And.{◌and◌}
use Rattle.text.specs.First.{place, skipped}
use Rattle.text.specs.Text.{◌begins◌}
use Rattle.scan.specs.declared.Kind.{Kind}
use Rattle.scan.specs.declared.Kind.TheVariants.{Word, Extended, Macro}
use Rattle.base.specs.Choose.{pick, choose}
use Rattle.book.specs.Books.{is_old}
use Rattle.book.specs.declared.Book.{Book}
use Rattle.formats.specs.declared.Format.{Format}
use Rattle.films.specs.Parameters.{is_refused}
use Rattle.command.specs.declared.Command.{Command}
use Rattle.command.specs.Flaws.{not_form, unread}
use Rattle.words.specs.Words.{word_of}
use Rattle.settings.specs.Header.{format_of, unit_of}
use Rattle.settings.specs.Repeats.{repeat_of}
use Rattle.settings.specs.Transformations.{transformation_of}
use Rattle.apertures.specs.Definitions.{aperture_of}
use Rattle.apertures.specs.Blocks.{block_of}
use Rattle.macro_form.specs.Macro.{macro_of}
use Rattle.attribute_commands.specs.Attributes.{attribute_of, deletion_of}

-- one data block: after its `*` CR and LF only (decisions 3, 6 and 31)
unfoldable pub one_block : List ℕ → ℕ → Bool
one_block s star = ltb star (length s) and leb (length s) (skipped s (star + 1))

-- a data block of the old book that is not read (02, [9]; decision 486)
unfoldable pub is_unread : Book → List ℕ → Bool
is_unread book s = is_old book and is_refused s

-- a data block without its `*`, by its first letters; what is none of these is 4
unfoldable pub data_of : Book → List ℕ → Command
data_of book s =
    choose
    ((s begins "FS", format_of book s)
    ∷ (s begins "MO", unit_of s)
    ∷ (s begins "AD", aperture_of s)
    ∷ (s begins "AB", block_of s)
    ∷ (s begins "SR", repeat_of s)
    ∷ (s begins "L", transformation_of s)
    ∷ (s begins "TD", deletion_of s)
    ∷ [])
    (attribute_of s)

unfoldable pub data_in : Book → List ℕ → Command
data_in book s = pick (is_unread book s) unread (data_of book s)

-- an extended command but AM is one data block; 4 is tested before 30 (decision 501)
unfoldable pub extended_of : Book → List ℕ → Command
extended_of book s = let star : ℕ = place (code "*") s 0 in pick (one_block s star) (data_in book (take star s)) not_form

-- the command of this kind with this text, by the edition of the book; the format is that of FS
unfoldable pub command_of : Book → Format → Kind → List ℕ → Command
command_of book f Word s = word_of book f s
command_of book f Extended s = extended_of book s
command_of book f Macro s = macro_of s
