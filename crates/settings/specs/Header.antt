-- FS and MO (01, Form; 02, [9]; decisions 30 and 482).
use Rattle.std.specs.Prelude.{ℕ, List, [], ◌∷◌, Err, Ok, Result}
use Rattle.text.specs.Text.{◌is◌}
use Rattle.base.specs.Choose.{pick, choose}
use Rattle.book.specs.Books.{is_old}
use Rattle.book.specs.declared.Book.{Book}
use Rattle.formats.specs.Texts.{newer_format, old_format}
use Rattle.command.specs.declared.Command.{Command}
use Rattle.command.specs.declared.Command.TheVariants.{Set}
use Rattle.command.specs.declared.Setting.TheVariants as setting
use Rattle.command.specs.Flaws.{not_form, unread}
use Rattle.formats.specs.declared.FormatError.TheVariants as format_error
use Rattle.formats.specs.declared.Format.{Format}
use Rattle.formats.specs.declared.FormatError.{FormatError}

-- not of its form is 4, seven places are 30
unfoldable pub formatted : Result Format FormatError → Command
formatted (Err format_error.NotForm) = not_form
formatted (Err format_error.SevenPlaces) = unread
formatted (Ok f) = Set (setting.Format f)

-- FS, by the edition that the book names
unfoldable pub format_of : Book → List ℕ → Command
format_of book s = formatted (pick (is_old book) (old_format s) (newer_format s))

unfoldable pub unit_of : List ℕ → Command
unit_of s =
    choose
    ((s is "MOMM", Set setting.Millimetres)
    ∷ (s is "MOIN", Set setting.Inches)
    ∷ [])
    not_form
