-- Word commands, by the edition that the book names (02, [9]).
use Rattle.std.specs.Prelude.{ℕ, List}
use Rattle.base.specs.Choose.{pick}
use Rattle.book.specs.Books.{is_old}
use Rattle.book.specs.declared.Book.{Book}
use Rattle.formats.specs.declared.Format.{Format}
use Rattle.command.specs.declared.Command.{Command}
use Rattle.words.specs.Newer.{newer_word}
use Rattle.words.specs.Old.{old_word}

-- the format is that of FS
unfoldable pub word_of : Book → Format → List ℕ → Command
word_of book f s = pick (is_old book) (old_word f s) (newer_word f s)
