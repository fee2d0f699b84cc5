-- The rule of letters says nothing of what a command is: of the book its edition alone is asked.
-- Assumes nothing.
use Prim.Native.Nat.{ℕ}
use mathlib.Core.Path.{◌≡◌, refl}
use mathlib.Core.List.{List}
use Rattle.book.specs.Books.{under, is_old}
use Rattle.book.specs.declared.Book.{Book}
use Rattle.book.specs.declared.Letters.{Letters}
use Rattle.formats.specs.declared.Format.{Format}
use Rattle.scan.specs.declared.Kind.{Kind}
use Rattle.scan.specs.declared.Kind.TheVariants.{Word, Extended, Macro}
use Rattle.words.specs.Words.{word_of}
use Rattle.settings.specs.Header.{format_of}
use Rattle.recognise.specs.Commands.{is_unread, data_of, data_in, extended_of, command_of}

pub letters_apart : (letters : Letters) (book : Book) (f : Format) (kind : Kind) (s : List ℕ) → command_of (under letters book) f kind s ≡ command_of book f kind s
unfolding command_of word_of extended_of data_in is_unread data_of format_of is_old
letters_apart letters book f Word s = refl
letters_apart letters book f Extended s = refl
letters_apart letters book f Macro s = refl
