-- The books by which a file is read (02, requests [8] and [9]).
use Rattle.std.specs.Prelude.{Bool, true, false}
use Rattle.book.specs.declared.Book.{Book}
use Rattle.book.specs.declared.Edition.{Edition}
use Rattle.book.specs.declared.Edition.TheVariants as edition
use Rattle.book.specs.declared.Letters.{Letters}
use Rattle.book.specs.declared.Letters.TheVariants.{Old, New}

-- a book under one rule of letters or the other, all else in it being the same
abbrev pub under : Letters → Book → Book
under letters book = record { edition = book.edition; letters = letters }

-- document 01's: the newer edition, no letter beyond ASCII
abbrev pub ascii : Book
ascii = record { edition = edition.New; letters = Old }

-- the same with UTF-8 in fields and in G04's text
abbrev pub utf8 : Book
utf8 = under New ascii

-- the same of the old book
abbrev pub film : Book
film = record { edition = edition.Old; letters = Old }

unfoldable pub is_old_edition : Edition → Bool
is_old_edition edition.New = false
is_old_edition edition.Old = true

-- "RS-274X of the old book" (02, [9])
unfoldable pub is_old : Book → Bool
is_old book = is_old_edition book.edition
