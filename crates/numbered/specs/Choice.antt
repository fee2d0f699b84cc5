-- The book that two numbers name, one its edition and one its rule of letters (decisions 420 and 514).
use Rattle.std.specs.Prelude.{ℕ, cond, eqb, None, Option, Some}
use Rattle.book.specs.declared.Book.{Book}
use Rattle.book.specs.declared.Edition.{Edition}
use Rattle.book.specs.declared.Edition.TheVariants as edition
use Rattle.book.specs.declared.Letters.{Letters}
use Rattle.book.specs.declared.Letters.TheVariants as letters
use Rattle.reader.specs.Short.{short_of}

abbrev pub book_of : Edition → Letters → Book
book_of edition letters = record { edition = edition; letters = letters }

-- of an edition: 1 is the old rule of letters, 2 the new one
unfoldable pub with_letters : Edition → ℕ → Option Book
with_letters e n = cond (eqb n 1) (Some (book_of e letters.Old)) (cond (eqb n 2) (Some (book_of e letters.New)) None)

-- 1 is the newer edition, 2 the old one
unfoldable pub choice_of : ℕ → ℕ → Option Book
choice_of m n = cond (eqb m 1) (with_letters edition.New n) (cond (eqb m 2) (with_letters edition.Old n) None)

-- of a reading that names no edition
unfoldable pub short_choice : ℕ → Option Book
short_choice n = cond (eqb n 1) (Some (short_of letters.Old)) (cond (eqb n 2) (Some (short_of letters.New)) None)
