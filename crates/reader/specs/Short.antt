-- The book of a reading that names no edition: "from this release it reads the old book" (02, [10]), by the letters that are named.
use Rattle.book.specs.declared.Book.{Book}
use Rattle.book.specs.declared.Edition.TheVariants as edition
use Rattle.book.specs.declared.Letters.{Letters}

unfoldable pub short_of : Letters → Book
short_of letters = record { edition = edition.Old; letters = letters }
