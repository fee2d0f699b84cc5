-- Where a name of a file attribute is set twice (01, number 19), told by the file as it is cut into commands: what stands after a fault
-- or after M02 is looked at too, and no reader comes there (decision 254).
use Rattle.std.specs.Prelude.{ℕ, zero, suc, ◌+◌, true, false, List, [], ◌∷◌, length, None, Option, Some}
use Rattle.std.proofs.Math.Seq.{slice}
use Rattle.scan.specs.Scan.{next_command}
use Rattle.book.specs.declared.Book.{Book}
use Rattle.scan.specs.declared.Scan.{Scan}
use Rattle.scan.specs.declared.Scan.TheVariants as scan
use Rattle.formats.specs.Format.{no_format}
use Rattle.recognise.specs.Commands.{command_of}
use Rattle.law_reading.specs.Apertures.{is_among}
use Rattle.names.specs.Sets.{sets_of}
use Rattle.names.specs.declared.Look.{Look}
use Rattle.names.specs.declared.Look.TheVariants.{End, Other, Naming}
use Rattle.command.specs.declared.Span.{Span}

-- the command at a place, its text from `from` on, that leads on to `next`: where in the file its name lies, if it sets one
unfoldable pub seen : ℕ → ℕ → ℕ → Option Span → Look
seen place from next None = Other next
seen place from next (Some n) = Naming place (from + n.from) (from + n.to) next

-- no TF depends on the format of FS, so that there is none here (proofs/Nameless)
unfoldable pub looked : Book → List ℕ → Scan → Look
looked book file (scan.Command kind place from end next) = seen place from next (sets_of (command_of book no_format kind (slice from end file)))
looked book file (scan.BadByte place) = End
looked book file (scan.Ended place) = End

-- what stands next from `at` on
unfoldable pub look_at : Book → List ℕ → ℕ → Look
look_at book file at = looked book file (next_command book file at)

-- a TF: its place, and the name that it sets
pub record Named : Type 0 where
  pub place : ℕ
  pub name : List ℕ

-- every TF from `at` on, in at most k commands
unfoldable pub named_from : Book → ℕ → List ℕ → ℕ → List Named
named_from book zero file at = []
named_from book (suc k) file at =
    elim (look_at book file at) [
      | End ↦ []
      | Other next ↦ named_from book k file next
      | Naming place from to next ↦ record { place = place; name = slice from to file } ∷ named_from book k file next
    ]

-- each command takes a byte at least, and so a turn more than there are bytes is enough
abbrev pub named_in : Book → List ℕ → ℕ → List Named
named_in book file at = named_from book (suc (length file)) file at

-- the place of the first TF that sets a name set before, these names being set; where there is none, another place
unfoldable pub twice_from : ℕ → List Named → List (List ℕ) → ℕ
twice_from none [] names = none
twice_from none (n ∷ ns) names =
    elim (is_among n.name names) [ true ↦ n.place | false ↦ twice_from none ns (n.name ∷ names) ]

-- from `at` on; the length of the file where there is none
abbrev pub twice_in : Book → List ℕ → ℕ → List (List ℕ) → ℕ
twice_in book file at names = twice_from (length file) (named_in book file at) names

unfoldable pub twice_at : Book → List ℕ → ℕ
twice_at book file = twice_in book file 0 []

-- the place of the first TF that sets one of these names
unfoldable pub first_from : ℕ → List Named → List (List ℕ) → ℕ
first_from none [] names = none
first_from none (n ∷ ns) names = elim (is_among n.name names) [ true ↦ n.place | false ↦ first_from none ns names ]

abbrev pub first_in : Book → List ℕ → ℕ → List (List ℕ) → ℕ
first_in book file at names = first_from (length file) (named_in book file at) names

-- that sets this name
unfoldable pub first_at : Book → List ℕ → List ℕ → ℕ
first_at book file name = first_in book file 0 (name ∷ [])
