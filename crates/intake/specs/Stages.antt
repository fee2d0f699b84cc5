-- Where a file stands between two bytes, and how it goes on with a byte: the scanner's walk up to M02, and what may follow M02.
use Rattle.std.specs.Prelude.{ℕ, Bool, false, cond, not}
use Rattle.base.specs.Breaks.{is_break}
use Rattle.scan.specs.Permitted.{printable}
use Rattle.scan.specs.Scan.{number_of, place_of}
use Rattle.scan.specs.Ways.{step}
use Rattle.book.specs.declared.Book.{Book}
use Rattle.scan.specs.declared.Scan.{Scan}
use Rattle.scan.specs.declared.Way.{Way}
use Rattle.scan.specs.declared.Way.TheVariants.{Between, Inside, Complete, Bad}
use Rattle.signature.specs.declared.Answer.{Answer}
use Rattle.signature.specs.Signature.{refused}
use Rattle.intake.specs.declared.Stage.{Stage}
use Rattle.intake.specs.declared.Stage.TheVariants.{Cut, Over, Past}

-- a byte after M02
unfoldable pub over : ℕ → ℕ → Stage
over b at = cond (is_break b) Over (cond (printable b) Past (Cut (Bad at)))

-- a command that is complete was M02, or another may follow
unfoldable pub settled : Way → Bool → Stage
settled Between end = Cut Between
settled (Inside s) end = Cut (Inside s)
settled (Complete kind) end = cond end Over (Cut Between)
settled (Bad place) end = Cut (Bad place)

-- a byte more, at `at`; `end` says whether the command at hand is M02 with it
unfoldable pub stage_after : Book → Stage → ℕ → ℕ → Bool → Stage
stage_after book (Cut way) b at end = settled (step book way b at) end
stage_after book Over b at end = over b at
stage_after book Past b at end = Past

-- a command begins with this byte
unfoldable pub opens : Way → ℕ → Bool
opens Between b = not (is_break b)
opens (Inside s) b = false
opens (Complete kind) b = false
opens (Bad place) b = false

unfoldable pub begins : Stage → ℕ → Bool
begins (Cut way) b = opens way b
begins Over b = false
begins Past b = false

-- the file ends before M02
unfoldable pub stopped : Scan → Answer
stopped r = refused (number_of r) (place_of r)
