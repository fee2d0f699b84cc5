-- How a reading judges whether a command sets a name of the file again (01, number 19; decision 254).
use Rattle.std.specs.Prelude.{ℕ, ◌+◌, false, cond, not, List, eqb, ltb, None, Option, Some}
use Rattle.std.proofs.Math.Seq.{slice}
use Rattle.base.specs.Or.{◌or◌}
use Rattle.book.specs.declared.Book.{Book}
use Rattle.sequence.specs.declared.Placed.{Placed}
use Rattle.law_reading.specs.Steps.{part}
use Rattle.names.specs.Sets.{sets_of}
use Rattle.names.specs.Twice.{first_at}
use Rattle.command.specs.declared.Span.{Span}
use Rattle.running.specs.declared.Told.{Told}

-- by the place where a name is set twice first, if that was looked for
unfoldable pub by_look : ℕ → ℕ → Option ℕ → Option Told
by_look place set None = None
by_look place set (Some twice) = Some (record { again = eqb place twice; set = set + 1 })

-- the name of the TF at a place, so many being set before it: the first of a file is new; of the next few, and near the file's start, a
-- walk tells which TF sets the name first
unfoldable pub judged_name : Book → List ℕ → ℕ → List ℕ → ℕ → Option ℕ → Option Told
judged_name book file place name set r =
    cond (eqb set 0) (Some (record { again = false; set = 1 }))
    (cond (ltb set 16 or ltb place 4096) (Some (record { again = not (eqb (first_at book file name) place); set = set + 1 })) (by_look place set r))

unfoldable pub judged_as : Book → List ℕ → ℕ → List ℕ → ℕ → Option ℕ → Option Span → Option Told
judged_as book file place text set r None = Some (record { again = false; set = set })
judged_as book file place text set r (Some n) = judged_name book file place (part text n) set r

unfoldable pub judged_of : Book → List ℕ → Placed → ℕ → Option ℕ → Option Told
judged_of book file c set r = judged_as book file c.place (slice c.from c.end file) set r (sets_of c.command)
