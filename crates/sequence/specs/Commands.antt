-- The commands of a file in order, up to M02, and what is at fault by the rules 1 to 4, 30 and 18 alone.
use Rattle.std.specs.Prelude.{ℕ, zero, suc, cond, List, [], ◌∷◌, length}
use Rattle.book.specs.declared.Book.{Book}
use Rattle.formats.specs.Format.{no_format}
use Rattle.formats.specs.declared.Format.{Format}
use Rattle.scan.specs.Permitted.{fits}
use Rattle.scan.specs.Tail.{tail_of}
use Rattle.sequence.specs.Turns.{refusal, turn_of, tail_fault}
use Rattle.sequence.specs.declared.Placed.{Placed}
use Rattle.sequence.specs.declared.Refusal.{Refusal}
use Rattle.sequence.specs.declared.Turn.TheVariants.{Fault, Last, More}

-- the commands before the first fault, M02 the last of them where there is none before it, and that fault; 0 at 0 without one
pub record Sequence : Type 0 where
  pub commands : List Placed
  pub fault : Refusal

-- no command more
abbrev pub stopped : Refusal → Sequence
stopped f = record { commands = []; fault = f }

-- a command, then the others
abbrev pub followed : Placed → Sequence → Sequence
followed c l = record { commands = c ∷ l.commands; fault = l.fault }

-- from `at` on, in at most k turns, after FS with this format, none before it; a file that ends before M02 is 3 at its length
unfoldable pub commands_from : Book → ℕ → Format → List ℕ → ℕ → Sequence
commands_from book zero f file at = stopped (refusal 3 (length file))
commands_from book (suc k) f file at =
    elim (turn_of book f file at) [
      | Fault r ↦ stopped r
      | Last c next ↦ followed c (stopped (tail_fault (tail_of file next)))
      | More c g next ↦ followed c (commands_from book k g file next)
    ]

-- each command takes a byte at least, and so a turn more than there are bytes is enough
unfoldable pub commands_of : Book → List ℕ → Sequence
commands_of book file = cond (fits file) (commands_from book (suc (length file)) no_format file 0) (stopped (refusal 1 0))
