-- What stands next in a file: a command, or a fault by 2, 3, 4 or 30 (01, Numbers the reader answers; decisions 1 to 14).
use Rattle.std.specs.Prelude.{ℕ, List}
use Rattle.std.proofs.Math.Seq.{slice}
use Rattle.scan.specs.Scan.{next_command}
use Rattle.book.specs.declared.Book.{Book}
use Rattle.formats.specs.declared.Format.{Format}
use Rattle.scan.specs.declared.Scan.{Scan}
use Rattle.scan.specs.declared.Scan.TheVariants as scan
use Rattle.scan.specs.declared.Tail.{Tail}
use Rattle.scan.specs.declared.Tail.TheVariants as tail
use Rattle.command.specs.declared.Command.{Command}
use Rattle.recognise.specs.Commands.{command_of}
use Rattle.sequence.specs.Leads.{lead_of}
use Rattle.sequence.specs.declared.Lead.{Lead}
use Rattle.sequence.specs.declared.Lead.TheVariants as lead
use Rattle.sequence.specs.declared.Placed.{Placed}
use Rattle.sequence.specs.declared.Refusal.{Refusal}
use Rattle.sequence.specs.declared.Turn.{Turn}
use Rattle.sequence.specs.declared.Turn.TheVariants.{Fault, Last, More}

-- 01's number and place
abbrev pub refusal : ℕ → ℕ → Refusal
refusal number place = record { number = number; place = place }

-- a command with what it says, after FS with this format; the place of its 4 or 30 is its first byte
unfoldable pub led : Format → Placed → Lead → ℕ → Turn
led f c (lead.Broken number) next = Fault (refusal number c.place)
led f c lead.Last next = Last c next
led f c (lead.Format g) next = More c g next
led f c lead.Other next = More c f next

-- what the scanner found, as a command or a fault
unfoldable pub turned : Book → Format → List ℕ → Scan → Turn
turned book f file (scan.Command kind place from end next) =
    let c : Command = command_of book f kind (slice from end file) in
    led f (record { place = place; from = from; end = end; command = c }) (lead_of c) next
turned book f file (scan.BadByte place) = Fault (refusal 2 place)
turned book f file (scan.Ended place) = Fault (refusal 3 place)

-- what stands next from `at` on by this book, after FS with this format, none before it
unfoldable pub turn_of : Book → Format → List ℕ → ℕ → Turn
turn_of book f file at = turned book f file (next_command book file at)

-- what follows M02 is CR and LF, else 2 or 18; 0 at 0 is no fault
unfoldable pub tail_fault : Tail → Refusal
tail_fault tail.Clean = refusal 0 0
tail_fault (tail.Unprintable place) = refusal 2 place
tail_fault (tail.More place) = refusal 18 place
