-- Where a file stands between two bytes, and how it goes on with a byte: the cutting into commands without the bytes ahead.
use Rattle.std.specs.Prelude.{ℕ, ◌+◌, cond, List, [], ◌∷◌, eqb}
use Prim.Native.Char.{code}
use Rattle.base.specs.And.{◌and◌}
use Rattle.base.specs.Breaks.{is_break}
use Rattle.fields.specs.Parts.{is_field, part_after, opens_macro}
use Rattle.fields.specs.declared.Part.{Part}
use Rattle.fields.specs.declared.Part.TheVariants.{Start, Mark}
use Rattle.letters.specs.Table.{nothing, lead_of, is_whole, takes, fed}
use Rattle.letters.specs.declared.Follow.{Follow}
use Rattle.scan.specs.Fields.{is_new}
use Rattle.scan.specs.Permitted.{printable, permitted}
use Rattle.scan.specs.Scan.{ends, text_from}
use Rattle.scan.specs.declared.Kind.{Kind}
use Rattle.scan.specs.declared.Kind.TheVariants.{Word, Extended, Macro}
use Rattle.book.specs.declared.Book.{Book}
use Rattle.scan.specs.declared.Scan.{Scan}
use Rattle.scan.specs.declared.Scan.TheVariants.{Command, BadByte, Ended}
use Rattle.scan.specs.declared.Stand.{Stand}
use Rattle.scan.specs.declared.Way.{Way}
use Rattle.scan.specs.declared.Way.TheVariants.{Between, Inside, Complete, Bad}

-- the kind after a byte: `%AM` begins a macro
unfoldable pub kind_after : Kind → Part → ℕ → Kind
kind_after kind part b = cond (opens_macro part b) Macro kind

abbrev pub stand : Kind → Part → ℕ → Follow → ℕ → Stand
stand kind part last follow lead = record { kind = kind; part = part; last = last; follow = follow; lead = lead }

-- no letter being begun
unfoldable pub idle : Kind → Part → ℕ → Stand
idle kind part last = stand kind part last nothing 0

-- before the first byte of a command's text
abbrev pub fresh : Kind → Part → Stand
fresh kind part = idle kind part 0

-- after a byte, with what must follow it and the place of the lead
unfoldable pub moved : Book → Stand → ℕ → Follow → ℕ → Stand
moved book s b follow lead =
    stand (kind_after s.kind s.part b) (part_after book s.part b) (cond (printable b) b s.last) follow lead

-- a byte that is not permitted under the old rule, at `at`
unfoldable pub beyond : Book → Stand → ℕ → ℕ → Way
beyond book s b at =
    cond (is_whole (lead_of b)) (Bad at)
    (cond (is_new book.letters and is_field s.part b) (Inside (moved book s b (lead_of b) at))
    (Bad at))

-- a byte of a command, no letter being begun
unfoldable pub within : Book → Stand → ℕ → ℕ → Way
within book s b at =
    cond (ends s.kind b) (Complete s.kind)
    (cond (permitted s.kind s.last b) (Inside (moved book s b nothing 0))
    (beyond book s b at))

-- a byte after a lead
unfoldable pub following : Book → Stand → ℕ → Way
following book s b = cond (takes s.follow b) (Inside (moved book s b (fed s.follow) s.lead)) (Bad s.lead)

unfoldable pub inside : Book → Stand → ℕ → ℕ → Way
inside book s b at = cond (is_whole s.follow) (within book s b at) (following book s b)

-- the first byte of a command
unfoldable pub opening : Book → ℕ → ℕ → Way
opening book b at = cond (eqb b (code "%")) (Inside (fresh Extended Mark)) (within book (fresh Word Start) b at)

-- a byte more
unfoldable pub step : Book → Way → ℕ → ℕ → Way
step book Between b at = cond (is_break b) Between (opening book b at)
step book (Inside s) b at = inside book s b at
step book (Complete kind) b at = Complete kind
step book (Bad place) b at = Bad place

-- the file ends here, with n bytes
unfoldable pub ended : ℕ → Way → Scan
ended n Between = Ended n
ended n (Inside s) = cond (is_whole s.follow) (Ended n) (BadByte s.lead)
ended n (Complete kind) = Ended n
ended n (Bad place) = BadByte place

-- bytes taken one by one up to the end of the next command; `place` is where it begins
unfoldable pub run : Book → ℕ → ℕ → Way → List ℕ → ℕ → Scan
run book n place way [] at = ended n way
run book n place way (b ∷ s) at =
    elim (step book way b at) [
      | Between ↦ run book n (at + 1) Between s (at + 1)
      | Inside stand ↦ run book n place (Inside stand) s (at + 1)
      | Complete kind ↦ Command kind place (text_from kind place) at (at + 1)
      | Bad bad ↦ BadByte bad
    ]
