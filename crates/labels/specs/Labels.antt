-- The file attributes of a file, in file order (01, State: TF; decisions 112, 212, 560 and 561).
use Rattle.std.specs.Prelude.{ℕ, zero, suc, ◌+◌, Bool, true, false, List, [], ◌∷◌, eqb, ltb, take, None, Option, Some}
use Prim.Native.Char.{code}
use Rattle.std.proofs.Math.Seq.{slice}
use Rattle.base.specs.Bytes.{same_bytes}
use Rattle.base.specs.Choose.{pick}
use Rattle.book.specs.declared.Book.{Book}
use Rattle.text.specs.First.{place}
use Rattle.command.specs.Span.{span}
use Rattle.command.specs.declared.Span.{Span}
use Rattle.sequence.specs.Commands.{Sequence, commands_of}
use Rattle.sequence.specs.declared.Placed.{Placed}
use Rattle.names.specs.Sets.{sets_of}
use Rattle.labels.specs.declared.Label.{Label}
use Rattle.labels.specs.declared.Answer.{Answer}

unfoldable pub none : Label
none = record { name = span 0 0; value = span 0 0 }

-- 01's number, with all places 0
unfoldable pub refused : ℕ → Answer
refused number = record { number = number; label = none }

-- the bytes after the first comma from a place on, up to the first `*`; at 0 to 0 without one, as of TA and TO
unfoldable pub value_in : List ℕ → ℕ → Span
value_in s from =
    let comma : ℕ = place (code ",") s from in
    let star : ℕ = place (code "*") s from in
    pick (ltb comma star) (span (comma + 1) star) (span 0 0)

-- where the name, at n of the command's text, and the value stand in the file
unfoldable pub label_of : List ℕ → Placed → Span → Label
label_of file c n = record { name = span (c.from + n.from) (c.from + n.to); value = value_in (take c.end file) c.from }

-- a TF sets a file attribute, and no other command does
unfoldable pub label_by : List ℕ → Placed → Option Span → Option Label
label_by file c None = None
label_by file c (Some n) = Some (label_of file c n)

unfoldable pub label_set_by : List ℕ → Placed → Option Label
label_set_by file c = label_by file c (sets_of c.command)

unfoldable pub before : Option Label → List Label → List Label
before None ls = ls
before (Some l) ls = l ∷ ls

-- those of these commands, in order
unfoldable pub labels_in : List ℕ → List Placed → List Label
labels_in file [] = []
labels_in file (c ∷ cs) = before (label_set_by file c) (labels_in file cs)

-- it has the name, byte for byte
unfoldable pub is_named : List ℕ → List ℕ → Label → Bool
is_named file name l = same_bytes (slice l.name.from l.name.to file) name

-- the first with the name; a second is 19 where the file is read
unfoldable pub named_in : List ℕ → List ℕ → List Label → Option Label
named_in file name [] = None
named_in file name (l ∷ ls) = elim (is_named file name l) [ true ↦ Some l | false ↦ named_in file name ls ]

-- the one at a place of the list, counted from 0
unfoldable pub nth_in : ℕ → List Label → Option Label
nth_in i [] = None
nth_in zero (l ∷ ls) = Some l
nth_in (suc i) (l ∷ ls) = nth_in i ls

-- 23 where there is none
unfoldable pub closing : Option Label → Answer
closing None = refused 23
closing (Some l) = record { number = 0; label = l }

-- 1 to 4 and 18 before it
unfoldable pub judged : ℕ → Option Label → Answer
judged number found = pick (eqb number 0) (closing found) (refused number)

unfoldable pub answer_in : List ℕ → (List Label → Option Label) → Sequence → Answer
answer_in file seek l = judged l.fault.number (seek (labels_in file l.commands))

unfoldable pub label_named : Book → List ℕ → List ℕ → Answer
label_named book file name = answer_in file (named_in file name) (commands_of book file)

unfoldable pub label_at : Book → List ℕ → ℕ → Answer
label_at book file i = answer_in file (nth_in i) (commands_of book file)
