-- `scan::next_command` meets its contract: a command of bytes from 32 to 126 is cut at its end (`plain_command`), any other by the walk.
-- Assumes nothing.
use Prim.Native.Nat.{◌≤◌}
use mathlib.Core.Path.{ap, ◌∙◌}
use native.Mathlib.Omega.{arith}
use Rattle.text.proofs.First.{first_from_lem}
use Rattle.scan.specs.Printable.{printable_to}
use Rattle.scan.proofs.Printable.{end_low, text_near, text_fits, plain_command}
use Rattle.scan.proofs.next_command.Goals as goal

pub text_from-requires : goal.text_from-requires
text_from-requires c = text_fits _ _ c.kind_at-kind.ensures (omega arith) (omega arith)

pub printable_to-at-requires : goal.printable_to-at-requires
printable_to-at-requires c = rw c.end_of-end.ensures (end_low _)

pub to_command-requires : goal.to_command-requires
to_command-requires c =
    let near = (text_near c.kind_at-kind.result c.past_breaks-place.result).0 in
    let to : c.text_from.result ≤ c.printable_to-at.result = rw c.printable_to-at.ensures (first_from_lem _ _ _) in
    (omega (arith, c.text_from.ensures), omega (arith, c.if-at-file.true))

pub returns-then-file-at : goal.returns-then-file-at
returns-then-file-at c =
    c.to_command.ensures
    ∙ plain_command _ _ _
    c.past_breaks-place.ensures
    c.kind_at-kind.ensures
    c.end_of-end.ensures
    (c.printable_to-at.ensures ∙ ap (printable_to _ _) c.text_from.ensures)
    c.if-at-file.true
    c.if-file-at.true
