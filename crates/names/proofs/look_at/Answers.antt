-- `names::look_at` meets its contract: what the scanner found, and what it sets, pick the case.
-- Assumes nothing.
use Prim.Native.Nat.{◌+◌, ◌≤◌}
use mathlib.Core.Path.{◌≡◌, sym, ◌∙◌}
use native.Mathlib.Omega.{arith}
use lib.ListN.{length}
use lib.Seq.{slice}
use Rattle.scan.specs.Scan.{next_command}
use Rattle.scan.specs.declared.Scan.TheVariants as scan
use Rattle.formats.specs.Format.{no_format}
use Rattle.recognise.specs.Commands.{command_of}
use Rattle.names.specs.Sets.{sets_of}
use Rattle.names.specs.Twice.{looked, look_at}
use Rattle.names.proofs.Walk.{look_other, look_naming, naming_fits}
use Rattle.names.proofs.look_at.Goals as goal

pub overflow_add-result : goal.overflow_add-result
overflow_add-result c =
    let scanned : let A = c.args in let v = c.in-Command in
    next_command A.book A.file.now A.at ≡ scan.Command v.kind v.place v.from v.end v.next =
    sym c.next_command.ensures ∙ c.in-Command.is in
    let sets : let v = c.in-Command in
    sets_of (command_of c.args.book no_format v.kind (slice v.from v.end c.args.file.now)) ≡ c.sets_in.result =
    sym (rw c.part.ensures at c.sets_in.ensures) in
    let fits : let v = c.in-Command in let n = c.in-Some.n in
    (v.from + n.from ≤ v.from + n.to) × (v.from + n.to ≤ length c.args.file.now) =
    naming_fits _ _ _ scanned (sets ∙ c.in-Some.is) c.requires in
    let f = fits in omega (arith, f.0, f.1)

pub overflow_add-result-in-Some : goal.overflow_add-result-in-Some
overflow_add-result-in-Some c =
    let scanned : let A = c.args in let v = c.in-Command in
    next_command A.book A.file.now A.at ≡ scan.Command v.kind v.place v.from v.end v.next =
    sym c.next_command.ensures ∙ c.in-Command.is in
    let sets : let v = c.in-Command in
    sets_of (command_of c.args.book no_format v.kind (slice v.from v.end c.args.file.now)) ≡ c.sets_in.result =
    sym (rw c.part.ensures at c.sets_in.ensures) in
    let fits : let v = c.in-Command in let n = c.in-Some.n in
    (v.from + n.from ≤ v.from + n.to) × (v.from + n.to ≤ length c.args.file.now) =
    naming_fits _ _ _ scanned (sets ∙ c.in-Some.is) c.requires in
    omega (arith, fits.1)

pub returns-in-None : goal.returns-in-None
returns-in-None c =
    let scanned : let A = c.args in let v = c.in-Command in
    next_command A.book A.file.now A.at ≡ scan.Command v.kind v.place v.from v.end v.next =
    sym c.next_command.ensures ∙ c.in-Command.is in
    let sets : let v = c.in-Command in
    sets_of (command_of c.args.book no_format v.kind (slice v.from v.end c.args.file.now)) ≡ c.sets_in.result =
    sym (rw c.part.ensures at c.sets_in.ensures) in
    look_other _ _ _ scanned (sets ∙ c.in-None.is)

pub returns-in-Some : goal.returns-in-Some
returns-in-Some c =
    let scanned : let A = c.args in let v = c.in-Command in
    next_command A.book A.file.now A.at ≡ scan.Command v.kind v.place v.from v.end v.next =
    sym c.next_command.ensures ∙ c.in-Command.is in
    let sets : let v = c.in-Command in
    sets_of (command_of c.args.book no_format v.kind (slice v.from v.end c.args.file.now)) ≡ c.sets_in.result =
    sym (rw c.part.ensures at c.sets_in.ensures) in
    look_naming _ _ _ scanned (sets ∙ c.in-Some.is)

pub returns-in-BadByte : goal.returns-in-BadByte
unfolding look_at looked
returns-in-BadByte c = rw (sym c.next_command.ensures, c.in-BadByte.is)

pub returns-in-Ended : goal.returns-in-Ended
unfolding look_at looked
returns-in-Ended c = rw (sym c.next_command.ensures, c.in-Ended.is)
