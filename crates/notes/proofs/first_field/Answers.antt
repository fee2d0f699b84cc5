-- `notes::first_field` meets its contract: the field ends at the value's first comma, and no further than the value.
-- Assumes nothing.
use Rattle.notes.proofs.Fields.{first_is}
use Prim.Native.Nat.{◌+◌, ◌≤◌}
use native.Mathlib.Omega.{arith}
use lib.ListN.{length}
use Rattle.notes.proofs.first_field.Goals as goal

pub overflow_add-result : goal.overflow_add-result
overflow_add-result c =
    let A = c.args in
    let h : c.min-from.result + c.find.result ≤ length A.file.now =
    rw (c.min-from.ensures, c.find.ensures, c.up_to-value.ensures, c.from_on.ensures) (first_is A.file.now A.place A.length).inside in
    omega arith

pub returns : goal.returns
returns c = rw (c.min-from.ensures, c.find.ensures, c.up_to-value.ensures, c.from_on.ensures) (first_is c.args.file.now c.args.place c.args.length)
