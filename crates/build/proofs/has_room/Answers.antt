-- `build::has_room` meets its contract: no sum is made that could wrap.
use Rattle.sheet.specs.Records.{entry_width}
use Rattle.build.specs.Stack.{has_room}
use Rattle.base.proofs.Tests.{ltb_agree}
use borrow.Author.Tests.{le-ltb}
use native.Mathlib.Omega.{arith}
use lib.ListN.{length}
use mathlib.Core.Path.{sym, ◌∙◌}
use Prim.Native.Nat.{◌+◌, ◌-◌, ◌/◌}
use Rattle.build.proofs.has_room.Goals as goal

pub returns-then-high-room : goal.returns-then-high-room
unfolding has_room
returns-then-high-room c = let A = c.args in
    ltb_agree A.closed (length A.e.now / entry_width - A.high) (A.closed + A.high) (length A.e.now / entry_width) (λ l. omega arith) (λ l. omega arith)

pub returns-else-high-room : goal.returns-else-high-room
unfolding has_room
returns-else-high-room c = let A = c.args in
    le-ltb A.high (length A.e.now / entry_width) c.if-high-room.false ∙ sym (le-ltb (A.closed + A.high) (length A.e.now / entry_width) (omega arith))
