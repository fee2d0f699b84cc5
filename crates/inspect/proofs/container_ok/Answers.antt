-- `inspect::container_ok` meets its contract: the tests on the way to each answer decide `ok_container`.
use Rattle.std.proofs.Common.{◌+◌, arith, le-leb}
use Rattle.sheet.specs.Valid.{ok_container}
use Rattle.base.proofs.And.{ands}
use borrow.Author.Tests.{lt-leb}
use Rattle.inspect.proofs.container_ok.Goals.{then-k-used-via-then-k-used, then-k-used-via-else-k-used+then-k-used-2, then-k-used-via-else-k-used+else-k-used-2+then-k-gt-MOST}
use Rattle.inspect.proofs.container_ok.Goals as goal

pub returns-then-k-used : goal.returns-then-k-used
unfolding ok_container
returns-then-k-used c = let A = c.args in
    elim c.then-k-used.branch [
      | then-k-used-via-then-k-used w ↦ (simp (lt-leb (A.k.first + A.k.len) A.used (omega arith), ands), λ f. cc)
      | then-k-used-via-else-k-used+then-k-used-2 w ↦ (simp (lt-leb (A.k.first + A.k.len) A.used (omega arith), ands), λ f. cc)
      | then-k-used-via-else-k-used+else-k-used-2+then-k-gt-MOST w ↦
          (simp (le-leb (A.k.first + A.k.len) A.used (omega arith), lt-leb A.k.items 1000000000000 w.if-k-gt-MOST.true, ands), λ f. cc)
    ]

pub returns : goal.returns
unfolding ok_container
returns c =
    let A = c.args in (simp (le-leb (A.k.first + A.k.len) A.used (omega arith), le-leb A.k.items 1000000000000 c.if-k-gt-MOST.false, ands) c.run_ok.ensures.0, c.run_ok.ensures.1)
