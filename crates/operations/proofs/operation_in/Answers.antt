-- `operations::operation_in` meets its contract: the number picks the case of `operation_in`.
-- Assumes nothing.
use Rattle.base.proofs.Tests.{tests}
use Rattle.operations.specs.Operations.{operation_in}
use Rattle.operations.proofs.operation_in.Goals as goal

pub returns-then-number-eq1 : goal.returns-then-number-eq1
unfolding operation_in
returns-then-number-eq1 c = let h = c.if-number-eq1.true in simp tests (cc)

pub returns-then-number-eq2 : goal.returns-then-number-eq2
unfolding operation_in
returns-then-number-eq2 c = let h = c.if-number-eq1.false in let k = c.if-number-eq2.true in simp tests (cc)

pub returns : goal.returns
unfolding operation_in
returns c = let h = c.if-number-eq1.false in let k = c.if-number-eq2.false in simp tests (cc)
