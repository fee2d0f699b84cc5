-- `operations::operation_of` meets its contract: the last three bytes are left out, and the number picks the case of `operation_in`.
-- Assumes nothing.
use Rattle.base.proofs.Tests.{tests}
use Rattle.operations.specs.Operations.{uncoded, operation_in, operation_of}
use Rattle.operations.proofs.operation_of.Goals as goal

pub returns-then-number-eq1 : goal.returns-then-number-eq1
unfolding uncoded operation_in operation_of
returns-then-number-eq1 c = let h = c.if-number-eq1.true in simp tests (cc)

pub returns-then-number-eq2 : goal.returns-then-number-eq2
unfolding uncoded operation_in operation_of
returns-then-number-eq2 c = let h = c.if-number-eq1.false in let k = c.if-number-eq2.true in simp tests (cc)

pub returns : goal.returns
unfolding uncoded operation_in operation_of
returns c = let h = c.if-number-eq1.false in let k = c.if-number-eq2.false in simp tests (cc)
