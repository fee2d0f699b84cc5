-- `primitives::heading` meets its contract: whether there are so few parameters picks the case.
-- Assumes nothing.
use Rattle.primitives.specs.Heading.{heading}
use borrow.Author.Tests.{le-leb, lt-leb}
use mathlib.Core.Path.{refl}
use Rattle.primitives.proofs.heading.Goals as goal

pub returns-then-count-le10005 : goal.returns-then-count-le10005
unfolding heading
returns-then-count-le10005 c = rw (le-leb _ _ c.if-count-le10005.true) refl

pub returns : goal.returns
unfolding heading
returns c = rw (lt-leb _ _ c.if-count-le10005.false) refl
