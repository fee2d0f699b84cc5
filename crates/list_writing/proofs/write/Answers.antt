-- `list_writing::write` meets its contract: each way out is one case of what a pen can meet.
-- Assumes nothing.
use native.Mathlib.Omega.{arith}
use Rattle.law_components.proofs.Written.{was_full, too_long_lem, stands}
use Rattle.list_writing.proofs.write.Goals.{then-pen-via-then-pen, then-pen-via-else-pen+then-pen-out, then-pen-via-else-pen+else-pen-out+then-s-out}
use Rattle.list_writing.proofs.write.Goals as goal

pub returns-then-pen : goal.returns-then-pen
returns-then-pen c = elim c.then-pen.branch [
  | then-pen-via-then-pen w ↦ was_full w.if-pen.true
  | then-pen-via-else-pen+then-pen-out w ↦ too_long_lem (omega (arith, w.if-pen-out.true))
  | then-pen-via-else-pen+else-pen-out+then-s-out w ↦ too_long_lem (omega (arith, w.if-pen-out.false, w.if-s-out.true))
]

pub returns : goal.returns
returns c =
    stands c.if-pen.false (omega arith) c.add.auto.out c.add.ensures
