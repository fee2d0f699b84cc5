-- `mending::lay` meets its contract: what fits is copied into the part from n on.
-- Assumes nothing.
use native.Mathlib.Omega.{arith}
use Rattle.mending.proofs.Laying.{too_short, untouched, fitting, copied}
use Rattle.mending.proofs.lay.Goals.{then-out-n-via-then-out-n, then-out-n-via-else-out-n+then-out-n-2}
use Rattle.mending.proofs.lay.Goals as goal

pub returns-then-out-n : goal.returns-then-out-n
returns-then-out-n c =
    elim c.then-out-n.branch [
      | then-out-n-via-then-out-n w ↦ let h = w.if-out-n.true in (too_short _ _ _ (omega arith), untouched _ _ _ (omega arith))
      | then-out-n-via-else-out-n+then-out-n-2 w ↦
          let h = w.if-out-n.false in let k = w.if-out-n-2.true in (too_short _ _ _ (omega arith), untouched _ _ _ (omega arith))
    ]

pub returns : goal.returns
returns c =
    let h = c.if-out-n.false in
    let k = c.if-out-n-2.false in
    (fitting _ _ _ (omega arith), copied _ _ _ _ (omega arith) c.copy_from_slice.ensures.after)
