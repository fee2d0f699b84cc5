-- `mending::first_of` meets its contract: the text of this command, where there was none and it opens so, is a part of the file.
-- Assumes nothing.
use native.Mathlib.Omega.{arith}
use lib.Seq.{slice}
use Rattle.mending.proofs.Texts.{text_inside, first_new, first_kept, first_tested}
use Rattle.mending.proofs.first_of.Goals as goal

pub overflow_add-result-then-both : goal.overflow_add-result-then-both
overflow_add-result-then-both c =
    let p = c.requires in
    omega (arith, p.inside, text_inside p (rw c.part-c.ensures at c.text_end.ensures))

pub returns-then-both : goal.returns-then-both
returns-then-both c =
    let a = c.args in
    first_new c.requires (rw c.part-c.ensures at c.text_end.ensures) a.w.now (slice a.t.from a.t.to a.file.now)
    (first_tested a.w.now c.part-before.ensures c.part-c.ensures c.begins.ensures c.both.ensures c.if-both.true)

pub returns : goal.returns
returns c =
    let a = c.args in
    first_kept a.w.now (slice a.t.from a.t.to a.file.now) (slice a.place a.next a.file.now)
    (first_tested a.w.now c.part-before.ensures c.part-c.ensures c.begins.ensures c.both.ensures c.if-both.false)
