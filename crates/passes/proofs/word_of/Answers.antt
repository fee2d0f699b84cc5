-- `passes::word_of` meets its contract: a number above 0 is one more than that of its record, and past the room there is none.
-- Assumes nothing.
use lib.ListN.{get_or}
use Prim.Native.Nat.{ℕ, ◌+◌, ◌*◌}
use mathlib.Core.Path.{sym, ap, ◌∙◌}
use native.Mathlib.Omega.{arith}
use Rattle.passes.proofs.Words.{word_past, word_some}
use Rattle.passes.specs.Words.{word_of}
use Rattle.passes.proofs.word_of.Goals as goal

pub returns-then-d-eq0 : goal.returns-then-d-eq0
unfolding word_of
returns-then-d-eq0 c = let a = c.args in sym (ap (λ (d : ℕ). word_of a.names.now d a.i) c.if-d-eq0.true)

pub returns-then-j-names : goal.returns-then-j-names
returns-then-j-names c = let a = c.args in sym (word_past a.names.now a.i a.d c.if-d-eq0.false (let e = c.index-j.ensures in let t = c.if-j-names.true in omega arith))

pub returns : goal.returns
returns c = let a = c.args in c.word_at.ensures ∙ ap (λ (j : ℕ). get_or a.names.now (j * 8 + a.i) 0) c.index-j.ensures ∙ sym (word_some a.names.now a.i a.d c.if-d-eq0.false)
