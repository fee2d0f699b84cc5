-- `passes::set_word` meets its contract: a number above 0 is one more than that of its record, and past the room nothing changes.
-- Assumes nothing.
use lib.ListN.{set}
use Prim.Native.Nat.{ℕ, ◌+◌, ◌*◌}
use mathlib.Core.Path.{sym, ap, ◌∙◌}
use native.Mathlib.Omega.{arith}
use Rattle.passes.proofs.Words.{with_past, with_some}
use Rattle.passes.specs.Words.{with_word}
use Rattle.passes.proofs.set_word.Goals as goal

pub returns-then-d-eq0 : goal.returns-then-d-eq0
unfolding with_word
returns-then-d-eq0 c = let a = c.args in sym (ap (λ (d : ℕ). with_word a.names.now d a.i a.v) c.if-d-eq0.true)

pub returns-then-j-names : goal.returns-then-j-names
returns-then-j-names c = let a = c.args in sym (with_past a.names.now a.i a.v a.d c.if-d-eq0.false (let e = c.index-j.ensures in let t = c.if-j-names.true in omega arith))

pub returns : goal.returns
returns c =
    let a = c.args in c.put.ensures ∙ ap (λ (j : ℕ). set a.names.now (j * 8 + a.i) a.v) c.index-j.ensures ∙ sym (with_some a.names.now a.i a.v a.d c.if-d-eq0.false)
