-- `summary::is_led` meets its contract: the links are followed to the record's own number.
use mathlib.Core.Path.{ap, ◌∙◌}
use Prim.Native.Nat.{ℕ}
use lib.Dec.{eqb}
use Rattle.summary.specs.Links.{record_of, is_led}
use Rattle.summary.proofs.is_led.Goals as goal

pub returns : goal.returns
unfolding is_led
returns c = let A = c.args in ap (λ (x : ℕ). eqb x A.b) (c.record_of.ensures ∙ ap (record_of A.a.now A.n) c.word_at.ensures)
