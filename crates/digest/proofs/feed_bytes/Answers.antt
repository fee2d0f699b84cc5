use Rattle.std.proofs.Common.{◌+◌, ◌<◌, ◌≤◌, length, drop, sym, ap, ◌∙◌, arith, drop_of_length-le}
use Rattle.digest.specs.Runs.{fed}
use Rattle.digest.proofs.Text.{taken, taken_none, left_out, goes_in}
use Rattle.digest.proofs.feed_bytes.Goals.{then-counts, else-counts}
use Rattle.digest.proofs.feed_bytes.Goals as goal

pub loop-b-preserved : goal.loop-b-preserved
loop-b-preserved c =
    let a = c.args in
    let l = c.loop-b in
    let inside : l.b-index < length a.t.now = omega arith in
    let rest = taken a.text (drop (l.b-index + 1) a.t.now) in
    elim c.if-counts.branch [
      | then-counts w ↦ ap (λ s. fed s rest) (w.now-is ∙ w.push.ensures) ∙ goes_in a.text a.t.now l.b-index inside l.now (sym c.counts.ensures ∙ w.if-counts.true) ∙ l.invariant
      | else-counts w ↦ ap (λ s. fed s rest) w.now-is ∙ left_out a.text a.t.now l.b-index inside l.now (sym c.counts.ensures ∙ w.if-counts.false) ∙ l.invariant
    ]

pub returns : goal.returns
unfolding fed
returns c =
    let l = c.loop-b in
    let past : length c.args.t.now ≤ l.b-index = omega arith in
    rw (drop_of_length-le _ past, taken_none c.args.text) at l.invariant
