-- `digest::push` meets its contract: a byte fills the block (`pushed_full`) or leaves it open (`pushed_open`).
use Rattle.std.proofs.Common.{◌+◌, ◌%◌, ◌^◌, sym, ◌∙◌}
use Rattle.digest.specs.Runs.{state, empty}
use Rattle.digest.proofs.Runs.{pushed_open, pushed_full}
use Rattle.digest.proofs.push.Goals as goal

pub returns-then-at-eq63 : goal.returns-then-at-eq63
unfolding empty
returns-then-at-eq63 c =
    let s = c.args.s.now in
    (λ k. state (c.block-s.ensures k) empty ((s.length + 1) % 2 ^ 64)) ∙ sym (pushed_full s c.args.b c.if-at-eq63.true)

pub returns-else-at-eq63 : goal.returns-else-at-eq63
returns-else-at-eq63 c = sym (pushed_open c.args.s.now c.args.b c.if-at-eq63.false)
