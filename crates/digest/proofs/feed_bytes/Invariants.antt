-- `digest::feed_bytes` meets its contract: before each turn, feeding what is left leads to where the whole run leads. A byte goes in
-- (`goes_in`) or does not count (`left_out`).
use Rattle.std.proofs.Common.{◌≡◌, drop}
use Rattle.digest.specs.Runs.{fed}
use Rattle.digest.proofs.Text.{taken}
use Rattle.digest.proofs.feed_bytes.Given as goal

abbrev pub invariant-loop-b : goal.invariant-loop-b
invariant-loop-b l = fed l.now (taken l.text (drop l.b-index l.t)) ≡ fed l.initial.now (taken l.text l.t)
