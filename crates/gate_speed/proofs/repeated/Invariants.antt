-- `gate_speed::repeated` meets its contract: before each turn, the runs left lead to where all lead.
use Rattle.std.proofs.Common.{◌≡◌, ◌-◌, replicate}
use Rattle.digest.specs.Runs.{started, in_runs}
use Rattle.digest.specs.Text.{unbroken}
use Rattle.gate_speed.proofs.repeated.Given as goal

abbrev pub invariant-loop : goal.invariant-loop
invariant-loop l = in_runs l.s (replicate (l.n - l.counter) (unbroken l.text)) ≡ in_runs started (replicate l.n (unbroken l.text))
