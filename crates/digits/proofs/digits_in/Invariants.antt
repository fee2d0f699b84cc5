-- `digits::digits_in` meets its contract: what was passed is digits, and the value so far is theirs; there are at most twelve.
use Rattle.std.proofs.Common.{◌≡◌, ◌-◌, ◌^◌, ◌<◌}
use lib.Seq.{slice}
use Rattle.digits.specs.Digits.{past_digits, value_of}
use Rattle.digits.proofs.digits_in.Given as goal

abbrev pub invariant-loop-next : goal.invariant-loop-next
invariant-loop-next l = record {
  small : l.value < 10 ^ (l.next - l.from);
  passed : past_digits l.s l.next ≡ past_digits l.s l.from;
  worth : l.value ≡ value_of (slice l.from l.next l.s);
}
