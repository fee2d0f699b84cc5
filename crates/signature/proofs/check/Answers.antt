use Prim.Native.Nat.{◌-◌}
use mathlib.Core.Path.{sym, ◌∙◌}
use native.Mathlib.Omega.{arith}
use Rattle.signature.proofs.Walking.{starts, moves, goes, ends, bad, over}
use Rattle.signature.proofs.check.Goals as goal

pub loop-place-init : goal.loop-place-init
loop-place-init c = starts _ _

pub returns-then-is_last : goal.returns-then-is_last
returns-then-is_last c =
    c.at_end.ensures ∙ ends c.loop-place.invariant (sym c.next_command-s.ensures ∙ c.in-Command.is) (sym c.is_last.ensures ∙ c.if-is_last.true)

pub loop-place-smaller : goal.loop-place-smaller
loop-place-smaller c =
    omega (arith, (moves c.loop-place.invariant (sym c.next_command-s.ensures ∙ c.in-Command.is)).0, (moves c.loop-place.invariant (sym c.next_command-s.ensures ∙ c.in-Command.is)).1)

pub loop-place-preserved : goal.loop-place-preserved
loop-place-preserved c = goes c.loop-place.invariant (sym c.next_command-s.ensures ∙ c.in-Command.is) (sym c.is_last.ensures ∙ c.if-is_last.false)

pub returns-in-BadByte : goal.returns-in-BadByte
returns-in-BadByte c = c.refuse.ensures ∙ bad c.loop-place.invariant (sym c.next_command-s.ensures ∙ c.in-BadByte.is)

pub returns-in-Ended : goal.returns-in-Ended
returns-in-Ended c = c.refuse-in-Ended.ensures ∙ over c.loop-place.invariant (sym c.next_command-s.ensures ∙ c.in-Ended.is)
