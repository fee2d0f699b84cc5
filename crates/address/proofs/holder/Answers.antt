use Rattle.law_addresses.proofs.Spots.{spot_start, spot_end, spot_found, spot_next}
use Rattle.law_addresses.specs.Positions.{span_at}
use native.Mathlib.Omega.{arith}
use mathlib.Core.Path.{◌≡◌}
use Prim.Native.Nat.{◌+◌}
use Rattle.address.proofs.holder.Goals as goal

pub loop-i-init : goal.loop-i-init
loop-i-init c = (omega arith, spot_start _ _ _ _)

pub span_of-span-requires : goal.span_of-span-requires
span_of-span-requires c = rw c.entry_at.ensures (c.requires.bodies c.loop-i.i (omega arith))

pub returns-then-left-span : goal.returns-then-left-span
returns-then-left-span c =
    let span-is : c.span_of-span.result ≡ span_at c.args.e.now (c.args.p + c.loop-i.i) =
    rw (c.span_of-span.ensures, c.entry_at.ensures) in
    spot_found _ _ _ _ _ _ c.loop-i.invariant.1 c.span_of-span.result span-is (omega arith) c.if-left-span.true

pub loop-i-preserved : goal.loop-i-preserved
loop-i-preserved c =
    let span-is : c.span_of-span.result ≡ span_at c.args.e.now (c.args.p + c.loop-i.i) =
    rw (c.span_of-span.ensures, c.entry_at.ensures) in
    (omega arith, spot_next _ _ _ _ _ _ c.loop-i.invariant.1 c.span_of-span.result span-is (omega arith) c.if-left-span.false)

pub returns : goal.returns
returns c = spot_end _ _ _ _ _ _ c.loop-i.invariant.1 c.loop-i.invariant.0 (omega arith)
