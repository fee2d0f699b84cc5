use Prim.Native.Nat.{◌-◌}
use mathlib.Core.Path.{◌≡◌, refl, sym, ◌∙◌}
use native.Mathlib.Omega.{arith}
use lib.Seq.{slice}
use Rattle.base.specs.Bytes.{same_bytes}
use Rattle.names.specs.Twice.{look_at, first_at}
use Rattle.names.specs.declared.Look.TheVariants.{Other, Naming}
use Rattle.names.proofs.Walk.{other_onward, naming_onward, first_end, first_other, first_here, first_on}
use Rattle.names.proofs.Known.{among_one}
use Rattle.names.proofs.first_at.Goals as goal

pub loop-next-init : goal.loop-next-init
unfolding first_at
loop-next-init c = (omega arith, refl)

pub look_at-l-requires : goal.look_at-l-requires
look_at-l-requires c = c.loop-next.invariant.0

pub returns-in-End : goal.returns-in-End
returns-in-End c =
    let l = c.loop-next in
    sym (first_end _ _ l.at _ (sym c.look_at-l.ensures ∙ c.in-End.is)) ∙ l.invariant.1

pub loop-next-smaller-in-Other : goal.loop-next-smaller-in-Other
loop-next-smaller-in-Other c =
    let other : look_at c.args.book c.args.file.now c.loop-next.at ≡ Other c.in-Other.next =
    sym c.look_at-l.ensures ∙ c.in-Other.is in
    let l = c.loop-next in
    let o = other_onward _ _ l.at l.invariant.0 other in
    omega (arith, o.0, o.1)

pub loop-next-preserved-in-Other : goal.loop-next-preserved-in-Other
loop-next-preserved-in-Other c =
    let other : look_at c.args.book c.args.file.now c.loop-next.at ≡ Other c.in-Other.next =
    sym c.look_at-l.ensures ∙ c.in-Other.is in
    let l = c.loop-next in
    ((other_onward _ _ l.at l.invariant.0 other).1, sym (first_other _ _ l.at _ l.invariant.0 other) ∙ l.invariant.1)

pub returns-then-is : goal.returns-then-is
returns-then-is c =
    let naming : let v = c.in-Naming in
    look_at c.args.book c.args.file.now c.loop-next.at ≡ Naming v.place v.from v.to v.next =
    sym c.look_at-l.ensures ∙ c.in-Naming.is in
    let same : let A = c.args in
    c.is.result ≡ same_bytes (slice c.in-Naming.from c.in-Naming.to A.file.now) A.name.now =
    rw c.part.ensures at c.is.ensures in
    let l = c.loop-next in
    sym (first_here _ _ l.at _ l.invariant.0 naming (among_one _ _ (sym same ∙ c.if-is.true))) ∙ l.invariant.1

pub loop-next-smaller : goal.loop-next-smaller
loop-next-smaller c =
    let naming : let v = c.in-Naming in
    look_at c.args.book c.args.file.now c.loop-next.at ≡ Naming v.place v.from v.to v.next =
    sym c.look_at-l.ensures ∙ c.in-Naming.is in
    let l = c.loop-next in
    let o = naming_onward _ _ l.at l.invariant.0 naming in
    omega (arith, o.0, o.1, o.2)

pub loop-next-preserved : goal.loop-next-preserved
loop-next-preserved c =
    let naming : let v = c.in-Naming in
    look_at c.args.book c.args.file.now c.loop-next.at ≡ Naming v.place v.from v.to v.next =
    sym c.look_at-l.ensures ∙ c.in-Naming.is in
    let same : let A = c.args in
    c.is.result ≡ same_bytes (slice c.in-Naming.from c.in-Naming.to A.file.now) A.name.now =
    rw c.part.ensures at c.is.ensures in
    let l = c.loop-next in
    ((naming_onward _ _ l.at l.invariant.0 naming).2, sym (first_on _ _ l.at _ l.invariant.0 naming (among_one _ _ (sym same ∙ c.if-is.false))) ∙ l.invariant.1)
