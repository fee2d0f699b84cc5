use Prim.Native.Nat.{◌-◌, ◌<◌}
use mathlib.Core.Path.{◌≡◌, refl, sym, ◌∙◌}
use native.Mathlib.Omega.{arith}
use lib.ListN.{length}
use Rattle.register.specs.Wide.{wide}
use Rattle.register.proofs.Wide.{wide_long}
use Rattle.names.specs.Twice.{look_at}
use Rattle.names.specs.declared.Look.TheVariants.{Other, Naming}
use Rattle.names.proofs.Walk.{other_onward, naming_onward}
use Rattle.names.proofs.Going.{going_start, going_end, going_other, Follows, going_naming, narrow_same}
use Rattle.names.proofs.walk_from.Goals as goal

pub loop-next-init : goal.loop-next-init
loop-next-init c = let p = c.requires in (going_start _ _ _ _ p.0 (omega (arith, p.1, wide_long c.args.s.now)), refl)

pub look_at-l-requires : goal.look_at-l-requires
look_at-l-requires c = c.loop-next.invariant.0.inside

pub shape_of-s-in-End : goal.shape_of-s-in-End
shape_of-s-in-End c = c.loop-next.invariant.1

pub returns-in-End : goal.returns-in-End
returns-in-End c =
    let l = c.loop-next in
    (going_end _ _ _ _ _ l.at _ l.invariant.0 (sym c.look_at-l.ensures ∙ c.in-End.is), l.invariant.1)

pub loop-next-smaller-in-Other : goal.loop-next-smaller-in-Other
loop-next-smaller-in-Other c =
    let other : look_at c.args.book c.args.file.now c.loop-next.at ≡ Other c.in-Other.next =
    sym c.look_at-l.ensures ∙ c.in-Other.is in
    let l = c.loop-next in
    let o = other_onward _ _ l.at l.invariant.0.inside other in
    omega (arith, o.0, o.1)

pub loop-next-preserved-in-Other : goal.loop-next-preserved-in-Other
loop-next-preserved-in-Other c =
    let other : look_at c.args.book c.args.file.now c.loop-next.at ≡ Other c.in-Other.next =
    sym c.look_at-l.ensures ∙ c.in-Other.is in
    let l = c.loop-next in
    (going_other _ _ _ _ _ l.at _ l.invariant.0 other, l.invariant.1)

pub note-n-requires : goal.note-n-requires
note-n-requires c =
    let naming : let v = c.in-Naming in
    look_at c.args.book c.args.file.now c.loop-next.at ≡ Naming v.place v.begins v.to v.next =
    sym c.look_at-l.ensures ∙ c.in-Naming.is in
    let l = c.loop-next in
    let o = naming_onward _ _ l.at l.invariant.0.inside naming in
    (l.invariant.0.held.table, o.3, o.4, narrow_same _ _ _ l.invariant.1 c.requires.2)

pub shape_of-s-in-Again : goal.shape_of-s-in-Again
shape_of-s-in-Again c =
    let noted_long : length c.note-n.new.s ≡ length c.args.s.now =
    c.note-n.auto.s ∙ c.loop-next.invariant.1 in
    noted_long

pub returns-in-Again : goal.returns-in-Again
returns-in-Again c =
    let naming : let v = c.in-Naming in
    look_at c.args.book c.args.file.now c.loop-next.at ≡ Naming v.place v.begins v.to v.next =
    sym c.look_at-l.ensures ∙ c.in-Naming.is in
    let noted : let v = c.in-Naming in
    let A = c.args in
    Follows A.book A.file.now c.loop-next.used A.from c.loop-next.at c.loop-next.rest v.place v.next (wide c.note-n.new.s) c.note-n.result =
    let l = c.loop-next in
    going_naming _ _ _ _ _ l.at _ l.invariant.0 naming c.note-n.ensures.0 c.note-n.ensures.1 in
    let noted_long : length c.note-n.new.s ≡ length c.args.s.now =
    c.note-n.auto.s ∙ c.loop-next.invariant.1 in
    (rw c.in-Again.is at noted, noted_long)

pub loop-next-smaller-in-New : goal.loop-next-smaller-in-New
loop-next-smaller-in-New c =
    let naming : let v = c.in-Naming in
    look_at c.args.book c.args.file.now c.loop-next.at ≡ Naming v.place v.begins v.to v.next =
    sym c.look_at-l.ensures ∙ c.in-Naming.is in
    let onward : let F = c.args.file.now in
    length F - c.in-Naming.next < length F - c.loop-next.at =
    let l = c.loop-next in
    let o = naming_onward _ _ l.at l.invariant.0.inside naming in
    omega (arith, o.0, o.1, o.2) in
    onward

pub loop-next-preserved-in-New : goal.loop-next-preserved-in-New
loop-next-preserved-in-New c =
    let naming : let v = c.in-Naming in
    look_at c.args.book c.args.file.now c.loop-next.at ≡ Naming v.place v.begins v.to v.next =
    sym c.look_at-l.ensures ∙ c.in-Naming.is in
    let noted : let v = c.in-Naming in
    let A = c.args in
    Follows A.book A.file.now c.loop-next.used A.from c.loop-next.at c.loop-next.rest v.place v.next (wide c.note-n.new.s) c.note-n.result =
    let l = c.loop-next in
    going_naming _ _ _ _ _ l.at _ l.invariant.0 naming c.note-n.ensures.0 c.note-n.ensures.1 in
    let noted_long : length c.note-n.new.s ≡ length c.args.s.now =
    c.note-n.auto.s ∙ c.loop-next.invariant.1 in
    (rw c.in-New.is at noted, noted_long)

pub loop-next-smaller : goal.loop-next-smaller
loop-next-smaller c =
    let naming : let v = c.in-Naming in
    look_at c.args.book c.args.file.now c.loop-next.at ≡ Naming v.place v.begins v.to v.next =
    sym c.look_at-l.ensures ∙ c.in-Naming.is in
    let onward : let F = c.args.file.now in
    length F - c.in-Naming.next < length F - c.loop-next.at =
    let l = c.loop-next in
    let o = naming_onward _ _ l.at l.invariant.0.inside naming in
    omega (arith, o.0, o.1, o.2) in
    onward

pub loop-next-preserved : goal.loop-next-preserved
loop-next-preserved c =
    let naming : let v = c.in-Naming in
    look_at c.args.book c.args.file.now c.loop-next.at ≡ Naming v.place v.begins v.to v.next =
    sym c.look_at-l.ensures ∙ c.in-Naming.is in
    let noted : let v = c.in-Naming in
    let A = c.args in
    Follows A.book A.file.now c.loop-next.used A.from c.loop-next.at c.loop-next.rest v.place v.next (wide c.note-n.new.s) c.note-n.result =
    let l = c.loop-next in
    going_naming _ _ _ _ _ l.at _ l.invariant.0 naming c.note-n.ensures.0 c.note-n.ensures.1 in
    let noted_long : length c.note-n.new.s ≡ length c.args.s.now =
    c.note-n.auto.s ∙ c.loop-next.invariant.1 in
    (rw c.min-rest.ensures (rw c.in-Full.is at noted), noted_long)
