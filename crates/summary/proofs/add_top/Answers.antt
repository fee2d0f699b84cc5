use mathlib.Core.Path.{◌≡◌, refl, sym, ◌∙◌}
use mathlib.Core.Bool.{true≢false}
use native.Mathlib.Omega.{arith}
use Rattle.summary.proofs.Added.{top_start, top_room, top_more, top_done}
use Rattle.summary.proofs.add_top.Goals as goal

pub loop-i-init : goal.loop-i-init
loop-i-init c = (omega arith, refl, top_start _ _ _ _ _ c.requires)

pub entry_at-requires : goal.entry_at-requires
entry_at-requires c = let w = c.requires.inside in omega arith

pub add_entry-requires : goal.add_entry-requires
add_entry-requires c =
    let A = c.args in
    let w = c.requires in
    let L = c.loop-i in
    let t = c.loop-i-test.true in
    rw c.entry_at.ensures (top_room A.e.now A.a.now A.n A.k A.s.now w L.i _ L.invariant.2 t L.invariant.1, w.each L.i t)

pub loop-i-preserved : goal.loop-i-preserved
loop-i-preserved c =
    let A = c.args in
    let w = c.requires in
    let L = c.loop-i in
    let t = c.loop-i-test.true in
    let x = rw c.entry_at.ensures at (c.add_entry.ensures c.if-not-add_entry.false) in
    (omega arith, c.add_entry.auto.s ∙ L.invariant.1, top_more A.e.now A.a.now A.n A.k A.s.now w L.i _ L.invariant.2 _ x.0 x.1)

pub shape_of-s-then-not-add_entry : goal.shape_of-s-then-not-add_entry
shape_of-s-then-not-add_entry c =
    c.add_entry.auto.s ∙ c.loop-i.invariant.1

pub returns-then-not-add_entry : goal.returns-then-not-add_entry
returns-then-not-add_entry c = λ z. absurd (true≢false (sym z))

pub shape_of-s : goal.shape_of-s
shape_of-s c = c.loop-i.invariant.1

pub returns : goal.returns
returns c =
    let A = c.args in
    let i = c.loop-i.invariant in
    let z : c.loop-i.i ≡ A.k.len = omega (arith, c.loop-i-test.false) in
    λ t. top_done A.e.now A.a.now A.n A.k A.s.now c.requires _ (rw z at i.2)
