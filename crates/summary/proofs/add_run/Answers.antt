use mathlib.Core.Path.{◌≡◌, refl, sym, ◌∙◌}
use mathlib.Core.Bool.{true≢false}
use native.Mathlib.Omega.{arith}
use Rattle.summary.proofs.Added.{run_start, run_room, run_more, run_done}
use Rattle.summary.proofs.add_run.Goals as goal

pub loop-i-init : goal.loop-i-init
loop-i-init c = (omega arith, refl, run_start _ _ _ _ _ _)

pub entry_at-requires : goal.entry_at-requires
entry_at-requires c = let w = c.requires.2.inside in omega arith

pub add_row-requires : goal.add_row-requires
add_row-requires c =
    let A = c.args in
    let w = c.requires in
    let L = c.loop-i in
    let t = c.loop-i-test.true in
    rw c.entry_at.ensures (run_room A.e.now A.a.now A.n A.m A.k A.s.now w.0 w.1 w.2 L.i _ L.invariant.2 t L.invariant.1, w.1, w.2.each L.i t)

pub loop-i-preserved : goal.loop-i-preserved
loop-i-preserved c =
    let A = c.args in
    let w = c.requires in
    let L = c.loop-i in
    let t = c.loop-i-test.true in
    let x = rw c.entry_at.ensures at (c.add_row.ensures c.if-not-add_row.false) in
    (omega arith, c.add_row.auto.s ∙ L.invariant.1, run_more A.e.now A.a.now A.n A.m A.k A.s.now w.0 w.1 w.2 L.i _ L.invariant.2 _ x.0 x.1)

pub shape_of-s-then-not-add_row : goal.shape_of-s-then-not-add_row
shape_of-s-then-not-add_row c =
    c.add_row.auto.s ∙ c.loop-i.invariant.1

pub returns-then-not-add_row : goal.returns-then-not-add_row
returns-then-not-add_row c = λ z. absurd (true≢false (sym z))

pub shape_of-s : goal.shape_of-s
shape_of-s c = c.loop-i.invariant.1

pub returns : goal.returns
returns c =
    let A = c.args in
    let i = c.loop-i.invariant in
    let z : c.loop-i.i ≡ A.k.len = omega (arith, c.loop-i-test.false) in
    λ t. run_done A.e.now A.a.now A.n A.m A.k A.s.now _ (rw z at i.2)
