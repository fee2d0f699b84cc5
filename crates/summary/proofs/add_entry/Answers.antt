-- `summary::add_entry` meets its contract: a repeat adds the copies of its body, another entry one copy of itself.
use mathlib.Core.Path.{sym}
use borrow.Author.Tests.{eq-eqb, ne_eqb}
use Rattle.summary.proofs.Added.{adds_same, room_same, repeat_row, other_row, repeat_free, other_free}
use Rattle.summary.proofs.Copied.{single_copies}
use Rattle.summary.proofs.add_entry.Goals as goal

pub add_run-requires : goal.add_run-requires
add_run-requires c =
    let A = c.args in
    let w = c.requires in
    let t = eq-eqb _ _ c.if-r-eq10.true in
    rw (c.body_of.ensures, c.repeat_of.ensures) (room_same (repeat_row A.e.now A.r t) w.0, w.1.copies t, w.1.body t)

pub shape_of-s-then-r-eq10 : goal.shape_of-s-then-r-eq10
shape_of-s-then-r-eq10 c = c.add_run.auto.s

pub returns-then-r-eq10 : goal.returns-then-r-eq10
returns-then-r-eq10 c =
    let A = c.args in
    let t = eq-eqb _ _ c.if-r-eq10.true in
    λ z.
    let x = rw (c.body_of.ensures, c.repeat_of.ensures) at (c.add_run.ensures z) in
    (repeat_free A.e.now A.r t x.0, adds_same (λ q. sym (repeat_row A.e.now A.r t q)) x.1)

pub add_row-requires : goal.add_row-requires
add_row-requires c =
    let A = c.args in
    let w = c.requires in
    let f = ne_eqb _ _ c.if-r-eq10.false in
    rw c.once.ensures (room_same (other_row A.e.now A.r f) w.0, single_copies, w.1.near)

pub shape_of-s : goal.shape_of-s
shape_of-s c = c.add_row.auto.s

pub returns : goal.returns
returns c =
    let A = c.args in
    let f = ne_eqb _ _ c.if-r-eq10.false in
    λ z.
    let x = rw c.once.ensures at (c.add_row.ensures z) in
    (other_free A.e.now A.r f x.0, adds_same (λ q. sym (other_row A.e.now A.r f q)) x.1)
