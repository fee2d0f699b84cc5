-- `summary::add_row` meets its contract: nothing is added for what draws nothing or draws with a number that no record has; else the copies to the row of the record found.
use Prim.Native.Nat.{◌*◌, ◌≤◌, ◌<◌}
use mathlib.Core.Path.{◌≡◌, sym, ap, ◌∙◌}
use mathlib.Core.Bool.{true, false, true≢false}
use native.Mathlib.Nat.{mul-le-mul_left}
use native.Mathlib.Omega.{arith}
use lib.Dec.{eqb, leb}
use borrow.Author.Tests.{eq-eqb, ne_eqb, le-leb, lt-leb}
use Rattle.base.proofs.Or.{ors}
use Rattle.base.specs.Or.{◌or◌}
use Rattle.sheet.specs.Meaning.{drawn}
use Rattle.summary_rows.specs.Rows.{copied_row}
use Rattle.summary_rows.specs.Summed.{item_row}
use Rattle.summary_rows.specs.declared.Row.{Row}
use Rattle.summary_rows.specs.declared.Asked.TheVariants.{Aperture}
use Rattle.summary_by_aperture.specs.Kept.{row_at}
use Rattle.summary.specs.Links.{record_of}
use Rattle.summary.proofs.Added.{adds_other, adds_missing, adds_found, one_few, item_near, item_one}
use Rattle.summary.proofs.add_row.Goals.{then-r-eq0-via-then-r-eq0, then-r-eq0-via-else-r-eq0+then-r-ge5}
use Rattle.summary.proofs.add_row.Goals as goal

pub record_of-b-requires : goal.record_of-b-requires
record_of-b-requires c = c.requires.0.apertures

pub returns-then-r-eq9 : goal.returns-then-r-eq9
returns-then-r-eq9 c = λ z. absurd (true≢false (sym z))

pub returns-then-r-eq0 : goal.returns-then-r-eq0
returns-then-r-eq0 c =
    let none : (eqb c.args.r.kind 0 or leb 5 c.args.r.kind) ≡ true =
    elim c.then-r-eq0.branch [
      | then-r-eq0-via-then-r-eq0 w ↦ simp (eq-eqb _ _ w.if-r-eq0.true, ors)
      | then-r-eq0-via-else-r-eq0+then-r-ge5 w ↦ simp (ne_eqb _ _ w.if-r-eq0.false, le-leb _ _ w.if-r-ge5.true, ors)
    ] in
    λ z. (record { none = c.if-r-eq9.false }, adds_other _ _ _ _ _ none)

pub returns-then-b-n : goal.returns-then-b-n
returns-then-b-n c =
    let A = c.args in
    let e = c.record_of-b.ensures in
    let t = c.if-b-n.true in
    λ z. (record { none = c.if-r-eq9.false }, adds_missing A.a.now A.s.now A.n A.m A.r c.requires.0.linked (omega arith))

pub copy_row-one-requires : goal.copy_row-one-requires
copy_row-one-requires c =
    let found : record_of c.args.a.now c.args.n c.args.r.who < c.args.n =
    let e = c.record_of-b.ensures in let t = c.if-b-n.false in omega arith in
    let low : (eqb c.args.r.kind 0 or leb 5 c.args.r.kind) ≡ false =
    simp (ne_eqb _ _ c.if-r-eq0.false, lt-leb _ _ c.if-r-ge5.false, ors) in
    let A = c.args in
    let w = c.requires in
    let x : (item_row (Aperture A.r.who) (drawn A.r)).count ≤ 1 = item_one A.a.now A.s.now A.n A.m A.r w.0 w.1 w.2 found low in
    let y : A.m.ny * (item_row (Aperture A.r.who) (drawn A.r)).count ≤ A.m.ny * 1 = mul-le-mul_left A.m.ny x in
    let y' : A.m.ny * (item_row (Aperture A.r.who) (drawn A.r)).count ≤ A.m.ny = omega arith in
    let z : A.m.nx * (A.m.ny * (item_row (Aperture A.r.who) (drawn A.r)).count) ≤ A.m.nx * A.m.ny = mul-le-mul_left A.m.nx y' in
    let column = w.1.column in
    let whole = w.1.whole in
    rw (c.item_row.ensures, c.draw.ensures)
    (item_near A.a.now A.s.now A.n A.m A.r w.0 w.1 w.2 found low, w.1.steps, omega arith, omega arith)

pub kept_row-requires : goal.kept_row-requires
kept_row-requires c = let t = c.if-b-n.false in let w = c.requires.0.fits in omega arith

pub merge-sum-requires : goal.merge-sum-requires
merge-sum-requires c =
    let found : record_of c.args.a.now c.args.n c.args.r.who < c.args.n =
    let e = c.record_of-b.ensures in let t = c.if-b-n.false in omega arith in
    let low : (eqb c.args.r.kind 0 or leb 5 c.args.r.kind) ≡ false =
    simp (ne_eqb _ _ c.if-r-eq0.false, lt-leb _ _ c.if-r-ge5.false, ors) in
    let A = c.args in
    let w = c.requires in
    let k = ap (λ (t : Row). t.count) (c.kept_row.ensures ∙ ap (row_at A.s.now) c.record_of-b.ensures) in
    let o = ap (λ (t : Row). t.count) (c.copy_row-one.ensures ∙ ap (copied_row A.m) (c.item_row.ensures ∙ ap (item_row (Aperture A.r.who)) c.draw.ensures)) in
    let f = one_few A.a.now A.s.now A.n A.m A.r w.0 w.1 w.2 found low in
    (omega arith, omega arith)

pub keep_row-requires : goal.keep_row-requires
keep_row-requires c =
    let t = c.if-b-n.false in let w = c.requires.0.fits in omega arith

pub returns : goal.returns
returns c =
    let found : record_of c.args.a.now c.args.n c.args.r.who < c.args.n =
    let e = c.record_of-b.ensures in let t = c.if-b-n.false in omega arith in
    let low : (eqb c.args.r.kind 0 or leb 5 c.args.r.kind) ≡ false =
    simp (ne_eqb _ _ c.if-r-eq0.false, lt-leb _ _ c.if-r-ge5.false, ors) in
    let A = c.args in
    let w = c.requires in
    λ z. (
      record { none = c.if-r-eq9.false },
      rw (c.keep_row.ensures, c.merge-sum.ensures, c.kept_row.ensures, c.copy_row-one.ensures, c.item_row.ensures, c.draw.ensures, c.record_of-b.ensures)
          (adds_found A.a.now A.s.now A.n A.m A.r w.0 w.1 w.2 found low),
    )
