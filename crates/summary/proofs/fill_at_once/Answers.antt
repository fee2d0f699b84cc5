-- `summary::fill_at_once` meets its contract: cleared scratch gathers the rows of the top level, which are those of the items where no block is flashed.
use mathlib.Core.Path.{◌≡◌, refl, sym, ◌∙◌}
use mathlib.Core.Bool.{true≢false}
use native.Mathlib.Omega.{arith}
use lib.ListN.{length}
use Rattle.sheet.specs.Containers.{apertures_used}
use Rattle.sheet.specs.Meaning.{sheet_items}
use Rattle.summary_by_aperture.proofs.Answers.{rows_fit}
use Rattle.summary.specs.Adds.{asked_by}
use Rattle.summary.proofs.Flat.{top_flat}
use Rattle.summary.proofs.Put.{rows_last}
use Rattle.summary.proofs.Ready.{ready}
use Rattle.summary.proofs.fill_at_once.Goals as goal

pub regions_row-last-requires : goal.regions_row-last-requires
regions_row-last-requires c = c.requires.0

pub add_top-requires : goal.add_top-requires
add_top-requires c =
    let A = c.args in
    let w = c.requires in
    rw (c.top_of.ensures, c.clear.ensures, c.regions_row-last.auto.s, c.index-n.ensures)
    (ready A.head.now A.e.now A.a.now w.0.ok (length A.s.now) w.1 (rows_fit _ _ _ _ w.0))

pub put_rows-requires : goal.put_rows-requires
put_rows-requires c =
    let A = c.args in
    let w = c.requires in
    let n : c.index-n.result ≡ apertures_used A.head.now = c.index-n.ensures in
    let long = c.add_top.auto.s ∙ c.clear.auto.s ∙ c.regions_row-last.auto.s in
    let r = rows_fit _ _ _ _ w.0 in
    let o = w.2 in
    (rw (long, c.index-n.ensures) r, omega arith, w.3)

pub overflow_mul-n : goal.overflow_mul-n
overflow_mul-n c =
    let A = c.args in
    let n : c.index-n.result ≡ apertures_used A.head.now = c.index-n.ensures in
    let long = c.put_rows.auto.out in
    let o = c.requires.2 in
    omega arith

pub put_row-requires : goal.put_row-requires
put_row-requires c =
    let A = c.args in
    let n : c.index-n.result ≡ apertures_used A.head.now = c.index-n.ensures in
    let long = c.put_rows.auto.out in
    let o = c.requires.2 in
    omega arith

pub shape_of-s-then-add_top : goal.shape_of-s-then-add_top
shape_of-s-then-add_top c =
    c.add_top.auto.s ∙ c.clear.auto.s ∙ c.regions_row-last.auto.s

pub shape_of-out-then-add_top : goal.shape_of-out-then-add_top
shape_of-out-then-add_top c =
    c.put_row.auto.out ∙ c.put_rows.auto.out

pub returns-then-add_top : goal.returns-then-add_top
returns-then-add_top c =
    let A = c.args in
    let w = c.requires in
    let o = w.2 in
    let x = rw (c.top_of.ensures, c.index-n.ensures) at (c.add_top.ensures c.if-add_top.true) in (
      λ z.
          rw (c.put_rows.ensures, c.regions_row-last.ensures, c.index-n.ensures) at c.put_row.ensures
          ∙ rows_last _ (sheet_items A.head.now A.e.now A.a.now) A.a.now (length A.out.now) (apertures_used A.head.now)
          (λ b l. x.1.rows b l ∙ top_flat A.head.now A.e.now A.a.now w.0.ok (asked_by A.a.now b) x.0) (omega arith),
      λ z. absurd (true≢false z),
    )

pub shape_of-s : goal.shape_of-s
shape_of-s c =
    c.add_top.auto.s ∙ c.clear.auto.s ∙ c.regions_row-last.auto.s

pub returns : goal.returns
returns c = (λ z. absurd (true≢false (sym z)), λ z. refl)
