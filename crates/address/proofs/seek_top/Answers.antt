-- `address::seek_top` meets its contract: the entry that holds the position is searched, where there is one.
use Rattle.sheet.specs.Containers.{top_of}
use Rattle.base.proofs.Lists.{rest_whole}
use Rattle.law_addresses.specs.Positions.{span_at, spot}
use Rattle.law_addresses.specs.Sought.{misses}
use Rattle.law_addresses.proofs.Fitting.{spans_top}
use Rattle.address.proofs.Looks.{Meets, meets, misses_none, misses_past, misses_not}
use Rattle.address.proofs.Tops.{at_top, top_none, top_some, top_rest}
use lib.ListN.{get_or}
use native.Mathlib.Omega.{arith}
use mathlib.Core.Path.{◌≡◌, ◌∙◌}
use mathlib.Core.Bool.{false}
use Rattle.address.proofs.seek_top.Goals.{then-q-eq0-via-then-q-eq0, then-q-eq0-via-else-q-eq0+then-s-top}
use Rattle.address.proofs.seek_top.Goals as goal

pub holder-s-requires : goal.holder-s-requires
holder-s-requires c = rw c.top_of-top.ensures (spans_top _ _ _ c.requires.0)

pub overflow_add-top : goal.overflow_add-top
overflow_add-top c =
    omega (arith, rw (← c.top_of-top.ensures) at (spans_top _ _ _ c.requires.0).inside)

pub returns-then-q-eq0 : goal.returns-then-q-eq0
returns-then-q-eq0 c =
    elim c.then-q-eq0.branch [
      | then-q-eq0-via-then-q-eq0 w ↦ top_none _ _ _ _ (misses_none _ _ _ (rw c.word_at-q.ensures at w.if-q-eq0.true))
      | then-q-eq0-via-else-q-eq0+then-s-top w ↦
          top_none _ _ _ _ (misses_past _ _ _ (rw c.word_at-q.ensures at w.if-q-eq0.false) (rw (c.holder-s.ensures, c.word_at-q.ensures, c.top_of-top.ensures) at w.if-s-top.true))
    ]

pub entry_at-r-requires : goal.entry_at-r-requires
entry_at-r-requires c =
    let missed : let A = c.args in
    misses (top_of A.head.now) (get_or A.w.now 1 0) (spot (span_at A.e.now) (top_of A.head.now).first (top_of A.head.now).len (get_or A.w.now 1 0)) ≡ false =
    misses_not _ _ _ (rw c.word_at-q.ensures at c.if-q-eq0.false) (rw (c.holder-s.ensures, c.word_at-q.ensures, c.top_of-top.ensures) at c.if-s-top.false) in
    let held : let A = c.args in
    Meets A.e.now A.a.now (top_of A.head.now) (spot (span_at A.e.now) (top_of A.head.now).first (top_of A.head.now).len (get_or A.w.now 1 0)) =
    let A = c.args in
    meets A.e.now A.a.now (top_of A.head.now) (get_or A.w.now 1 0) missed in
    rw (c.holder-s.ensures, c.word_at-q.ensures, c.top_of-top.ensures, held.entry_is)
    (omega (arith, held.i_in, (spans_top _ _ _ c.requires.0).inside))

pub seek_in-requires : goal.seek_in-requires
seek_in-requires c =
    let missed : let A = c.args in
    misses (top_of A.head.now) (get_or A.w.now 1 0) (spot (span_at A.e.now) (top_of A.head.now).first (top_of A.head.now).len (get_or A.w.now 1 0)) ≡ false =
    misses_not _ _ _ (rw c.word_at-q.ensures at c.if-q-eq0.false) (rw (c.holder-s.ensures, c.word_at-q.ensures, c.top_of-top.ensures) at c.if-s-top.false) in
    let A = c.args in (
      rw (c.entry_at-r.ensures, c.holder-s.ensures, c.word_at-q.ensures, c.top_of-top.ensures)
          (at_top A.head.now A.e.now A.a.now c.requires.0 (get_or A.w.now 1 0) missed),
      top_rest A.head.now A.e.now A.a.now A.w.now c.requires.1,
    )

pub returns : goal.returns
returns c =
    let missed : let A = c.args in
    misses (top_of A.head.now) (get_or A.w.now 1 0) (spot (span_at A.e.now) (top_of A.head.now).first (top_of A.head.now).len (get_or A.w.now 1 0)) ≡ false =
    misses_not _ _ _ (rw c.word_at-q.ensures at c.if-q-eq0.false) (rw (c.holder-s.ensures, c.word_at-q.ensures, c.top_of-top.ensures) at c.if-s-top.false) in
    let A = c.args in
    rw (c.entry_at-r.ensures, c.word_at.ensures, c.holder-s.ensures, c.word_at-q.ensures, c.top_of-top.ensures, rest_whole A.w.now 2) at c.seek_in.ensures
    ∙ top_some A.head.now A.e.now A.a.now A.w.now missed
