-- `address::look_at` meets its contract: the entry that holds the position is looked into, where there is one.
use Rattle.address.specs.Looking.{look_at, look_of}
use Rattle.address.proofs.Looks.{look_spans, look_inside, uses_known, Meets, meets, misses_none, misses_past, misses_not}
use native.Mathlib.Omega.{arith}
use mathlib.Core.Path.{◌∙◌}
use Rattle.law_addresses.specs.Positions.{span_at, spot}
use Rattle.address.proofs.look_at.Goals.{then-q-eq0-via-then-q-eq0, then-q-eq0-via-else-q-eq0+then-s-k}
use Rattle.address.proofs.look_at.Goals as goal

pub holder-s-requires : goal.holder-s-requires
holder-s-requires c = look_spans _ _ _ c.requires

pub overflow_add-k : goal.overflow_add-k
overflow_add-k c = omega (arith, look_inside _ _ _ c.requires)

pub returns-then-q-eq0 : goal.returns-then-q-eq0
unfolding look_of look_at
returns-then-q-eq0 c =
    let A = c.args in
    let s = spot (span_at A.e.now) A.k.first A.k.len A.q in
    elim c.then-q-eq0.branch [
      | then-q-eq0-via-then-q-eq0 w ↦ rw (misses_none A.k A.q s w.if-q-eq0.true)
      | then-q-eq0-via-else-q-eq0+then-s-k w ↦ rw (misses_past A.k A.q s w.if-q-eq0.false (rw c.holder-s.ensures at w.if-s-k.true))
    ]

pub entry_at-requires : goal.entry_at-requires
entry_at-requires c =
    let A = c.args in
    let held : Meets A.e.now A.a.now A.k (spot (span_at A.e.now) A.k.first A.k.len A.q) =
    meets A.e.now A.a.now A.k A.q (misses_not _ _ _ c.if-q-eq0.false (rw c.holder-s.ensures at c.if-s-k.false)) in
    rw (c.holder-s.ensures, held.entry_is)
    (omega (arith, held.i_in, look_inside _ _ _ c.requires))

pub look_in-requires : goal.look_in-requires
look_in-requires c =
    let A = c.args in
    let held : Meets A.e.now A.a.now A.k (spot (span_at A.e.now) A.k.first A.k.len A.q) =
    meets A.e.now A.a.now A.k A.q (misses_not _ _ _ c.if-q-eq0.false (rw c.holder-s.ensures at c.if-s-k.false)) in
    rw (c.entry_at.ensures, c.holder-s.ensures, held.entry_is)
    (uses_known _ _ _ c.requires held.i held.i_in)

pub returns : goal.returns
unfolding look_of look_at
returns c =
    let A = c.args in
    c.look_in.ensures
    ∙ rw (c.entry_at.ensures, c.holder-s.ensures, misses_not A.k A.q (spot (span_at A.e.now) A.k.first A.k.len A.q) c.if-q-eq0.false (rw c.holder-s.ensures at c.if-s-k.false))
