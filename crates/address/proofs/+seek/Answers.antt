-- `address::seek` meets its contract: each step goes down to a lower container, with a word less.
use Rattle.std.proofs.Common.{◌≡◌, sym, ap, ◌∙◌, ◌-◌, length, take, drop, arith}
use Rattle.law_addresses.specs.Sought.{further, sought}
use Rattle.address.specs.Looking.{look_of, Down}
use Rattle.address.specs.declared.Look.TheVariants.{Below}
use Rattle.address.proofs.Looks.{On, down, look_on, part_words, part_sought}
use Rattle.address.proofs.+seek.Goals as goal

pub slice_bounds-seek-count : goal.slice_bounds-seek-count
slice_bounds-seek-count t c =
    let A = c.args in
    (down A.e.now A.a.now A.k (length A.rest.now) c.requires A.q A.rest.now _ _ (sym c.look_at.ensures ∙ c.in-Below.is)).some

pub slice_bounds-seek-start : goal.slice_bounds-seek-start
slice_bounds-seek-start t c =
    let A = c.args in
    (down A.e.now A.a.now A.k (length A.rest.now) c.requires A.q A.rest.now _ _ (sym c.look_at.ensures ∙ c.in-Below.is)).some

pub seek-requires : goal.seek-requires
seek-requires t c =
    let A = c.args in
    let d : Down A.e.now A.a.now c.in-Below.start c.in-Below.under (length A.rest.now) =
    down A.e.now A.a.now A.k (length A.rest.now) c.requires A.q A.rest.now _ _ (sym c.look_at.ensures ∙ c.in-Below.is) in
    let l = part_words A.rest.now d.some in
    (omega (arith, l, c.decreases), d.asks _ l)

pub further_on-requires : goal.further_on-requires
further_on-requires t c j f =
    let A = c.args in
    let d : Down A.e.now A.a.now c.in-Below.start c.in-Below.under (length A.rest.now) =
    down A.e.now A.a.now A.k (length A.rest.now) c.requires A.q A.rest.now _ _ (sym c.look_at.ensures ∙ c.in-Below.is) in
    d.fits c.word_at.result (take (length A.rest.now - 1) (drop 1 A.rest.now)) (part_words A.rest.now d.some) j (sym c.seek.ensures ∙ f)

pub returns-in-Is : goal.returns-in-Is
returns-in-Is t c =
    let A = c.args in
    sym (ap (On (sought A.e.now A.a.now (length A.rest.now)) A.rest.now) (sym c.look_at.ensures ∙ c.in-Is.is))
    ∙ look_on A.e.now A.a.now (length A.rest.now) A.k A.q A.rest.now

pub returns-in-Below : goal.returns-in-Below
returns-in-Below t c =
    let A = c.args in
    let q : look_of A.e.now A.a.now A.k A.q A.rest.now ≡ Below c.in-Below.start c.in-Below.under = sym c.look_at.ensures ∙ c.in-Below.is in
    let d = down A.e.now A.a.now A.k (length A.rest.now) c.requires A.q A.rest.now _ _ q in
    c.further_on.ensures
    ∙ ap (further _) (c.seek.ensures ∙ part_sought A.e.now A.a.now _ _ A.rest.now d.some c.word_at.ensures)
    ∙ sym (ap (On (sought A.e.now A.a.now (length A.rest.now)) A.rest.now) q)
    ∙ look_on A.e.now A.a.now (length A.rest.now) A.k A.q A.rest.now
