-- `address::seek_use` meets its contract: what lies below is asked for with a word less.
use Rattle.law_addresses.specs.Sought.{further}
use Rattle.address.proofs.Looks.{part_words, part_sought}
use lib.ListN.{length, take, drop}
use Prim.Native.Nat.{◌-◌}
use mathlib.Core.Path.{sym, ap, ◌∙◌}
use Rattle.address.proofs.seek_use.Goals as goal

pub seek-requires : goal.seek-requires
seek-requires c =
    let A = c.args in
    let d = c.requires in
    d.asks _ (part_words A.rest.now d.some)

pub further_on-requires : goal.further_on-requires
further_on-requires c j f =
    let A = c.args in
    let d = c.requires in
    d.fits c.word_at.result (take (length A.rest.now - 1) (drop 1 A.rest.now)) (part_words A.rest.now d.some) j (sym c.seek.ensures ∙ f)

pub returns : goal.returns
returns c =
    let A = c.args in
    let d = c.requires in
    c.further_on.ensures
    ∙ ap (further _) (c.seek.ensures ∙ part_sought A.e.now A.a.now _ _ A.rest.now d.some c.word_at.ensures)
