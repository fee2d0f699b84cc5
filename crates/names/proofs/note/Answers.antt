-- `names::note` meets its contract: what the search finds, and whether there is room, pick the case.
-- Assumes nothing.
use Rattle.std.specs.Prelude.{Err}
use mathlib.Core.Path.{◌≡◌, sym, ap, ◌∙◌}
use native.Mathlib.Omega.{arith}
use lib.Seq.{slice}
use Rattle.index.specs.Names.{named}
use Rattle.index.specs.Tree.{link_word}
use Rattle.tables.specs.Macros.{macro_words}
use Rattle.register.specs.Wide.{wide, name_words, search_of, record_of}
use Rattle.register.proofs.Wide.{inside}
use Rattle.names.proofs.Noting.{note_found, note_new, note_full}
use Rattle.names.proofs.note.Goals as goal

pub returns-in_default : goal.returns-in_default
unfolding search_of
returns-in_default c = note_found _ _ _ _ _ (sym c.find-found.ensures.0 ∙ ap search_of c.in_default.is)

pub put-requires : goal.put-requires
unfolding record_of
put-requires c =
    let w = c.requires in
    (w.3.records, rw c.in-Err.is at c.find-found.ensures.1, omega (arith, w.3.places, w.1, w.2), omega (arith, w.3.places, w.2))

pub overflow_add-result : goal.overflow_add-result
overflow_add-result c = let w = c.requires in omega (arith, inside _ _ w.0.tree.inside, w.3.records)

pub returns-then-put : goal.returns-then-put
unfolding name_words macro_words search_of
returns-then-put c =
    let free : let A = c.args in
    named A.file.now (wide A.s.now) A.used (slice A.from A.to A.file.now) ≡ Err (link_word c.in-Err.free.at c.in-Err.free.high) =
    sym c.find-found.ensures.0 ∙ ap search_of c.in-Err.is in
    note_new _ _ _ _ _ free c.put.ensures.1 (sym c.put.ensures.0 ∙ c.if-put.true)

pub returns : goal.returns
unfolding name_words macro_words search_of
returns c =
    let free : let A = c.args in
    named A.file.now (wide A.s.now) A.used (slice A.from A.to A.file.now) ≡ Err (link_word c.in-Err.free.at c.in-Err.free.high) =
    sym c.find-found.ensures.0 ∙ ap search_of c.in-Err.is in
    note_full _ _ _ _ _ free c.put.ensures.1 (sym c.put.ensures.0 ∙ c.if-put.false)
