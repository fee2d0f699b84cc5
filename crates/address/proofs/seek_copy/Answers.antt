-- `address::seek_copy` meets its contract: the tests pick the case, and the items of a copy are few enough.
use Rattle.law_addresses.specs.Sought.{further}
use Rattle.address.proofs.Tops.{copied_few, copied_fits, copy_in, copy_none, copy_past}
use native.Mathlib.Omega.{arith}
use mathlib.Core.Path.{sym, ap, ◌∙◌}
use Rattle.address.proofs.seek_copy.Goals.{then-copy-eq0-via-then-copy-eq0, then-copy-eq0-via-else-copy-eq0+then-copy-r}
use Rattle.address.proofs.seek_copy.Goals as goal

pub returns-then-copy-eq0 : goal.returns-then-copy-eq0
returns-then-copy-eq0 c =
    elim c.then-copy-eq0.branch [
      | then-copy-eq0-via-then-copy-eq0 w ↦ copy_none _ _ _ c.args.rest.now c.requires _ _ w.if-copy-eq0.true
      | then-copy-eq0-via-else-copy-eq0+then-copy-r w ↦ copy_past _ _ _ c.args.rest.now c.requires _ _ w.if-copy-r.true
    ]

pub overflow_mul-before : goal.overflow_mul-before
overflow_mul-before c =
    omega (arith, copied_few _ _ _ c.args.rest.now c.requires _ c.args.left c.if-copy-eq0.false c.if-copy-r.false)

pub overflow_add-before : goal.overflow_add-before
overflow_add-before c =
    omega (arith, copied_few _ _ _ c.args.rest.now c.requires _ c.args.left c.if-copy-eq0.false c.if-copy-r.false, c.requires.starts)

pub seek-requires : goal.seek-requires
seek-requires c =
    rw c.body_of.ensures c.requires.asks

pub further_on-requires : goal.further_on-requires
further_on-requires c j f =
    copied_fits _ _ _ c.args.rest.now c.requires _ c.args.left c.if-copy-eq0.false c.if-copy-r.false j (sym (rw c.body_of.ensures at c.seek.ensures) ∙ f)

pub returns : goal.returns
returns c =
    c.further_on.ensures ∙ ap (further _) (rw c.body_of.ensures at c.seek.ensures)
    ∙ copy_in _ _ _ c.args.rest.now c.requires _ _ c.if-copy-eq0.false c.if-copy-r.false
