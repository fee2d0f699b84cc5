-- `inspect::size_of` meets its contract: in each arm the role picks the case of `size_as`, and the condition of a repeat bounds its product.
use Rattle.sheet.proofs.Conditions.{entry_use, entry_repeat}
use Rattle.std.proofs.Common.{sym, ◌∙◌, arith}
use Rattle.inspect.proofs.size_of.Goals as goal

pub block_at-requires : goal.block_at-requires
block_at-requires c = let A = c.args in
    let u = entry_use A.a.now A.n A.h A.r c.requires.1 (sym c.role_of.ensures ∙ c.in-Uses.is) in
    omega (arith, u.who_in)

pub overflow_mul-result : goal.overflow_mul-result
overflow_mul-result c = let A = c.args in
    let u = entry_repeat A.a.now A.n A.h A.r c.requires.1 (sym c.role_of.ensures ∙ c.in-Repeats.is) in
    omega (arith, u.column)

pub overflow_mul-result-in-Repeats : goal.overflow_mul-result-in-Repeats
overflow_mul-result-in-Repeats c =
    let A = c.args in
    let u = entry_repeat A.a.now A.n A.h A.r c.requires.1 (sym c.role_of.ensures ∙ c.in-Repeats.is) in
    omega (arith, u.whole)
