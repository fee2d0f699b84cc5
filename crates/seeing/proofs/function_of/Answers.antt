-- `seeing::function_of` meets its contract: the search finds the record with the number, whose second word says what the aperture is for.
-- Assumes nothing.
use mathlib.Core.Path.{sym, ap, ◌∙◌}
use native.Mathlib.Omega.{arith}
use Rattle.noting.proofs.Roles.{number_found}
use Rattle.noting.specs.Holds.{word_at, role_number}
use Rattle.seeing.proofs.function_of.Goals as goal

pub overflow_mul-i : goal.overflow_mul-i
overflow_mul-i c = let f = number_found _ _ _ (sym c.search_number-found.ensures ∙ c.in-Ok.is) in let i = c.requires.tree.inside in let g = f.0 in omega arith

pub overflow_add-i : goal.overflow_add-i
overflow_add-i c = let f = number_found _ _ _ (sym c.search_number-found.ensures ∙ c.in-Ok.is) in let i = c.requires.tree.inside in let g = f.0 in omega arith

pub returns-in-Ok : goal.returns-in-Ok
unfolding role_number word_at
returns-in-Ok c =
    c.word_at.ensures ∙ sym (ap (word_at c.args.roles.now) (sym c.search_number-found.ensures ∙ c.in-Ok.is))

pub returns-in-Err : goal.returns-in-Err
unfolding role_number word_at
returns-in-Err c = sym (ap (word_at c.args.roles.now) (sym c.search_number-found.ensures ∙ c.in-Err.is))
