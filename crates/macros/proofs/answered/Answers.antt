-- `macros::answered` meets its contract: what is at fault, or 17 where there was no room.
-- Assumes nothing.
use mathlib.Core.Path.{refl}
use borrow.Author.Tests.{ne_eqb}
use Rattle.faults.specs.Rule.{number_told, number_of_rule}
use Rattle.faults.proofs.Rules.{some_rule}
use Rattle.macros.proofs.answered.Goals as goal

pub returns-in-Err : goal.returns-in-Err
unfolding number_told
returns-in-Err c = record { worked = rw (c.in-Err.is, ne_eqb _ 0 (some_rule c.in-Err.rule)) refl; used = refl }

pub returns-then-p : goal.returns-then-p
unfolding number_told number_of_rule
returns-then-p c = record { worked = rw (c.in_default.is, c.if-p.true) refl; used = refl }

pub returns : goal.returns
unfolding number_told
returns c = record { worked = rw (c.in_default.is, c.if-p.false) refl; used = refl }
