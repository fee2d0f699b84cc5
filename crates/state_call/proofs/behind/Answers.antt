-- `state_call::after` meets its contract: Dn selects, and what any other command changes is `after`.
-- Assumes nothing.
use mathlib.Core.Path.{sym, ap, ◌∙◌}
use Rattle.changes.specs.After.{after}
use Rattle.state_call.specs.Stepped.{behind}
use Rattle.state_call.proofs.behind.Goals as goal

pub after-requires : goal.after-requires
after-requires c = c.requires

pub after-requires-in-Operate : goal.after-requires-in-Operate
after-requires-in-Operate c = c.requires

pub after-requires-in-Coded : goal.after-requires-in-Coded
after-requires-in-Coded c = c.requires

pub after-requires-in-Contain : goal.after-requires-in-Contain
after-requires-in-Contain c = c.requires

pub returns-in-Select : goal.returns-in-Select
unfolding behind
returns-in-Select c = let a = c.args in c.with_aperture.ensures ∙ sym (ap (λ c. behind a.g c a.k) c.in-Select.is)

pub returns-in-Set : goal.returns-in-Set
unfolding behind
returns-in-Set c = let a = c.args in c.after.ensures ∙ ap (λ c. after c a.g) c.in-Set.is ∙ sym (ap (λ c. behind a.g c a.k) c.in-Set.is)

pub returns-in-Operate : goal.returns-in-Operate
unfolding behind
returns-in-Operate c = let a = c.args in c.after-in-Operate.ensures ∙ ap (λ c. after c a.g) c.in-Operate.is ∙ sym (ap (λ c. behind a.g c a.k) c.in-Operate.is)

pub returns-in-Coded : goal.returns-in-Coded
unfolding behind
returns-in-Coded c = let a = c.args in c.after-in-Coded.ensures ∙ ap (λ c. after c a.g) c.in-Coded.is ∙ sym (ap (λ c. behind a.g c a.k) c.in-Coded.is)

pub returns-in-Contain : goal.returns-in-Contain
unfolding behind
returns-in-Contain c = let a = c.args in c.after-in-Contain.ensures ∙ ap (λ c. after c a.g) c.in-Contain.is ∙ sym (ap (λ c. behind a.g c a.k) c.in-Contain.is)

pub returns-in-Broken : goal.returns-in-Broken
unfolding behind after
returns-in-Broken c = let a = c.args in sym (ap (λ c. behind a.g c a.k) c.in-Broken.is)

pub returns-in-Note : goal.returns-in-Note
unfolding behind after
returns-in-Note c = let a = c.args in sym (ap (λ c. behind a.g c a.k) c.in-Note.is)

pub returns-in-End : goal.returns-in-End
unfolding behind after
returns-in-End c = let a = c.args in sym (ap (λ c. behind a.g c a.k) c.in-End.is)

pub returns-in-Define : goal.returns-in-Define
unfolding behind after
returns-in-Define c = let a = c.args in sym (ap (λ c. behind a.g c a.k) c.in-Define.is)

pub returns-in-Attribute : goal.returns-in-Attribute
unfolding behind after
returns-in-Attribute c = let a = c.args in sym (ap (λ c. behind a.g c a.k) c.in-Attribute.is)
