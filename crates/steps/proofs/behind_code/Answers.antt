-- `steps::behind_code` meets its contract, role by role.
-- Assumes nothing.
use Rattle.steps.specs.Coded.{behind_code}
use mathlib.Core.Path.{refl}
use Rattle.steps.proofs.behind_code.Goals as goal

pub returns-in-Coded : goal.returns-in-Coded
unfolding behind_code
returns-in-Coded c = rw (c.after_code.ensures, c.in-Coded.is) refl

pub returns-in-Broken : goal.returns-in-Broken
unfolding behind_code
returns-in-Broken c = rw c.in-Broken.is refl

pub returns-in-Note : goal.returns-in-Note
unfolding behind_code
returns-in-Note c = rw c.in-Note.is refl

pub returns-in-End : goal.returns-in-End
unfolding behind_code
returns-in-End c = rw c.in-End.is refl

pub returns-in-Set : goal.returns-in-Set
unfolding behind_code
returns-in-Set c = rw c.in-Set.is refl

pub returns-in-Operate : goal.returns-in-Operate
unfolding behind_code
returns-in-Operate c = rw c.in-Operate.is refl

pub returns-in-Select : goal.returns-in-Select
unfolding behind_code
returns-in-Select c = rw c.in-Select.is refl

pub returns-in-Define : goal.returns-in-Define
unfolding behind_code
returns-in-Define c = rw c.in-Define.is refl

pub returns-in-Contain : goal.returns-in-Contain
unfolding behind_code
returns-in-Contain c = rw c.in-Contain.is refl

pub returns-in-Attribute : goal.returns-in-Attribute
unfolding behind_code
returns-in-Attribute c = rw c.in-Attribute.is refl
