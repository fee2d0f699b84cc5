-- `noting::declares` meets its contract: of a TF whose name is the one sought the first field decides, which ends at the first comma.
-- Assumes nothing.
use Rattle.layer.specs.Attributes.{declares_as}
use Rattle.law_components.proofs.Fields.{field_first}
use Rattle.text.specs.First.{before_byte}
use Rattle.text.specs.Text.{text}
use Rattle.base.specs.Bytes.{same_bytes}
use Rattle.base.proofs.And.{true_and}
use mathlib.Core.Path.{sym, ap, ◌∙◌}
use mathlib.Core.List.{List}
use Prim.Native.Char.{code}
use Prim.Native.Nat.{ℕ}
use Rattle.noting.proofs.declares.Goals as goal

pub returns-then-is : goal.returns-then-is
unfolding declares_as
returns-then-is c =
    let x = c.is.ensures ∙ ap (λ (s : List ℕ). same_bytes s (text ".FileFunction")) c.part.ensures in
    let y = c.is-then-is.ensures ∙ ap (λ (s : List ℕ). same_bytes s (text "Component")) (c.before-then-is.ensures ∙ ap (before_byte (code ",")) c.part-then-is.ensures ∙ sym (field_first _)) in
    rw (c.in-File.is, sym x ∙ c.if-is.true, true_and _) y
