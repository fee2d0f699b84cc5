-- What an aperture is for, by a number: 1 mains, 2 pins, 3 outlines, 0 anything else (02, [4]; decision 581).
use Rattle.std.specs.Prelude.{ℕ, ◌≡◌, cond, List}
use Rattle.text.specs.Text.{◌is◌}
use Rattle.attribute_call.specs.declared.Saying.{Saying}
use Rattle.attribute_call.specs.Attribute.{later}
use Rattle.law_components.specs.Values.{Value, field}
use Rattle.layer.specs.Said.{value_said}

unfoldable pub function_is : List ℕ → ℕ
function_is s = cond (s is "ComponentMain") 1 (cond (s is "ComponentPin") 2 (cond (s is "ComponentOutline") 3 0))

unfoldable pub function_number : Value → ℕ
function_number v = function_is (field 0 v)

-- before a command that says s, and after it
pub record FunctionFollows (file : List ℕ) (old r : ℕ) (s : Saying) : Type 0 where
  pub follows : (said : Saying) → old ≡ function_number (value_said file said) → r ≡ function_number (value_said file (later said s))
