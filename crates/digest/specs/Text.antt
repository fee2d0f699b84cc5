-- A text without its line ends: document 02, request [2] ("CR and LF left out").
use Rattle.std.specs.Prelude.{ℕ, true, false, List, [], ◌∷◌}
use Rattle.base.specs.Breaks.{is_break}

unfoldable pub unbroken : List ℕ → List ℕ
unbroken [] = []
unbroken (b ∷ t) = elim (is_break b) [ true ↦ unbroken t | false ↦ b ∷ unbroken t ]
