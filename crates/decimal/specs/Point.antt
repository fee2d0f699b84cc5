-- The optional point of a decimal (01, Form): '.' is 46.
use Rattle.std.specs.Prelude.{ℕ, true, false, List, [], ◌∷◌, eqb}

-- what stands before the first point, or all where there is none
unfoldable pub before_point : List ℕ → List ℕ
before_point [] = []
before_point (b ∷ s) = elim (eqb b 46) [ true ↦ [] | false ↦ b ∷ before_point s ]

-- what stands after the first point, or nothing where there is none
unfoldable pub after_point : List ℕ → List ℕ
after_point [] = []
after_point (b ∷ s) = elim (eqb b 46) [ true ↦ s | false ↦ after_point s ]
