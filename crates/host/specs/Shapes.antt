-- An aperture that is looked up as words (host/sheet.h), and the length of a part of a file.
use Rattle.std.specs.Prelude.{ℕ, ◌-◌, List, [], ◌∷◌}
use Rattle.command.specs.declared.Span.{Span}
use Rattle.shapes.specs.declared.Shape.{Shape}

unfoldable pub shape_words : Shape → List ℕ
shape_words s = s.number ∷ s.kind ∷ s.first ∷ s.count ∷ s.primitives ∷ []

unfoldable pub size_of : Span → ℕ
size_of s = s.to - s.from
