-- The words of an aperture as it is put into the table: the last two are its links, which lead nowhere yet (docs/SHEET.md, decision 209).
use Rattle.std.specs.Prelude.{ℕ, List, [], ◌∷◌}
use Rattle.sheet.specs.declared.Aperture.{Aperture}

unfoldable pub aperture_words : Aperture → List ℕ
aperture_words r = r.number ∷ r.kind ∷ r.first ∷ r.len ∷ r.items ∷ r.height ∷ 0 ∷ 0 ∷ []
