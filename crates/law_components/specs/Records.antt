-- A record of the placement list, as bytes (02, [4]: "tab-parted, one record a line, a pin's opening with a tab"; decisions 584 and 585).
use Rattle.std.specs.Prelude.{ℕ, suc, List, [], ◌∷◌, ◌++◌, ℤ, pos, negsuc}
use Rattle.points.specs.declared.Point.{Point}
use Rattle.text.specs.Text.{text}
use Rattle.lines.specs.Line.{decimal_of}
use Rattle.law_components.specs.Values.{field}
use Rattle.law_components.specs.Parts.{Part, designator}

-- millionths, in decimal
unfoldable pub numeral : ℤ → List ℕ
numeral (pos n) = decimal_of n
numeral (negsuc n) = text "-" ++ decimal_of (suc n)

-- each after a tab, and LF
unfoldable pub tabbed : List (List ℕ) → List ℕ
tabbed [] = text "\n"
tabbed (s ∷ ss) = text "\t" ++ (s ++ tabbed ss)

-- x and y, each after a tab
unfoldable pub point_text : Point → List ℕ
point_text p = text "\t" ++ (numeral p.x ++ (text "\t" ++ numeral p.y))

-- designator, x, y, rotation, value, footprint, mount
unfoldable pub main_row : List ℕ → Point → List ℕ → List ℕ → List ℕ → List ℕ → List ℕ
main_row name at rotation value footprint mount =
    name ++ tabbed (numeral at.x ∷ numeral at.y ∷ rotation ∷ value ∷ footprint ∷ mount ∷ [])

-- number, x, y
unfoldable pub pin_row : List ℕ → Point → List ℕ
pin_row number at = tabbed (number ∷ numeral at.x ∷ numeral at.y ∷ [])

-- the point is the flash's end, and the rotation is text, which no block turns
unfoldable pub main_record : Part → List ℕ
main_record p =
    main_row (designator p) p.end
    (field 0 p.texts.rotation) (field 0 p.texts.value) (field 0 p.texts.footprint) (field 0 p.texts.mount)

unfoldable pub pin_record : Part → List ℕ
pin_record p = pin_row (field 1 p.texts.pin) p.end
