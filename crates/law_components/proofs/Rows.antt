-- The rows by the pieces that are written: a field after its tab, and a point's two.
-- Assumes nothing.
use Prim.Native.Nat.{ℕ}
use mathlib.Core.Path.{◌≡◌, ap}
use mathlib.Core.List.{List, ◌++◌, append_assoc}
use Rattle.points.specs.declared.Point.{Point}
use Rattle.text.specs.Text.{text}
use Rattle.law_components.specs.Records.{numeral, tabbed, point_text, main_row, pin_row}

point_then : (p : Point) (rest : List ℕ) → point_text p ++ rest ≡ text "\t" ++ (numeral p.x ++ (text "\t" ++ (numeral p.y ++ rest)))
unfolding point_text
point_then p rest = ap (λ s. text "\t" ++ s) (append_assoc (numeral p.x) (text "\t" ++ numeral p.y) rest)

pub pin_pieces : (number : List ℕ) (p : Point) → (text "\t" ++ number) ++ (point_text p ++ text "\n") ≡ pin_row number p
unfolding pin_row tabbed
pin_pieces number p = ap (λ s. (text "\t" ++ number) ++ s) (point_then p (text "\n"))

pub main_pieces : (name : List ℕ) (p : Point) (rotation value footprint mount : List ℕ) →
    name ++ (point_text p ++ ((text "\t" ++ rotation) ++ ((text "\t" ++ value) ++ ((text "\t" ++ footprint) ++ ((text "\t" ++ mount) ++ text "\n")))))
    ≡ main_row name p rotation value footprint mount
unfolding main_row tabbed
main_pieces name p rotation value footprint mount = ap (λ s. name ++ s) (point_then p _)
