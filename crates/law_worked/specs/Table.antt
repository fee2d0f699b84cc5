-- Document 01, "Either side of a line": P1 to P10, each of the numbers and as a file; and cases that decisions settle.
use Rattle.std.specs.Prelude.{ℕ, false, List, [], ◌∷◌, ◌++◌, map, pos}
use Prim.Native.String.{String}
use Rattle.points.specs.Points.{pt}
use Rattle.place.specs.Kind as kind
use Rattle.place.specs.declared.Item.{Item}
use Rattle.law_worked.specs.Questions.{at, Question, product, quotient, arc, thermal, kept, primitive, drawn, listing, Answer, value, accepted, lists, refused, reading, answer}

-- what document 01 says the answer is
pub data Said : Type 0 where
  equals : String → Said
  is_accepted : Said
  is : ℕ → Said
  prints : List Item → Said

unfoldable pub said : Said → Answer
said (equals s) = reading s value
said is_accepted = accepted
said (is n) = refused n
said (prints ts) = lists ts

-- a case, the ways to ask it, and the one answer to all of them
pub data Row : Type 0 where
  row : String → List Question → Said → Row

unfoldable pub answers : Row → List Answer
answers (row p qs a) = map answer qs

unfoldable pub said_of : Row → List Answer
said_of (row p qs a) = map (λ q. said a) qs

unfoldable pub numbers : List Row
numbers =
    row "P1" (quotient "1" "3" ∷ kept "1,1,1/3,0,0" 2 ∷ []) (equals "0.333333")
    ∷ row "P2" (quotient "2" "3" ∷ kept "1,1,2/3,0,0" 2 ∷ []) (equals "0.666667")
    ∷ row "P3" (quotient "-2" "3" ∷ kept "1,1,1,-2/3,0" 3 ∷ []) (equals "-0.666667")
    ∷ row "P4" (product "0.0005" "0.001" ∷ kept "1,1,0.0005x0.001,0,0" 2 ∷ []) (equals "0.000001")
    ∷ row "P5" (product "0.0005" "0.000998" ∷ kept "1,1,0.0005x0.000998,0,0" 2 ∷ []) (equals "0")
    ∷ row "P6" (arc (at "0" "0") (at "2" "0") (at "1" "0") ∷ drawn "X2000000Y0I1000000J0D01*" ∷ []) is_accepted
    ∷ row "P7" (arc (at "0" "0") (at "2" "0") (at "2" "0") ∷ drawn "X2000000Y0I2000000J0D01*" ∷ []) (is 12)
    ∷ row "P8" (thermal "1" "0" "0.707106" ∷ primitive "7,0,0,1,0,0.707106,0" ∷ []) is_accepted
    ∷ row "P9" (thermal "1" "0" "0.707107" ∷ primitive "7,0,0,1,0,0.707107,0" ∷ []) (is 10)
    ∷ []

-- the input of "The listing, whole"
unfoldable pub strip : String
strip = "%FSLAX36Y36*%\n%MOMM*%\n%ADD10C,0.5*%\n%ABD11*%\nD10*\nG01*\nX0Y0D02*\nX1000000Y0D01*\nX0Y2000000D03*\n%AB*%\n%LR90*%\nD11*\n%SRX2Y1I3000.0J0*%\nX10000000Y5000000D03*\n%SR*%\nM02*\n"

-- its output: a dark item of aperture 10 at 90 degrees and scale 1, without flip, centre and count, put there by the flash at 132
unfoldable pub item : ℕ → ℕ → ℕ → ℕ → ℕ → ℕ → Item
item k sx sy ex ey place = record {
  kind = k;
  aperture = 10;
  clear = false;
  flip = false;
  angle = 90_000_000;
  scale = 1_000_000;
  start = pt (pos sx) (pos sy);
  end = pt (pos ex) (pos ey);
  centre = pt (pos 0) (pos 0);
  count = 0;
  place = place;
  outer = 132;
}

unfoldable pub output : List Item
output =
    item kind.line 10000000 5000000 10000000 6000000 64
    ∷ item kind.flash 0 0 8000000 5000000 79
    ∷ item kind.line 3010000000 5000000 3010000000 6000000 64
    ∷ item kind.flash 0 0 3008000000 5000000 79
    ∷ []

unfoldable pub table : List Row
table = numbers ++ (row "P10" (listing strip ∷ []) (prints output) ∷ [])

-- a full circle, and none about its own start (85); a result of 10 ^ 12 millionths (69); a zero divisor (70)
unfoldable pub further : List Row
further =
    row "85" (arc (at "0" "0") (at "0" "0") (at "1" "0") ∷ []) is_accepted
    ∷ row "85" (arc (at "0" "0") (at "0" "0") (at "0" "0") ∷ []) (is 12)
    ∷ row "69" (product "1000" "999.999999" ∷ []) (equals "999999.999")
    ∷ row "69" (product "1000" "-1000" ∷ []) (is 9)
    ∷ row "70" (quotient "1" "-0" ∷ []) (is 9)
    ∷ []
