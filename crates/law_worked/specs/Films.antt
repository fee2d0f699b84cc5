-- Small films of the old book (02, [9]; decisions 482 to 519): what stands on the sheet of each, and those that are refused.
use Rattle.std.specs.Prelude.{ℕ, false, List, [], ◌∷◌, pos}
use Prim.Native.String.{String}
use Rattle.book.specs.Books.{film}
use Rattle.points.specs.Points.{pt}
use Rattle.points.specs.declared.Point.{Point}
use Rattle.place.specs.Kind as kind
use Rattle.place.specs.declared.Item.{Item}
use Rattle.text.specs.Text.{text}
use Rattle.law_reading.specs.Reading as file
use Rattle.law_worked.specs.Questions.{Answer, lists, listed, ample}

-- a dark item of an aperture, 0 for none, as it is drawn: not turned, not scaled
unfoldable pub drawn : ℕ → ℕ → Point → Point → Point → ℕ → ℕ → Item
drawn k aperture start end centre count place = record {
  kind = k;
  aperture = aperture;
  clear = false;
  flip = false;
  angle = 0;
  scale = 1_000_000;
  start = start;
  end = end;
  centre = centre;
  count = count;
  place = place;
  outer = place;
}

abbrev none : Point
none = pt (pos 0) (pos 0)

-- in millionths
abbrev units : ℕ → ℕ → Point
units x y = pt (pos x) (pos y)

-- the circle of the old book's 5.3.1.3 in single quadrant mode, its D codes written: each arc is about (7, 6), for I and J have no sign;
-- and an arc that ends where it starts, which is a line
unfoldable pub circle : String
circle = "%FSLAX22Y22*%%MOMM*%%ADD10C,1*%G74*G54D10*G01X1100Y600D02*G03X700Y1000I400J0D01*X300Y600I0J400D01*X700Y200I400J0D01*X1100Y600I0J400D01*X1100Y600I1J1D1*M02*"

unfoldable pub of_circle : List Item
of_circle =
    drawn kind.ccw 10 (units 11000000 6000000) (units 7000000 10000000) (units 7000000 6000000) 0 58
    ∷ drawn kind.ccw 10 (units 7000000 10000000) (units 3000000 6000000) (units 7000000 6000000) 0 80
    ∷ drawn kind.ccw 10 (units 3000000 6000000) (units 7000000 2000000) (units 7000000 6000000) 0 98
    ∷ drawn kind.ccw 10 (units 7000000 2000000) (units 11000000 6000000) (units 7000000 6000000) 0 116
    ∷ drawn kind.line 10 (units 11000000 6000000) (units 11000000 6000000) none 0 135
    ∷ []

-- the unit by a code; trailing zeros left out, so that `1` is 10.000 and `05` is 5.000; each coordinate counts from the point before, the
-- first from (0, 0); a solid rectangle draws; a code stands before an operation; M00 ends nothing
unfoldable pub steps : String
steps = "G70*%FSTIX23Y23*%%ADD12R,1X2*%G54D12*G1X1Y1D2*G1X05Y-1D1*M00*M2*"

unfoldable pub of_steps : List Item
of_steps = drawn kind.line 12 (units 10000000 10000000) (units 15000000 0) none 0 46 ∷ []

-- a contour without a D02 since its G36 (29 is not given)
unfoldable pub area : String
area = "%FSLAX22Y22*%%MOMM*%X0Y0D2*G36*G1X1Y0D1*G1X0Y0D1*G37X0Y0D2*M2*"

unfoldable pub of_area : List Item
of_area =
    drawn kind.contour 0 none none none 2 31
    ∷ drawn kind.edge_line 0 none (units 10000 0) none 0 31
    ∷ drawn kind.edge_line 0 (units 10000 0) none none 0 40
    ∷ []

unfoldable pub drawn_films : List (String × List Item)
drawn_films = (circle, of_circle) ∷ (steps, of_steps) ∷ (area, of_area) ∷ []

-- 30 for a command that is not read; 31 where no centre remains; 11 for a sign and for an arc of a rectangle; 7 for a notation in a region;
-- 5 for a point of 10^12; each with its place, which before a code is that of the code
unfoldable pub refused_films : List (String × ℕ × ℕ)
refused_films =
    ("%MIA1B0*%M2*", 30, 0)
    ∷ ("%FSLAX22Y22*%%MOMM*%%ADD10C,1*%D10*X0Y0D2*G2X1Y1I0J0D1*M2*", 31, 42)
    ∷ ("%FSLAX22Y22*%%MOMM*%%ADD10C,1*%D10*X0Y0D2*G2X1Y1I-0J1D1*M2*", 11, 42)
    ∷ ("%FSLAX22Y22*%%MOMM*%%ADD12R,1X1*%D12*X0Y0D2*G2X1Y1I1J0D1*M2*", 11, 44)
    ∷ ("%FSLAX22Y22*%%MOMM*%G36*G91X1Y1D2*G37*M2*", 7, 24)
    ∷ ("%FSLIX66Y66*%%MOMM*%X999999999999Y0D2*X1Y0D2*M2*", 5, 38)
    ∷ []

-- what the definition of reading says of a film
unfoldable pub shown : String → Answer
shown s = listed (file.reading film ample (text s))

unfoldable pub judged_film : String → file.Answer
judged_film s = file.reading film ample (text s)
