-- The codes of the old book: "one- or two-digit codes" (02, [9]; decisions 484 and 485). A code is its number, 0 is none of the list.
use Rattle.std.specs.Prelude.{ℕ, ◌-◌, Bool, List, [], ◌∷◌, length, drop, get_or}
use Rattle.base.specs.Bytes.{same_bytes}
use Rattle.base.specs.Or.{◌or◌}
use Rattle.base.specs.Choose.{pick, choose}
use Rattle.text.specs.Text.{text, byte, ◌is◌}

-- outlines, the aperture's selection, units, quadrants, notation
unfoldable pub later_codes : List ℕ → ℕ
later_codes t =
    choose
    ((t is "G36", 36)
    ∷ (t is "G37", 37)
    ∷ (t is "G54", 54)
    ∷ (t is "G70", 70)
    ∷ (t is "G71", 71)
    ∷ (t is "G74", 74)
    ∷ (t is "G75", 75)
    ∷ (t is "G90", 90)
    ∷ (t is "G91", 91)
    ∷ [])
    0

-- a G code that is no comment
unfoldable pub code_of : List ℕ → ℕ
code_of t =
    choose
    ((t is "G01" or t is "G1", 1)
    ∷ (t is "G02" or t is "G2", 2)
    ∷ (t is "G03" or t is "G3", 3)
    ∷ [])
    (later_codes t)

-- these bytes last, or those
unfoldable pub ends_in_one : List ℕ → List ℕ → List ℕ → Bool
ends_in_one s v w = same_bytes (drop (length s - length v) s) v or same_bytes (drop (length s - length w) s) w

-- the operation that a text ends in
unfoldable pub operation_in : List ℕ → ℕ
operation_in s =
    choose
    ((ends_in_one s (text "D01") (text "D1"), 1)
    ∷ (ends_in_one s (text "D02") (text "D2"), 2)
    ∷ (ends_in_one s (text "D03") (text "D3"), 3)
    ∷ [])
    0

-- how many bytes its code has
unfoldable pub operation_length : List ℕ → ℕ
operation_length s = pick (byte "D" (get_or s (length s - 2) 0)) 2 3

-- the end of the file (decision 486)
unfoldable pub is_end : List ℕ → Bool
is_end s = s is "M02" or s is "M2"
