-- Well-formed UTF-8 from U+0080 up (02, request [8]; decision 403; the Unicode standard, table 3-7).
use Rattle.std.specs.Prelude.{ℕ, zero, suc, ◌-◌, Bool, true, false, cond, List, [], ◌∷◌, leb, eqb}
use Rattle.base.specs.And.{◌and◌}
use Rattle.letters.specs.declared.Follow.{Follow}

-- a byte from low to high
unfoldable pub within : ℕ → ℕ → ℕ → Bool
within low high b = leb low b and leb b high

-- what must follow: `left` bytes, the first of them from low to high, the others from 80 to BF
abbrev pub follow : ℕ → ℕ → ℕ → Follow
follow low high left = record { low = low; high = high; left = left }

abbrev pub nothing : Follow
nothing = follow 0 0 0

-- a row of the table: the lead byte is one from `from` to `to`
pub record Row : Type 0 where
  pub from : ℕ
  pub to : ℕ
  pub behind : Follow

abbrev pub row : ℕ → ℕ → Follow → Row
row from to behind = record { from = from; to = to; behind = behind }

-- the second byte, and how many there are after the lead; each byte after the second is one from 80 to BF
unfoldable pub table : List Row
table =
    row 0xC2 0xDF (follow 0x80 0xBF 1)
    ∷ row 0xE0 0xE0 (follow 0xA0 0xBF 2)
    ∷ row 0xE1 0xEC (follow 0x80 0xBF 2)
    ∷ row 0xED 0xED (follow 0x80 0x9F 2)
    ∷ row 0xEE 0xEF (follow 0x80 0xBF 2)
    ∷ row 0xF0 0xF0 (follow 0x90 0xBF 3)
    ∷ row 0xF1 0xF3 (follow 0x80 0xBF 3)
    ∷ row 0xF4 0xF4 (follow 0x80 0x8F 3)
    ∷ []

-- the row of a lead byte; a byte that has none begins nothing
unfoldable pub lead_in : List Row → ℕ → Follow
lead_in [] b = nothing
lead_in (r ∷ rows) b = cond (within r.from r.to b) r.behind (lead_in rows b)

unfoldable pub lead_of : ℕ → Follow
lead_of b = lead_in table b

-- the bytes that must follow are there
unfoldable pub follows : ℕ → ℕ → ℕ → List ℕ → Bool
follows low high zero s = true
follows low high (suc left) [] = false
follows low high (suc left) (b ∷ s) = within low high b and follows 0x80 0xBF left s

abbrev pub is_whole : Follow → Bool
is_whole f = eqb f.left 0

-- one byte of them, and what must follow it
unfoldable pub takes : Follow → ℕ → Bool
takes f b = within f.low f.high b

unfoldable pub fed : Follow → Follow
fed f = follow 0x80 0xBF (f.left - 1)

-- a lead and so many bytes after it, where they are there
unfoldable pub whole_of : ℕ → Bool → ℕ
whole_of zero there = 0
whole_of (suc left) there = cond there (suc (suc left)) 0

-- the length of the well-formed sequence that these bytes begin with, 0 where they begin with none
unfoldable pub letter_in : List ℕ → ℕ
letter_in [] = 0
letter_in (b ∷ s) = whole_of (lead_of b).left (follows (lead_of b).low (lead_of b).high (lead_of b).left s)
