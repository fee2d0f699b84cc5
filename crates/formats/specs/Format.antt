-- The format of coordinates (02, [9]; decisions 482 and 483): places before and after the point, which zeros are left out, the notation.
use Rattle.std.specs.Prelude.{ℕ, ◌+◌, Bool, false, not, cond, leb, eqb}
use Rattle.base.specs.And.{◌and◌}
use Rattle.formats.specs.declared.Format.{Format}

-- "integer and decimal places 0 to 6 each with at least one in all"
unfoldable pub is_format : Format → Bool
is_format f = leb f.integers 6 and leb f.decimals 6 and not (eqb f.integers 0 and eqb f.decimals 0)

-- the newer edition's: n before the point, six after it, leading zeros left out, absolute
unfoldable pub newer : ℕ → Format
newer n = record { integers = n; decimals = 6; trailing = false; incremental = false }

-- none is given yet
unfoldable pub no_format : Format
no_format = record { integers = 0; decimals = 0; trailing = false; incremental = false }

-- the format that coordinates are read by: before FS twelve digits, as they are written
unfoldable pub in_force : Format → Format
in_force f = cond (is_format f) f (newer 6)

-- "1 to n+m digits as written, 12 before FS"
unfoldable pub places_of : Format → ℕ
places_of f = f.integers + f.decimals

-- the same where the value of a coordinate is that of its digits as they are written, for leading zeros are left out and six places stand
-- after the point; 0 in any other format
unfoldable pub exact_places : Format → ℕ
exact_places f = cond (not (in_force f).trailing and eqb (in_force f).decimals 6) (places_of (in_force f)) 0
