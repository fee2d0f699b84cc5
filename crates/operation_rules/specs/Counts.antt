-- How many items the open block, or the sheet, has (01, number 16; decisions 99 and 100).
use Rattle.std.specs.Prelude.{ℕ, ◌+◌, ◌*◌, Bool, cond, not, eqb, leb}
use Rattle.graphics.specs.Level.{repeat}
use Rattle.graphics.specs.declared.Level.{Level}

-- 10^12
abbrev pub most : ℕ
most = 1_000_000_000_000

-- with n more: in a repeat "SR copies counted, the sheet", else the open block or the sheet alone
unfoldable pub counted : Level → ℕ → ℕ
counted l n = cond (eqb l.inside repeat) (l.sheet + l.copies * (l.items + n)) (l.items + n)

unfoldable pub too_many : Level → ℕ → Bool
too_many l n = not (leb (counted l n) most)
