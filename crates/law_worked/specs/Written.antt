-- Written numbers and what they say: decimals, coordinates with the most digits they may have, and numbers of digits alone
-- (decisions 24, 29, 40, 41, 42, 47).
use Rattle.std.specs.Prelude.{ℕ, true, false, List, [], ◌∷◌, ℤ, pos, neg_ℤ, Err, Ok, Result}
use Prim.Native.String.{String}
use Rattle.text.specs.Text.{text}
use Rattle.digits.specs.Coordinate.{coordinate_of}
use Rattle.digits.specs.Natural.{natural_of}
use Rattle.decimal.specs.Decimal.{decimal_of}
use Rattle.digits.specs.declared.answers.NumberError.TheVariants as number_error
use Rattle.digits.specs.declared.answers.NumberError.{NumberError}
use Rattle.decimal.specs.declared.answers.Decimal.{Decimal}

pub data Row : Type 0 where
  decimal_says : String → Result Decimal NumberError → Row
  coordinate_says : String → ℕ → Result ℤ NumberError → Row
  natural_says : String → Result ℕ NumberError → Row

-- exactly so much, or rounded to it
unfoldable pub worth : ℤ → Result Decimal NumberError
worth z = Ok (record { amount = record { millionths = z }; rounded = false })

unfoldable pub rounds : ℤ → Result Decimal NumberError
rounds z = Ok (record { amount = record { millionths = z }; rounded = true })

unfoldable pub table : List Row
table =
    decimal_says "1.5" (worth (pos 1500000))
    ∷ decimal_says "-.25" (worth (neg_ℤ (pos 250000)))
    ∷ decimal_says "+5." (worth (pos 5000000))
    ∷ decimal_says "0000001.5000000" (worth (pos 1500000))
    ∷ decimal_says "-0" (worth (pos 0))
    ∷ decimal_says "999999.999999" (worth (pos 999999999999))
    ∷ decimal_says "1000000" (Err number_error.TooLong)
    ∷ decimal_says "0.1234567" (rounds (pos 123457))
    ∷ decimal_says "0.12345678" (rounds (pos 123457))
    ∷ decimal_says "0.1234560000000000000000000" (worth (pos 123456))
    ∷ decimal_says "0.0000005" (rounds (pos 1))
    ∷ decimal_says "-0.0000005" (rounds (neg_ℤ (pos 1)))
    ∷ decimal_says "0.000000499999999999" (rounds (pos 0))
    ∷ decimal_says "-0.0000004999" (rounds (pos 0))
    ∷ decimal_says "1.999999500000000001" (rounds (pos 2000000))
    ∷ decimal_says "0.00000000000000000100" (rounds (pos 0))
    ∷ decimal_says "0.0000000000000000001" (Err number_error.TooLong)
    ∷ decimal_says "999999.9999994" (rounds (pos 999999999999))
    ∷ decimal_says "999999.9999995" (Err number_error.TooLong)
    ∷ decimal_says "-999999.9999995" (Err number_error.TooLong)
    ∷ decimal_says "1000000.0000001" (Err number_error.TooLong)
    ∷ decimal_says "" (Err number_error.NotForm)
    ∷ decimal_says "-" (Err number_error.NotForm)
    ∷ decimal_says "." (Err number_error.NotForm)
    ∷ decimal_says "1.2.3" (Err number_error.NotForm)
    ∷ decimal_says "--1" (Err number_error.NotForm)
    ∷ decimal_says "12345678x" (Err number_error.NotForm)
    ∷ coordinate_says "-1500000" 9 (Ok (neg_ℤ (pos 1500000)))
    ∷ coordinate_says "-0" 7 (Ok (pos 0))
    ∷ coordinate_says "+000000001" 9 (Ok (pos 1))
    ∷ coordinate_says "0000000001" 9 (Err number_error.TooLong)
    ∷ coordinate_says "999999999999" 12 (Ok (pos 999999999999))
    ∷ coordinate_says "1000000000000" 12 (Err number_error.TooLong)
    ∷ coordinate_says "-" 12 (Err number_error.NotForm)
    ∷ coordinate_says "1.5" 12 (Err number_error.NotForm)
    ∷ natural_says "0010" (Ok 10)
    ∷ natural_says "999999999999" (Ok 999999999999)
    ∷ natural_says "1000000000000" (Err number_error.TooLong)
    ∷ natural_says "00000000000000000000000000000007" (Ok 7)
    ∷ natural_says "99999999999999999999999999999999" (Err number_error.TooLong)
    ∷ natural_says "+1" (Err number_error.NotForm)
    ∷ natural_says "" (Err number_error.NotForm)
    ∷ []

-- the row as the definitions have it
unfoldable pub read : Row → Row
read (decimal_says s r) = decimal_says s (decimal_of (text s))
read (coordinate_says s n r) = coordinate_says s n (coordinate_of (text s) n)
read (natural_says s r) = natural_says s (natural_of (text s))
