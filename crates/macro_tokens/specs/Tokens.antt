-- What the words of an expression are (01, Macros; decisions 64, 66 and 67).
use Rattle.std.specs.Prelude.{ℕ, ◌+◌, true, false, cond, not, List, [], ◌∷◌, map, eqb, leb, ltb, length, drop, get_or, Err, Ok, Result}
use Rattle.std.proofs.Math.Seq.{slice}
use Rattle.base.specs.Or.{◌or◌}
use Rattle.digits.specs.Natural.{natural_of}
use Rattle.text.specs.First.{first}
use Rattle.text.specs.Text.{byte}
use Rattle.base.specs.Choose.{choose}
use Rattle.command.specs.Numbers.{size_of}
use Rattle.command.specs.declared.Number.{Number}
use Rattle.macro_tokens.specs.Words.{numeral, joins, words}
use Rattle.macro_tokens.specs.declared.Lexeme.{Lexeme}
use Rattle.macro_tokens.specs.declared.Token.{Token}
use Rattle.macro_tokens.specs.declared.Token.TheVariants.{End, Number as Numeral, Variable, Plus, Minus, Times, Over, Open, Close, Unknown}
use Rattle.digits.specs.declared.answers.NumberError.TheVariants as number_error
use Rattle.digits.specs.declared.answers.NumberError.{NumberError}

-- `$n` with n 1 to 64, leading zeros allowed; another n is 5, no digit 4
unfoldable pub variable_of : Result ℕ NumberError → Number
variable_of (Err number_error.NotForm) = record { formless = true; long = false; value = 0 }
variable_of (Err number_error.TooLong) = record { formless = false; long = true; value = 0 }
variable_of (Ok n) = record { formless = false; long = eqb n 0 or leb 65 n; value = n }

abbrev pub variable_number : List ℕ → Number
variable_number t = variable_of (natural_of t)

-- numbers are decimals without a sign
unfoldable pub token_of : List ℕ → Token
token_of w =
    let b : ℕ = get_or w 0 0 in
    choose
    ((numeral b, Numeral (size_of w))
    ∷ (byte "$" b, Variable (variable_number (drop 1 w)))
    ∷ (byte "+" b, Plus)
    ∷ (byte "-" b, Minus)
    ∷ (byte "x" b, Times)
    ∷ (byte "/" b, Over)
    ∷ (byte "(" b, Open)
    ∷ (byte ")" b, Close)
    ∷ [])
    Unknown

unfoldable pub tokens : List ℕ → List Token
tokens s = map token_of (words s)

-- the word at a place ends where the run of digits and points after its first byte does, if they belong to it
unfoldable pub word_end : List ℕ → ℕ → ℕ
word_end s at = cond (joins (get_or s at 0)) (first (λ b. not (numeral b)) s (at + 1)) (at + 1)

-- the first token of what stands from a place on, and where the others do
unfoldable pub lexed : List ℕ → ℕ → Lexeme
lexed s at =
    cond (ltb at (length s))
    (record { token = token_of (slice at (word_end s at) s); next = word_end s at })
    (record { token = End; next = at })
