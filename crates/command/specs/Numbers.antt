-- Numbers of commands, and 01's numbers 4 and 5.
use Rattle.std.specs.Prelude.{ℕ, Bool, true, false, List, ltb, leb, pos, Err, Ok, Result}
use Rattle.decimal.specs.Decimal.{decimal_of}
use Rattle.digits.specs.Natural.{natural_of}
use Rattle.base.specs.Choose.{pick}
use Rattle.command.specs.declared.Number.{Number}
use Rattle.command.specs.declared.Size.{Size}
use Rattle.command.specs.declared.Command.{Command}
use Rattle.command.specs.Flaws.{not_form, too_long}
use Rattle.digits.specs.declared.answers.NumberError.TheVariants as number_error
use Rattle.digits.specs.declared.answers.NumberError.{NumberError}
use Rattle.decimal.specs.declared.answers.Decimal.{Decimal}

-- within one command the lowest number decides: 4 anywhere in it before 5 (decision 43)
unfoldable pub judged : Bool → Bool → Command → Command
judged formless long c = pick formless not_form (pick long too_long c)

-- aperture numbers are 10 to 2,147,483,647, leading zeros allowed; below 10 is 4, above is 5 (01, Form; decision 24)
unfoldable pub in_range : Result ℕ NumberError → Number
in_range (Err number_error.NotForm) = record { formless = true; long = false; value = 0 }
in_range (Err number_error.TooLong) = record { formless = false; long = true; value = 0 }
in_range (Ok n) = record { formless = ltb n 10; long = leb 2147483648 n; value = n }

abbrev pub aperture_number : List ℕ → Number
aperture_number t = in_range (natural_of t)

-- SR's n is digits alone; one of 10^12 or more counts as 10^12, which is out of its bounds too (decisions 37 and 44)
unfoldable pub any_size : Result ℕ NumberError → Number
any_size (Err number_error.NotForm) = record { formless = true; long = false; value = 0 }
any_size (Err number_error.TooLong) = record { formless = false; long = false; value = 1000000000000 }
any_size (Ok n) = record { formless = false; long = false; value = n }

abbrev pub copies_of : List ℕ → Number
copies_of t = any_size (natural_of t)

-- a decimal that is none is 4, one too long is 5; any other tells whether it was rounded (02, [1])
unfoldable pub sized_as : Result Decimal NumberError → Size
sized_as (Err number_error.NotForm) = record { formless = true; long = false; rounded = false; value = record { millionths = pos 0 } }
sized_as (Err number_error.TooLong) = record { formless = false; long = true; rounded = false; value = record { millionths = pos 0 } }
sized_as (Ok d) = record { formless = false; long = false; rounded = d.rounded; value = d.amount }

abbrev pub size_of : List ℕ → Size
size_of t = sized_as (decimal_of t)
