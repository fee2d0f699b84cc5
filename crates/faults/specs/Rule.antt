-- The rules by their numbers (01, Numbers the reader answers; 02, [7] and [9]).
use Rattle.std.specs.Prelude.{ℕ, cond, Result, Ok, Err, ⊤}
use Rattle.faults.specs.Order.{tested_before}
use Rattle.faults.specs.declared.Rule.{Rule}
use Rattle.faults.specs.declared.Rule.TheVariants.{
  NotOfForm,
  OutOfRange,
  Header,
  Misplaced,
  UnknownOrTaken,
  Undefined,
  Parameter,
  Misfit,
  BadCentre,
  Unclosed,
  Askew,
  TooDeep,
  TooMany,
  NoRoom,
  NameTwice,
  Moveless,
  Unread,
  Centreless,
}

unfoldable pub number_of_rule : Rule → ℕ
number_of_rule NotOfForm = 4
number_of_rule OutOfRange = 5
number_of_rule Header = 6
number_of_rule Misplaced = 7
number_of_rule UnknownOrTaken = 8
number_of_rule Undefined = 9
number_of_rule Parameter = 10
number_of_rule Misfit = 11
number_of_rule BadCentre = 12
number_of_rule Unclosed = 13
number_of_rule Askew = 14
number_of_rule TooDeep = 15
number_of_rule TooMany = 16
number_of_rule NoRoom = 17
number_of_rule NameTwice = 19
number_of_rule Moveless = 29
number_of_rule Unread = 30
number_of_rule Centreless = 31

-- 0 where no rule is broken
unfoldable pub number_told : Result ⊤ Rule → ℕ
number_told (Ok _) = 0
number_told (Err rule) = number_of_rule rule

-- of the faults of a code, if there is one, and of the operation after it, the one tested first
unfoldable pub first_of : Result ⊤ Rule → Rule → Rule
first_of (Ok _) b = b
first_of (Err a) b = cond (tested_before (number_of_rule b) (number_of_rule a)) b a
