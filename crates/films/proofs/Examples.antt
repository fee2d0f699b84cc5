-- Worked examples, computed: word commands of the old book, and data blocks that are not read.
-- Assumes nothing.
use mathlib.Core.Path.{◌≡◌, refl}
use mathlib.Core.Bool.{Bool, true, false}
use mathlib.Core.List.{List, [], ◌∷◌}
use Rattle.base.specs.And.{◌and◌}
use Rattle.base.specs.Or.{◌or◌}
use Rattle.base.specs.Bytes.{same_bytes}
use Rattle.base.specs.Choose.{pick}
use Rattle.text.specs.First.{first_in}
use Rattle.text.specs.Text.{text, among}
use Rattle.digits.specs.Digits.{is_digit}
use Rattle.films.specs.Codes.{later_codes, code_of, ends_in_one, operation_in, operation_length, is_end}
use Rattle.films.specs.Parameters.{is_refused}
use Rattle.films.specs.Words.{comment_of, operate_of, coded_of, general_of, miscellaneous_of, other_of, word_of}
use Rattle.films.specs.declared.Word.{Word}
use Rattle.films.specs.declared.Word.TheVariants.{NotForm, Note, Halt, End, Code, Select, Operate}

-- codes of one digit and of two, alone
alone :
    ◌≡◌ {A = List Word}
    (word_of (text "G1") ∷ word_of (text "G01") ∷ word_of (text "G74") ∷ word_of (text "G91") ∷ word_of (text "M0") ∷ word_of (text "M01") ∷ word_of (text "M02") ∷ word_of (text "M2") ∷ [])
    (Code 1 ∷ Code 1 ∷ Code 74 ∷ Code 91 ∷ Halt ∷ Halt ∷ End ∷ End ∷ [])
unfolding word_of general_of miscellaneous_of other_of coded_of operate_of comment_of code_of later_codes operation_in operation_length ends_in_one is_end pick among first_in same_bytes is_digit ◌and◌ ◌or◌
alone = refl

-- operations, with a code before them or none, with coordinates or none
operations :
    ◌≡◌ {A = List Word}
    (word_of (text "X1Y1D1") ∷ word_of (text "X1Y1D01") ∷ word_of (text "D3") ∷ word_of (text "G1X1Y1D1") ∷ word_of (text "G03X7Y0I4J0D01") ∷ word_of (text "G01D02") ∷ word_of (text "G37X0Y0D01") ∷ [])
    (Operate 0 1 0 4 ∷ Operate 0 1 0 4 ∷ Operate 0 3 0 0 ∷ Operate 1 1 2 6 ∷ Operate 3 1 3 11 ∷ Operate 1 2 3 3 ∷ Operate 37 1 3 7 ∷ [])
unfolding word_of general_of miscellaneous_of other_of coded_of operate_of comment_of code_of later_codes operation_in operation_length ends_in_one is_end pick among first_in same_bytes is_digit ◌and◌ ◌or◌
operations = refl

-- selections, of which the number is judged where it is read: `D001` and `G54D01` are below 10
selections :
    ◌≡◌ {A = List Word}
    (word_of (text "D10") ∷ word_of (text "D010") ∷ word_of (text "D001") ∷ word_of (text "G54D10") ∷ word_of (text "G54D01") ∷ [])
    (Select 1 ∷ Select 1 ∷ Select 1 ∷ Select 4 ∷ Select 4 ∷ [])
unfolding word_of general_of miscellaneous_of other_of coded_of operate_of comment_of code_of later_codes operation_in operation_length ends_in_one is_end pick among first_in same_bytes is_digit ◌and◌ ◌or◌
selections = refl

-- comments: `G4` where no digit follows, `G04` before anything
comments :
    ◌≡◌ {A = List Word}
    (word_of (text "G4") ∷ word_of (text "G4x") ∷ word_of (text "G04") ∷ word_of (text "G041") ∷ word_of (text "G40") ∷ word_of (text "G4%") ∷ [])
    (Note ∷ Note ∷ Note ∷ Note ∷ NotForm ∷ NotForm ∷ [])
unfolding word_of general_of miscellaneous_of other_of coded_of operate_of comment_of code_of later_codes operation_in operation_length ends_in_one is_end pick among first_in same_bytes is_digit ◌and◌ ◌or◌
comments = refl

-- what is not of its form; two G codes are an operation whose coordinates are not
formless :
    ◌≡◌ {A = List Word}
    (word_of (text "G001") ∷ word_of (text "G") ∷ word_of (text "G54") ∷ word_of (text "G54X1D01") ∷ word_of (text "G1D10") ∷ word_of (text "G1X1Y1") ∷ word_of (text "X1Y1") ∷ word_of (text "G55D10") ∷ word_of (text "G00") ∷ word_of (text "M002") ∷ word_of (text "N1") ∷ word_of []
    ∷ word_of (text "G1G2X1D1") ∷ [])
    (NotForm ∷ NotForm ∷ NotForm ∷ NotForm ∷ NotForm ∷ NotForm ∷ NotForm ∷ NotForm ∷ NotForm ∷ NotForm ∷ NotForm ∷ NotForm ∷ Operate 1 1 2 6 ∷ [])
unfolding word_of general_of miscellaneous_of other_of coded_of operate_of comment_of code_of later_codes operation_in operation_length ends_in_one is_end pick among first_in same_bytes is_digit ◌and◌ ◌or◌
formless = refl

-- data blocks that are 30, and some that are not
parameters :
    ◌≡◌ {A = List Bool}
    (is_refused (text "ASAXBY") ∷ is_refused (text "MIA0B0") ∷ is_refused (text "OFA0B0") ∷ is_refused (text "SFA1B1") ∷ is_refused (text "IPPOS") ∷ is_refused (text "IR0") ∷ is_refused (text "KO") ∷ is_refused (text "LNTOP") ∷ is_refused (text "SM")
    ∷ is_refused (text "LPD") ∷ is_refused (text "IJALBL") ∷ is_refused (text "S") ∷ is_refused [] ∷ [])
    (true ∷ true ∷ true ∷ true ∷ true ∷ true ∷ true ∷ true ∷ true ∷ false ∷ false ∷ false ∷ false ∷ [])
unfolding is_refused same_bytes ◌or◌
parameters = refl
