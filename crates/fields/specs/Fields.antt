-- Where the field of a command is, in which letters beyond ASCII may stand: the fields of an attribute, and G04's text (02, requests [8] and [9];
-- decisions 401, 402 and 510).
use Rattle.std.specs.Prelude.{ℕ, ◌+◌, Bool, cond, not, List, leb, ltb, length, get_or}
use Rattle.base.specs.And.{◌and◌}
use Rattle.base.specs.Or.{◌or◌}
use Rattle.text.specs.First.{first_in}
use Rattle.text.specs.Text.{◌begins◌, byte}
use Rattle.digits.specs.Digits.{is_digit}
use Rattle.book.specs.Books.{is_old}
use Rattle.book.specs.declared.Book.{Book}

-- G04 as the old book may write it too: `G4` where no digit follows
unfoldable pub has_short_code : Book → List ℕ → Bool
has_short_code book s = is_old book and (s begins "G4" and not (is_digit (get_or s 2 0)))

-- of the command that these bytes begin with, the first of them at `at`: its field begins after the code of G04, or after the first comma of
-- `%TF`, `%TA`, `%TO`; past all of them where it has none
unfoldable pub field_from : Book → List ℕ → ℕ → ℕ
field_from book s at =
    cond (s begins "G04") (at + 3)
    (cond (has_short_code book s) (at + 2)
    (cond (s begins "%TF" or s begins "%TA" or s begins "%TO") (first_in (byte ",") s at + 1)
    (at + length s)))

-- and ends before its first `*`
unfoldable pub field_to : List ℕ → ℕ → ℕ
field_to s at = first_in (byte "*") s at

-- place i is in it
unfoldable pub field_has : Book → List ℕ → ℕ → ℕ → Bool
field_has book s at i = leb (field_from book s at) i and ltb i (field_to s at)
