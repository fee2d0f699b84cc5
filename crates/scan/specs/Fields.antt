-- Where letters beyond ASCII may stand, by the rule: nowhere, or in a command's field (02, requests [8] and [9]; decisions 401 and 510).
use Rattle.std.specs.Prelude.{ℕ, Bool, true, false, List}
use Rattle.base.specs.And.{◌and◌}
use Rattle.fields.specs.Fields.{field_has}
use Rattle.book.specs.declared.Book.{Book}
use Rattle.book.specs.declared.Letters.{Letters}
use Rattle.book.specs.declared.Letters.TheVariants.{Old, New}

-- the rule lets letters in
abbrev pub is_new : Letters → Bool
is_new Old = false
is_new New = true

-- and place i is in the field of the command that these bytes begin with, the first of them at `at`
unfoldable pub in_field : Book → List ℕ → ℕ → ℕ → Bool
in_field book s at i = is_new book.letters and field_has book s at i
