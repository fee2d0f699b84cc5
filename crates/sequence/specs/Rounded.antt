-- How many decimals of a file were rounded: "an accepted reading reports how many decimals were rounded, each written one counted once"
-- (02, [1]). A macro's stand in its AM, and are counted there alone.
use Rattle.std.specs.Prelude.{ℕ, ◌+◌, List, [], ◌∷◌}
use Rattle.book.specs.declared.Book.{Book}
use Rattle.command.specs.Rounded.{rounded_of}
use Rattle.sequence.specs.Commands.{commands_of}
use Rattle.sequence.specs.declared.Placed.{Placed}

unfoldable pub rounded_among : List Placed → ℕ
rounded_among [] = 0
rounded_among (c ∷ cs) = rounded_of c.command + rounded_among cs

unfoldable pub rounded_in : Book → List ℕ → ℕ
rounded_in book file = rounded_among (commands_of book file).commands
