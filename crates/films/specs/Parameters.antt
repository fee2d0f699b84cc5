-- "30 for its AS, MI, OF, SF, IP, IR, KO, LN and SM" (02, [9]): a data block that begins with one of these (decision 486).
use Rattle.std.specs.Prelude.{ℕ, Bool, List}
use Rattle.base.specs.Or.{◌or◌}
use Rattle.text.specs.Text.{◌begins◌}

unfoldable pub is_refused : List ℕ → Bool
is_refused s =
    s begins "AS"
    or s begins "MI"
    or s begins "OF"
    or s begins "SF"
    or s begins "IP"
    or s begins "IR"
    or s begins "KO"
    or s begins "LN"
    or s begins "SM"
