-- The parameters of an AD (01, Form; decisions 34 and 45; 02, [1]).
use Rattle.std.specs.Prelude.{ℕ, ◌+◌, false, List, [], ◌∷◌}
use Prim.Native.Char.{code}
use Rattle.base.specs.Or.{◌or◌}
use Rattle.text.specs.Pieces.{pieces}
use Rattle.command.specs.Numbers.{size_of}
use Rattle.command.specs.Rounded.{counted}
use Rattle.command.specs.declared.Size.{Size}
use Rattle.apertures.specs.declared.Parameters.{Parameters}

-- one more
unfoldable pub more : Parameters → Size → Parameters
more p d =
    record {
      formless = p.formless or d.formless;
      long = p.long or d.long;
      count = p.count + 1;
      rounded = p.rounded + counted d.rounded;
    }

unfoldable pub gathered : Parameters → List (List ℕ) → Parameters
gathered p [] = p
gathered p (t ∷ ts) = gathered (more p (size_of t)) ts

-- of the text from the comma on: whether one of them is no decimal, whether one is too long, how many there are, and how many were rounded
unfoldable pub parameters_of : List ℕ → Parameters
parameters_of s = gathered (record { formless = false; long = false; count = 0; rounded = 0 }) (pieces (code "X") s)
