-- The form of a macro's blocks: "One block at least, each a comment (first byte 0), `$n=` expression with n 1 to 64 (else 5), or
-- primitive"; "a primitive is a code of digits, then expressions, each after a comma" (01, Macros; decisions 58, 61 and 63).
-- The decimals of a macro are those of its expressions: a comment, a code and the number of a variable have none (02, [1]).
use Rattle.std.specs.Prelude.{ℕ, ◌+◌, false, not, List, [], ◌∷◌, take, drop, get_or}
use Prim.Native.Char.{code}
use Rattle.base.specs.Or.{◌or◌}
use Rattle.digits.specs.Digits.{is_number}
use Rattle.text.specs.First.{place, before, after}
use Rattle.text.specs.Text.{byte}
use Rattle.base.specs.Choose.{choose}
use Rattle.command.specs.declared.Number.{Number}
use Rattle.macro_tokens.specs.LineEnds.{without_leading}
use Rattle.text.specs.Pieces.{pieces}
use Rattle.macro_tokens.specs.Tokens.{variable_number}
use Rattle.macro_form.specs.Expression.{expression_form}
use Rattle.macro_form.specs.declared.Form.{Form}

unfoldable pub good : Form
good = record { formless = false; long = false; deep = false; rounded = 0 }

-- what is wrong with either of two texts, and the decimals of both that were rounded
unfoldable pub joined : Form → Form → Form
joined f g =
    record {
      formless = f.formless or g.formless;
      long = f.long or g.long;
      deep = f.deep or g.deep;
      rounded = f.rounded + g.rounded;
    }

-- the same of any number of texts
unfoldable pub gathered : (List ℕ → Form) → Form → List (List ℕ) → Form
gathered form f [] = f
gathered form f (t ∷ ts) = gathered form (joined f (form t)) ts

-- an expression of a primitive; CR and LF are skipped after its comma
unfoldable pub parameter_form : List ℕ → Form
parameter_form t = expression_form (without_leading t)

-- the code ends at the first comma
unfoldable pub primitive_form : List ℕ → Form
primitive_form t =
    let comma : ℕ = place (code ",") t 0 in
    gathered parameter_form
    (record { formless = not (is_number (take comma t)); long = false; deep = false; rounded = 0 })
    (pieces (code ",") (drop comma t))

unfoldable pub numbered : Number → Form
numbered n = record { formless = n.formless; long = n.long; deep = false; rounded = 0 }

-- without an `=` there is no expression
unfoldable pub assignment_form : List ℕ → Form
assignment_form t = joined (numbered (variable_number (drop 1 (before "=" t)))) (expression_form (after "=" t))

-- a block without its `*`; CR and LF are skipped before it
unfoldable pub block_form : List ℕ → Form
block_form s =
    let t : List ℕ = without_leading s in
    choose
    ((byte "0" (get_or t 0 0), good)
    ∷ (byte "$" (get_or t 0 0), assignment_form t)
    ∷ [])
    (primitive_form t)

-- the blocks, from the `*` before the first of them on
unfoldable pub blocks_form : List ℕ → Form
blocks_form s = gathered block_form good (pieces (code "*") s)
