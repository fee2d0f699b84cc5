-- "AD evaluates": a macro's blocks are worked out in order, the first at fault decides, in it 9 before 10 (01; decisions 58 to 62, 71, 77).
use Rattle.std.specs.Prelude.{ℕ, ◌-◌, Bool, true, false, cond, List, [], ◌∷◌, ◌++◌, eqb, ℤ, pos, length, take, drop, get_or, set, None, Option, Some}
use Prim.Native.Char.{code}
use Rattle.text.specs.First.{place, before, after}
use Rattle.text.specs.Text.{byte}
use Rattle.base.specs.Choose.{choose}
use Rattle.macro_tokens.specs.LineEnds.{without_leading}
use Rattle.text.specs.Pieces.{pieces}
use Rattle.macro_tokens.specs.Tokens.{variable_number}
use Rattle.expression.specs.Value.{value_of}
use Rattle.primitives.specs.Asked.{none, asked}
use Rattle.primitives.specs.Heading.{heading}
use Rattle.primitives.specs.Rules.{code_of, keeps}

-- the texts of a primitive's parameters, from its first comma on; those of a macro's blocks, from the `*` before the first of them on
abbrev pub parameters_in : List ℕ → List (List ℕ)
parameters_in = pieces (code ",")

abbrev pub blocks_in : List ℕ → List (List ℕ)
blocks_in = pieces (code "*")

-- the values of expressions, up to the first that has none
pub record Values : Type 0 where
  pub fine : Bool
  pub values : List ℤ

unfoldable pub onward : Option ℤ → Values → Values
onward None vs = record { fine = false; values = [] }
onward (Some z) vs = record { fine = vs.fine; values = z ∷ vs.values }

unfoldable pub values_of : List ℤ → List (List ℕ) → Values
values_of variables [] = record { fine = true; values = [] }
values_of variables (t ∷ ts) = onward (value_of variables (without_leading t)) (values_of variables ts)

-- what a block does: its fault, 0 for none; the variables after it; the numbers that it leaves: before the parameters, which
-- are in millionths, one that says the code and how many they are
pub record Effect : Type 0 where
  pub fault : ℕ
  pub variables : List ℤ
  pub written : List ℤ

-- all expressions of a primitive are worked out before its rule is asked
unfoldable pub verdict : Bool → Bool → ℕ
verdict fine kept = cond fine (cond kept 0 10) 9

unfoldable pub primitive_done : List ℤ → List ℕ → Effect
primitive_done variables t =
    let comma : ℕ = place (code ",") t 0 in
    let vs : Values = values_of variables (parameters_in (drop comma t)) in
    let c : ℕ = code_of (take comma t) in
    record { fault = verdict vs.fine (keeps c (asked none vs.values)); variables = variables; written = pos (heading c (length vs.values)) ∷ vs.values }

-- an assignment replaces the old value
unfoldable pub assigned : List ℤ → ℕ → Option ℤ → Effect
assigned variables n None = record { fault = 9; variables = variables; written = [] }
assigned variables n (Some z) = record { fault = 0; variables = set variables (n - 1) z; written = [] }

unfoldable pub assignment_done : List ℤ → List ℕ → Effect
assignment_done variables t =
    assigned variables (variable_number (drop 1 (before "=" t))).value (value_of variables (after "=" t))

-- a comment does nothing
unfoldable pub block_done : List ℤ → List ℕ → Effect
block_done variables s =
    let t : List ℕ = without_leading s in
    choose
    ((byte "0" (get_or t 0 0), record { fault = 0; variables = variables; written = [] })
    ∷ (byte "$" (get_or t 0 0), assignment_done variables t)
    ∷ [])
    (primitive_done variables t)

-- the blocks in order, up to the first at fault
unfoldable pub behind : Effect → Effect → Effect
behind d e = record { fault = e.fault; variables = e.variables; written = d.written ++ e.written }

unfoldable pub worked_out : List ℤ → List (List ℕ) → Effect
worked_out variables [] = record { fault = 0; variables = variables; written = [] }
worked_out variables (s ∷ ss) =
    elim (eqb (block_done variables s).fault 0) [
      | true ↦ behind (block_done variables s) (worked_out (block_done variables s).variables ss)
      | false ↦ block_done variables s
    ]
