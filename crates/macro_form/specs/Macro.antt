-- AM: its name, then its blocks, each ended by `*` (01, Form and Macros); the lowest number of the whole command decides (decision 58),
-- and whether it is too deep is told with it, since 7 and 8 come before 15 (decision 78).
use Rattle.std.specs.Prelude.{ℕ, ◌+◌, ◌-◌, not, List, ltb, length, take, drop}
use Prim.Native.Char.{code}
use Rattle.std.proofs.Math.Seq.{slice}
use Rattle.base.specs.And.{◌and◌}
use Rattle.base.specs.Or.{◌or◌}
use Rattle.text.specs.First.{place}
use Rattle.text.specs.Name.{is_name}
use Rattle.text.specs.Text.{◌begins◌, ◌ends◌}
use Rattle.base.specs.Choose.{pick}
use Rattle.command.specs.Numbers.{judged}
use Rattle.command.specs.Span.{span}
use Rattle.command.specs.declared.Command.{Command}
use Rattle.command.specs.declared.Command.TheVariants.{Define}
use Rattle.command.specs.declared.Definition.TheVariants.{Macro}
use Rattle.command.specs.Flaws.{not_form}
use Rattle.macro_tokens.specs.LineEnds.{without_trailing}
use Rattle.macro_form.specs.Blocks.{blocks_form}
use Rattle.macro_form.specs.declared.Form.{Form}

-- t ends with the last block's `*`, u is what stands before it, and q the place of the name's `*`
unfoldable pub headed : List ℕ → List ℕ → ℕ → Command
headed t u q =
    let f : Form = blocks_form (drop q u) in
    judged (not (t ends "*" and (u begins "AM" and is_name (slice 2 q u))) or f.formless) f.long
    (Define (Macro (span 2 q) (span (q + 1) (length u)) f.deep f.rounded))

-- without a `*` after the name's there is no block
unfoldable pub macro_of : List ℕ → Command
macro_of s =
    let t : List ℕ = without_trailing s in
    let u : List ℕ = take (length t - 1) t in
    let q : ℕ = place (code "*") u 2 in
    pick (ltb q (length u)) (headed t u q) not_form
