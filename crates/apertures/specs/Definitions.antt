-- AD: `ADD`, a number, a name, and after a comma decimals parted by X (01, Form; decisions 24, 34, 35 and 45).
use Rattle.std.specs.Prelude.{ℕ, not, List, leb, length, drop}
use Prim.Native.Char.{code}
use Rattle.std.proofs.Math.Seq.{slice}
use Rattle.base.specs.Or.{◌or◌}
use Rattle.digits.specs.Digits.{past_digits}
use Rattle.text.specs.First.{place}
use Rattle.text.specs.Name.{is_name}
use Rattle.text.specs.Text.{◌begins◌}
use Rattle.base.specs.Choose.{pick}
use Rattle.command.specs.Numbers.{judged, aperture_number}
use Rattle.command.specs.Span.{span}
use Rattle.command.specs.declared.Number.{Number}
use Rattle.command.specs.declared.Command.{Command}
use Rattle.command.specs.declared.Command.TheVariants.{Define}
use Rattle.command.specs.declared.Definition.TheVariants.{Aperture}
use Rattle.command.specs.Flaws.{not_form}
use Rattle.apertures.specs.Parameters.{parameters_of}
use Rattle.apertures.specs.declared.Parameters.{Parameters}

-- the number from 3 to p, the name from p to q, the parameters from q on; more than 64 of them are 5
unfoldable pub definition : List ℕ → ℕ → ℕ → Command
definition s p q =
    let n : Number = aperture_number (slice 3 p s) in
    let ps : Parameters = parameters_of (drop q s) in
    judged (n.formless or not (is_name (slice p q s)) or ps.formless) (n.long or ps.long or leb 65 ps.count)
    (Define (Aperture n.value (span p q) (span q (length s)) ps.rounded))

-- the number ends at the first byte that is no digit, the name at the comma
unfoldable pub aperture_of : List ℕ → Command
aperture_of s =
    let p : ℕ = past_digits s 3 in
    pick (s begins "ADD") (definition s p (place (code ",") s p)) not_form
