-- TF, TA, TO and TD (01, Form and State; decisions 19, 20, 32, 33, 36 and 112). A data block holds no `*` and no `%`, and so any of its
-- bytes may stand in a value.
use Rattle.std.specs.Prelude.{ℕ, ◌+◌, List, [], ◌∷◌, ltb, length, drop}
use Prim.Native.Char.{code}
use Rattle.std.proofs.Math.Seq.{slice}
use Rattle.base.specs.And.{◌and◌}
use Rattle.text.specs.First.{place}
use Rattle.text.specs.Name.{is_name}
use Rattle.text.specs.Text.{◌is◌, ◌begins◌}
use Rattle.base.specs.Choose.{pick, choose}
use Rattle.command.specs.Span.{span}
use Rattle.command.specs.declared.Span.{Span}
use Rattle.command.specs.declared.Command.{Command}
use Rattle.command.specs.declared.Command.TheVariants.{Attribute}
use Rattle.command.specs.declared.Deed.TheVariants.{SetFile, SetAperture, SetObject, Delete, DeleteAll}
use Rattle.command.specs.Flaws.{not_form}

-- the bytes after the name's comma, in a text of this length; at 0 to 0 without one
unfoldable pub value_of : ℕ → ℕ → Span
value_of comma length = pick (ltb comma length) (span (comma + 1) length) (span 0 0)

-- two letters, a name, and the value after its first comma
unfoldable pub attribute_of : List ℕ → Command
attribute_of s =
    let comma : ℕ = place (code ",") s 2 in
    let name : Span = span 2 comma in
    let value : Span = value_of comma (length s) in
    pick (is_name (slice 2 comma s))
    (choose
    ((s begins "TF", Attribute (SetFile name value))
    ∷ (s begins "TA", Attribute (SetAperture name value))
    ∷ (s begins "TO", Attribute (SetObject name value))
    ∷ [])
    not_form)
    not_form

-- `TD` alone, or with a name
unfoldable pub deletion_of : List ℕ → Command
deletion_of s =
    choose
    ((s is "TD", Attribute DeleteAll)
    ∷ (s begins "TD" and is_name (drop 2 s), Attribute (Delete (span 2 (length s))))
    ∷ [])
    not_form
