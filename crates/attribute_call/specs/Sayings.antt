-- What a command says of the attribute that is asked, TA or TO and its name (01, State; decisions 107 to 112).
use Rattle.std.specs.Prelude.{ℕ, ◌+◌, ◌-◌, Bool, true, false, not, List, ltb, take}
use Prim.Native.Char.{code}
use Rattle.std.proofs.Math.Seq.{slice}
use Rattle.base.specs.And.{◌and◌}
use Rattle.base.specs.Bytes.{same_bytes}
use Rattle.base.specs.Choose.{pick}
use Rattle.base.specs.Or.{◌or◌}
use Rattle.text.specs.First.{place}
use Rattle.text.specs.Text.{◌begins◌}
use Rattle.command.specs.declared.Span.{Span}
use Rattle.command.specs.declared.Deed.{Deed}
use Rattle.command.specs.declared.Deed.TheVariants as deed
use Rattle.command.specs.declared.Command.{Command}
use Rattle.command.specs.declared.Command.TheVariants.{Broken, Note, End, Set, Operate, Coded, Select, Define, Contain, Attribute}
use Rattle.sequence.specs.declared.Placed.{Placed}
use Rattle.attribute_call.specs.declared.Kind.{Kind}
use Rattle.attribute_call.specs.declared.Kind.TheVariants.{Aperture, Object}
use Rattle.attribute_call.specs.declared.Saying.{Saying}
use Rattle.attribute_call.specs.declared.Saying.TheVariants.{Silent, Deletes, Sets}

-- a command's text
abbrev pub text_of : List ℕ → Placed → List ℕ
text_of file c = slice c.from c.end file

-- the bytes after the first comma of a command, up to its `*`; 0 and 0 without one (decisions 112 and 212)
unfoldable pub value_in : List ℕ → ℕ → Saying
value_in s from =
    let comma : ℕ = place (code ",") s from in
    let star : ℕ = place (code "*") s from in
    pick (ltb comma star) (Sets (comma + 1) (star - (comma + 1))) (Sets 0 0)

-- a part of the text is the name asked, byte for byte
abbrev pub named : List ℕ → Span → List ℕ → Bool
named text n name = same_bytes (slice n.from n.to text) name

-- TA is asked, not TO
unfoldable pub asks_ta : Kind → Bool
asks_ta Aperture = true
asks_ta Object = false

-- the two kinds are held apart, and TD speaks of both; TF, of neither
unfoldable pub saying : Kind → List ℕ → List ℕ → Saying → Deed → Saying
saying kind name text value (deed.SetFile n v) = Silent
saying kind name text value (deed.SetAperture n v) = pick (asks_ta kind and named text n name) value Silent
saying kind name text value (deed.SetObject n v) = pick (not (asks_ta kind) and named text n name) value Silent
saying kind name text value (deed.Delete n) = pick (named text n name) Deletes Silent
saying kind name text value deed.DeleteAll = Deletes

-- every other command is silent
unfoldable pub spoken : Kind → List ℕ → List ℕ → Saying → Command → Saying
spoken kind name text value (Attribute d) = saying kind name text value d
spoken kind name text value (Broken flaw) = Silent
spoken kind name text value Note = Silent
spoken kind name text value End = Silent
spoken kind name text value (Set s) = Silent
spoken kind name text value (Operate o) = Silent
spoken kind name text value (Coded code o) = Silent
spoken kind name text value (Select n) = Silent
spoken kind name text value (Define d) = Silent
spoken kind name text value (Contain b) = Silent

-- what a command says of the name
unfoldable pub saying_of : List ℕ → Kind → List ℕ → Placed → Saying
saying_of file kind name c = spoken kind name (text_of file c) (value_in (take c.end file) c.from) c.command

-- TO is taken at any command, TA at AD and at an AB opening, whatever their numbers are (decisions 109, 111 and 211)
unfoldable pub taken_at : Kind → List ℕ → Bool
taken_at Object text = true
taken_at Aperture text = text begins "AD" or text begins "ABD"
