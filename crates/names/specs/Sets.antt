-- What a command sets of the file's attributes (01, State).
use Rattle.std.specs.Prelude.{None, Option, Some}
use Rattle.command.specs.declared.Command.{Command}
use Rattle.command.specs.declared.Command.TheVariants as cmd
use Rattle.command.specs.declared.Deed.{Deed}
use Rattle.command.specs.declared.Deed.TheVariants as deed
use Rattle.command.specs.declared.Span.{Span}

-- TF sets a name, at this place of its text
unfoldable pub sets_by : Deed → Option Span
sets_by (deed.SetFile name value) = Some name
sets_by (deed.SetAperture name value) = None
sets_by (deed.SetObject name value) = None
sets_by (deed.Delete name) = None
sets_by deed.DeleteAll = None

-- no other command does
unfoldable pub sets_of : Command → Option Span
sets_of (cmd.Broken flaw) = None
sets_of cmd.Note = None
sets_of cmd.End = None
sets_of (cmd.Set s) = None
sets_of (cmd.Operate o) = None
sets_of (cmd.Coded code o) = None
sets_of (cmd.Select n) = None
sets_of (cmd.Define d) = None
sets_of (cmd.Contain b) = None
sets_of (cmd.Attribute d) = sets_by d
