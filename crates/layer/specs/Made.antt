-- What a command makes that a placement list asks about: an item by D01 or D03, an aperture by AD, a file attribute by TF (01, What is read).
use Rattle.command.specs.declared.Operation.{Operation}
use Rattle.command.specs.declared.Operation.TheVariants as operation
use Rattle.command.specs.declared.Definition.{Definition}
use Rattle.command.specs.declared.Definition.TheVariants as definition
use Rattle.command.specs.declared.Deed.{Deed}
use Rattle.command.specs.declared.Deed.TheVariants as deed
use Rattle.command.specs.declared.Command.{Command}
use Rattle.command.specs.declared.Command.TheVariants as cmd
use Rattle.layer.specs.declared.Made.{Made}
use Rattle.layer.specs.declared.Made.TheVariants.{Item, Aperture, File, Nothing}

unfoldable pub made_by_operation : Operation → Made
made_by_operation (operation.Draw x y o) = Item
made_by_operation (operation.Move x y) = Nothing
made_by_operation (operation.Flash x y) = Item

unfoldable pub made_by_definition : Definition → Made
made_by_definition (definition.Aperture n name ps rounded) = Aperture n
made_by_definition (definition.Macro name blocks deep rounded) = Nothing

unfoldable pub made_by_deed : Deed → Made
made_by_deed (deed.SetFile name value) = File name value
made_by_deed (deed.SetAperture name value) = Nothing
made_by_deed (deed.SetObject name value) = Nothing
made_by_deed (deed.Delete name) = Nothing
made_by_deed deed.DeleteAll = Nothing

unfoldable pub made_of : Command → Made
made_of (cmd.Operate o) = made_by_operation o
made_of (cmd.Define d) = made_by_definition d
made_of (cmd.Attribute d) = made_by_deed d
made_of (cmd.Broken flaw) = Nothing
made_of cmd.Note = Nothing
made_of cmd.End = Nothing
made_of (cmd.Set s) = Nothing
made_of (cmd.Select n) = Nothing
made_of (cmd.Contain b) = Nothing
made_of (cmd.Coded code o) = made_by_operation o
