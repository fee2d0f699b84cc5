-- Why a command cannot be read: 4 and 5 (01, Numbers the reader answers), and 30 of the old book (02, [9]).
use Rattle.std.specs.Prelude.{ℕ}
use Rattle.command.specs.declared.Command.{Command}
use Rattle.command.specs.declared.Command.TheVariants.{Broken}
use Rattle.command.specs.declared.Flaw.{Flaw}
use Rattle.command.specs.declared.Flaw.TheVariants.{NotForm, Unread, TooLong}

-- "command unknown or not of its form"; 30 "for its AS, MI, OF, SF, IP, IR, KO, LN and SM, or 7 places"; "number too long or outside its
-- range"
unfoldable pub flaw_number : Flaw → ℕ
flaw_number NotForm = 4
flaw_number Unread = 30
flaw_number TooLong = 5

abbrev pub not_form : Command
not_form = Broken NotForm

abbrev pub unread : Command
unread = Broken Unread

abbrev pub too_long : Command
too_long = Broken TooLong
