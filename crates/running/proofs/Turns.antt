-- What is known of a command that stands next: its text lies in the file, its numbers and spans keep their bounds, and no more of its
-- decimals were rounded than it has bytes; M02 is the last; and a fault has a number.
-- Assumes nothing.
use Rattle.command.specs.Flaws.{flaw_number}
use Rattle.formats.specs.declared.Format.{Format}
use Prim.Native.Nat.{ℕ, ◌+◌, ◌≤◌}
use mathlib.Core.Path.{◌≡◌, refl}
use mathlib.Core.Bool.{false}
use mathlib.Core.List.{List}
use native.Mathlib.Omega.{arith}
use lib.Dec.{eqb}
use lib.ListN.{length}
use lib.Seq.{slice, length-slice}
use Rattle.scan.specs.Scan.{next_command}
use Rattle.book.specs.declared.Book.{Book}
use Rattle.scan.specs.declared.Scan.{Scan}
use Rattle.scan.specs.declared.Scan.TheVariants as scan
use Rattle.scan.proofs.Within.{Within, next_within}
use Rattle.command.specs.Rounded.{rounded_of}
use Rattle.command.specs.declared.Flaw.{Flaw}
use Rattle.command.specs.declared.Flaw.TheVariants as flaw
use Rattle.command.specs.declared.Setting.{Setting}
use Rattle.command.specs.declared.Setting.TheVariants as setting
use Rattle.command.specs.declared.Command.{Command}
use Rattle.command.specs.declared.Command.TheVariants as cmd
use Rattle.recognise.specs.Commands.{command_of}
use Rattle.sequence.specs.Leads.{lead_of_flaw, lead_of_setting, lead_of}
use Rattle.sequence.specs.Turns.{led, turned, turn_of}
use Rattle.sequence.specs.declared.Placed.{Placed}
use Rattle.sequence.specs.declared.Turn.{Turn}
use Rattle.sequence.specs.declared.Turn.TheVariants.{Fault, Last, More}
use Rattle.law_bounds.proofs.Bounds.{bounded}
use Rattle.law_bounds.proofs.Rounded.{rounded_within}
use Rattle.steps.specs.Steps.{Sound}

unfoldable pub SoundTurn : List ℕ → ℕ → Turn → Type 0
SoundTurn file at (Fault f) = eqb f.number 0 ≡ false
SoundTurn file at (Last c next) = Sound file c × (c.command ≡ cmd.End)
SoundTurn file at (More c m next) = Sound file c × (at + rounded_of c.command ≤ next)

module _ (file : List ℕ) (at : ℕ) (f : Format) (c : Placed) (next : ℕ) (s : Sound file c) (few : at + rounded_of c.command ≤ next) where
  led_flaw : (k : Flaw) → SoundTurn file at (led f c (lead_of_flaw k) next)
  unfolding SoundTurn led lead_of_flaw flaw_number
  led_flaw flaw.NotForm = refl
  led_flaw flaw.Unread = refl
  led_flaw flaw.TooLong = (s, few)

  led_setting : (x : Setting) → SoundTurn file at (led f c (lead_of_setting x) next)
  unfolding SoundTurn led lead_of_setting
  led_setting setting.Linear = (s, few)
  led_setting setting.Clockwise = (s, few)
  led_setting setting.Counterclockwise = (s, few)
  led_setting setting.SingleQuadrant = (s, few)
  led_setting setting.MultiQuadrant = (s, few)
  led_setting setting.Absolute = (s, few)
  led_setting setting.Incremental = (s, few)
  led_setting setting.CodedMillimetres = (s, few)
  led_setting setting.CodedInches = (s, few)
  led_setting setting.Halt = (s, few)
  led_setting setting.RegionStart = (s, few)
  led_setting setting.RegionEnd = (s, few)
  led_setting (setting.Format g) = (s, few)
  led_setting setting.Millimetres = (s, few)
  led_setting setting.Inches = (s, few)
  led_setting setting.Dark = (s, few)
  led_setting setting.Clear = (s, few)
  led_setting (setting.Mirror x y) = (s, few)
  led_setting (setting.Rotation a rounded) = (s, few)
  led_setting (setting.Scale a rounded) = (s, few)

  led_sound : (k : Command) → c.command ≡ k → SoundTurn file at (led f c (lead_of k) next)
  unfolding SoundTurn led lead_of
  led_sound (cmd.Broken k) q = led_flaw k
  led_sound cmd.Note q = (s, few)
  led_sound (cmd.Coded code o) q = (s, few)
  led_sound cmd.End q = (s, q)
  led_sound (cmd.Set x) q = led_setting x
  led_sound (cmd.Operate o) q = (s, few)
  led_sound (cmd.Select n) q = (s, few)
  led_sound (cmd.Define d) q = (s, few)
  led_sound (cmd.Contain b) q = (s, few)
  led_sound (cmd.Attribute d) q = (s, few)

turned_sound : (book : Book) (n : Format) (file : List ℕ) (at : ℕ) (s : Scan) → Within (length file) at s → SoundTurn file at (turned book n file s)
unfolding turned SoundTurn
turned_sound book n file at (scan.Command kind place from end next) (h, k, l, e, m) =
    let t : List ℕ = slice from end file in
    led_sound file at n _ next (record { ordered = l; inside = omega arith; bounded = bounded book n kind t })
    (omega (arith, rounded_within book n kind t, length-slice from end file (omega arith)))
    (command_of book n kind t) refl
turned_sound book n file at (scan.BadByte place) w = refl
turned_sound book n file at (scan.Ended place) w = refl

pub turn_sound : (book : Book) (n : Format) (file : List ℕ) (at : ℕ) → at ≤ length file → SoundTurn file at (turn_of book n file at)
unfolding turn_of
turn_sound book n file at h = turned_sound book n file at (next_command book file at) (next_within book file at h)
