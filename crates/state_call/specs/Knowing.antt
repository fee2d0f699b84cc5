-- What the stores know of a command in a state of a reading, in the room that is lent (01, What is read and State; decision 470).
use Rattle.std.specs.Prelude.{ℕ, ◌-◌, Bool, false, not, cond, List, eqb, leb, ltb, length, Err, Ok, Result, ⊤}
use Rattle.base.specs.Or.{◌or◌}
use Rattle.command.specs.declared.Definition.{Definition}
use Rattle.command.specs.declared.Definition.TheVariants as definition
use Rattle.command.specs.declared.Bracket.{Bracket}
use Rattle.command.specs.declared.Bracket.TheVariants as bracket
use Rattle.command.specs.declared.Deed.{Deed}
use Rattle.command.specs.declared.Deed.TheVariants as deed
use Rattle.command.specs.declared.Command.{Command}
use Rattle.command.specs.declared.Command.TheVariants.{Broken, Note, End, Set, Operate, Coded, Select, Define, Contain, Attribute}
use Rattle.graphics.specs.Graphics.{no_aperture}
use Rattle.graphics.specs.declared.Selected.{Selected}
use Rattle.law_reading.specs.State.{Room, State}
use Rattle.law_reading.specs.Apertures.{is_taken, aperture_with, is_among, names_of, is_standard, outcome_of}
use Rattle.law_reading.specs.Steps.{left, part}
use Rattle.state_call.specs.declared.Known.{Known}
use Rattle.state_call.specs.declared.ParameterError.TheVariants as parameter_error
use Rattle.state_call.specs.declared.ParameterError.{ParameterError}

abbrev pub facts : ℕ → Selected → Bool → Bool → Result ⊤ ParameterError → Bool → Known
facts n a taken unknown worked full = record { entries = n; aperture = a; taken = taken; unknown = unknown; worked = worked; full = full }

-- so many entries are left, and nothing more is asked
abbrev pub room_alone : ℕ → Known
room_alone n = facts n no_aperture false false (Ok _) false

-- the outcome of the parameters of an AD, by the number of their fault
unfoldable pub worked_of : ℕ → Result ⊤ ParameterError
worked_of n = cond (eqb n 9) (Err parameter_error.Undefined) (cond (eqb n 10) (Err parameter_error.Unruly) (Ok _))

unfoldable pub of_definition : Room → List ℕ → Definition → State → Known
of_definition room t (definition.Aperture n name ps rounded) s =
    facts (left room s) no_aperture (is_taken n s.apertures) (not (is_standard (part t name) or is_among (part t name) (names_of s.macros)))
    (worked_of (outcome_of (part t name) (part t ps) s.macros).fault)
    (leb room.apertures (length s.apertures)
    or ltb (room.numbers - length s.numbers) (length (outcome_of (part t name) (part t ps) s.macros).kept))
of_definition room t (definition.Macro name blocks deep rounded) s =
    facts (left room s) no_aperture (is_standard (part t name) or is_among (part t name) (names_of s.macros)) false (Ok _)
    (leb room.macros (length s.macros))

unfoldable pub of_bracket : Room → Bracket → State → Known
of_bracket room (bracket.BlockStart n) s =
    facts (left room s) no_aperture (is_taken n s.apertures) false (Ok _) (leb room.apertures (length s.apertures))
of_bracket room bracket.BlockEnd s = room_alone (left room s)
of_bracket room (bracket.RepeatStart nx ny dx dy rounded) s = room_alone (left room s)
of_bracket room bracket.RepeatEnd s = room_alone (left room s)

unfoldable pub of_deed : Room → List ℕ → Deed → State → Known
of_deed room t (deed.SetFile name value) s = facts (left room s) no_aperture (is_among (part t name) s.names) false (Ok _) false
of_deed room t (deed.SetAperture name value) s = room_alone (left room s)
of_deed room t (deed.SetObject name value) s = room_alone (left room s)
of_deed room t (deed.Delete name) s = room_alone (left room s)
of_deed room t deed.DeleteAll s = room_alone (left room s)

-- of a command with this text
unfoldable pub known_of : Room → List ℕ → Command → State → Known
known_of room t (Broken flaw) s = room_alone (left room s)
known_of room t Note s = room_alone (left room s)
known_of room t End s = room_alone (left room s)
known_of room t (Set x) s = room_alone (left room s)
known_of room t (Operate o) s = room_alone (left room s)
known_of room t (Coded code o) s = room_alone (left room s)
known_of room t (Select n) s = facts (left room s) (aperture_with n s.apertures) false false (Ok _) false
known_of room t (Define d) s = of_definition room t d s
known_of room t (Contain b) s = of_bracket room b s
known_of room t (Attribute d) s = of_deed room t d s
