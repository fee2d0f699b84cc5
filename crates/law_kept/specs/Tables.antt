-- The rules of each command, in the order of the numbers: the tables of crates/operation_rules and crates/command_rules, each row a test of the state, the
-- room and the command, which holds where the rule is broken, and the rule's number (01, Numbers the reader answers; 02, [7] and [9]).
use Rattle.std.specs.Prelude.{ℕ, ◌-◌, Bool, true, not, List, [], ◌∷◌, ◌++◌, eqb, leb, ltb, length}
use Rattle.std.proofs.Math.Seq.{slice}
use Rattle.base.specs.Or.{◌or◌}
use Rattle.base.specs.Faults.{Table}
use Rattle.command.specs.Flaws.{flaw_number}
use Rattle.command.specs.declared.Operation.{Operation}
use Rattle.command.specs.declared.Operation.TheVariants as operation
use Rattle.command.specs.declared.Definition.{Definition}
use Rattle.command.specs.declared.Definition.TheVariants as definition
use Rattle.command.specs.declared.Bracket.{Bracket}
use Rattle.command.specs.declared.Bracket.TheVariants as bracket
use Rattle.command.specs.declared.Deed.{Deed}
use Rattle.command.specs.declared.Deed.TheVariants as deed
use Rattle.command.specs.declared.Command.{Command}
use Rattle.command.specs.declared.Command.TheVariants.{Broken, Note, End, Set, Operate, Coded, Select, Define, Contain, Attribute}
use Rattle.sequence.specs.declared.Placed.{Placed}
use Rattle.graphics.specs.Level.{block, repeat}
use Rattle.operation_rules.specs.Faults.{draw_rules, move_rules, flash_rules}
use Rattle.command_rules.specs.Bounds.{is_repeat}
use Rattle.command_rules.specs.Settings.{setting_rules}
use Rattle.command_rules.specs.Rules.{region_rules, select_rules, aperture_rules, macro_rules, block_start_rules, closing_rules, repeat_start_rules, file_attribute_rules, end_rules}
use Rattle.law_reading.specs.State.{Room, State}
use Rattle.law_reading.specs.Apertures.{is_taken, aperture_with, is_among, names_of, is_standard, outcome_of, Outcome}
use Rattle.law_reading.specs.Steps.{left, part, setting_step}

unfoldable pub operation_rules : Room → Operation → State → Table
operation_rules room (operation.Draw x y o) s = draw_rules s.graphics s.level (left room s) x y o
operation_rules room (operation.Move x y) s = move_rules s.graphics x y
operation_rules room (operation.Flash x y) s = flash_rules s.graphics s.level (left room s) x y

-- AD, its template's name and its parameters
unfoldable pub ad_rules : Room → ℕ → List ℕ → List ℕ → State → Table
ad_rules room n name parameters s =
    let o : Outcome = outcome_of name parameters s.macros in
    aperture_rules s.graphics (is_taken n s.apertures or not (is_standard name or is_among name (names_of s.macros))) o.fault
    (leb room.apertures (length s.apertures) or ltb (room.numbers - length s.numbers) (length o.kept))

-- AM, its name and whether its parentheses are too deep
unfoldable pub am_rules : Room → List ℕ → Bool → State → Table
am_rules room name deep s =
    macro_rules s.graphics (is_standard name or is_among name (names_of s.macros)) deep (leb room.macros (length s.macros))

unfoldable pub definition_rules : Room → List ℕ → Definition → State → Table
definition_rules room t (definition.Aperture n name ps rounded) s = ad_rules room n (part t name) (part t ps) s
definition_rules room t (definition.Macro name blocks deep rounded) s = am_rules room (part t name) deep s

unfoldable pub bracket_rules : Room → Bracket → State → Table
bracket_rules room (bracket.BlockStart n) s =
    block_start_rules s.graphics s.level (is_taken n s.apertures) (eqb (left room s) 0 or leb room.apertures (length s.apertures))
bracket_rules room bracket.BlockEnd s = closing_rules s.graphics s.level block
bracket_rules room (bracket.RepeatStart nx ny dx dy rounded) s =
    repeat_start_rules s.graphics s.level (is_repeat nx ny dx dy) (eqb (left room s) 0)
bracket_rules room bracket.RepeatEnd s = closing_rules s.graphics s.level repeat

unfoldable pub deed_rules : List ℕ → Deed → State → Table
deed_rules t (deed.SetFile name value) s = file_attribute_rules s.graphics (is_among (part t name) s.names)
deed_rules t (deed.SetAperture name value) s = region_rules s.graphics
deed_rules t (deed.SetObject name value) s = region_rules s.graphics
deed_rules t (deed.Delete name) s = region_rules s.graphics
deed_rules t deed.DeleteAll s = region_rules s.graphics

-- the rules of a command with this text, in a state
unfoldable pub rules_of : Room → List ℕ → Command → State → Table
rules_of room t (Broken flaw) s = (true, flaw_number flaw) ∷ []
rules_of room t Note s = []
rules_of room t End s = end_rules s.graphics s.level
rules_of room t (Set x) s = setting_rules s.graphics x
rules_of room t (Operate o) s = operation_rules room o s
-- "The code takes effect first, then the operation in the state after it": the rules of both (decision 516)
rules_of room t (Coded code o) s = setting_rules s.graphics code ++ operation_rules room o (setting_step code s).next
rules_of room t (Select n) s = select_rules s.graphics (aperture_with n s.apertures).set
rules_of room t (Define d) s = definition_rules room t d s
rules_of room t (Contain b) s = bracket_rules room b s
rules_of room t (Attribute d) s = deed_rules t d s

-- those of a command of the file
abbrev pub rules_at : Room → List ℕ → Placed → State → Table
rules_at room file c s = rules_of room (slice c.from c.end file) c.command s
