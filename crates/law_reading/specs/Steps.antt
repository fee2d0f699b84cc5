-- What each command does: its fault by the tables of the rules, 0 for none, and the state after it (01, State).
use Rattle.std.specs.Prelude.{ℕ, ◌+◌, ◌-◌, ◌*◌, Bool, cond, not, List, [], ◌∷◌, ◌++◌, eqb, leb, ltb, ℤ, length, Option}
use Rattle.std.proofs.Math.Seq.{slice}
use Rattle.base.specs.Or.{◌or◌}
use Rattle.decimal.specs.declared.answers.Amount.{Amount}
use Rattle.command.specs.declared.Span.{Span}
use Rattle.command.specs.Flaws.{flaw_number}
use Rattle.command.specs.declared.Setting.{Setting}
use Rattle.command.specs.declared.Operation.{Operation}
use Rattle.command.specs.declared.Operation.TheVariants as operation
use Rattle.command.specs.declared.Definition.{Definition}
use Rattle.command.specs.declared.Definition.TheVariants as definition
use Rattle.command.specs.declared.Bracket.{Bracket}
use Rattle.command.specs.declared.Bracket.TheVariants as bracket
use Rattle.command.specs.declared.Deed.{Deed}
use Rattle.command.specs.declared.Deed.TheVariants as deed
use Rattle.command.specs.declared.Command.{Command}
use Rattle.command.specs.declared.Command.TheVariants.{Broken, Note, End, Set, Operate, Coded, Select, Define, Contain, Attribute}
use Rattle.place.specs.Mark.{Mark}
use Rattle.graphics.specs.Graphics.{with_aperture}
use Rattle.graphics.specs.Level.{block, repeat}
use Rattle.graphics.specs.declared.Graphics.{Graphics}
use Rattle.graphics.specs.declared.Selected.{Selected}
use Rattle.graphics.specs.declared.Level.{Level}
use Rattle.changes.specs.After.{after_setting, after_operation, after}
use Rattle.operation_rules.specs.Faults.{draw_items, draw_fault, move_fault, flash_items, flash_fault}
use Rattle.command_rules.specs.Bounds.{is_repeat}
use Rattle.command_rules.specs.Settings.{setting_fault}
use Rattle.command_rules.specs.Rules.{
  region_fault,
  select_fault,
  aperture_fault,
  macro_fault,
  block_start_fault,
  closing_fault,
  repeat_start_fault,
  file_attribute_fault,
  end_fault,
}
use Rattle.faults.specs.Order.{sooner}
use Rattle.marks.specs.Marks.{marks_of}
use Rattle.law_reading.specs.State as opened
use Rattle.law_reading.specs.State.{Room, Aperture, Template, Opened, State}
use Rattle.law_reading.specs.Apertures.{
  is_taken,
  aperture_with,
  is_among,
  names_of,
  is_standard,
  outcome_of,
  Outcome,
  defined,
  opening,
  closing,
}
use Rattle.law_reading.specs.Levels.{with_items, in_block, in_repeat}
use Rattle.command.specs.declared.Offset.{Offset}

pub record Step : Type 0 where
  pub fault : ℕ
  pub next : State

abbrev pub does : ℕ → State → Step
does fault next = record { fault = fault; next = next }

-- a state by its parts
abbrev pub state : Graphics → Level → List Opened → List Aperture → List Template → List (List ℕ) → List ℤ → ℕ → List Mark → State
state g l o a m names n e marks =
    record { graphics = g; level = l; opened = o; apertures = a; macros = m; names = names; numbers = n; entries = e; marks = marks }

-- the graphics state after a command, and the marks that it leaves at its place; n entries are used
unfoldable pub passed : Command → ℕ → ℕ → State → State
passed c place n s =
    state (after c s.graphics) s.level s.opened s.apertures s.macros s.names s.numbers (s.entries + n)
    (s.marks ++ marks_of c s.graphics place)

-- with one part set anew
unfoldable pub with_graphics : Graphics → State → State
with_graphics v s = state v s.level s.opened s.apertures s.macros s.names s.numbers s.entries s.marks

unfoldable pub with_level : Level → State → State
with_level v s = state s.graphics v s.opened s.apertures s.macros s.names s.numbers s.entries s.marks

unfoldable pub with_opened : List Opened → State → State
with_opened v s = state s.graphics s.level v s.apertures s.macros s.names s.numbers s.entries s.marks

unfoldable pub with_apertures : List Aperture → State → State
with_apertures v s = state s.graphics s.level s.opened v s.macros s.names s.numbers s.entries s.marks

unfoldable pub with_macros : List Template → State → State
with_macros v s = state s.graphics s.level s.opened s.apertures v s.names s.numbers s.entries s.marks

unfoldable pub with_names : List (List ℕ) → State → State
with_names v s = state s.graphics s.level s.opened s.apertures s.macros v s.numbers s.entries s.marks

unfoldable pub with_numbers : List ℤ → State → State
with_numbers v s = state s.graphics s.level s.opened s.apertures s.macros s.names v s.entries s.marks

-- a setting changes the graphics state alone
unfoldable pub setting_step : Setting → State → Step
setting_step x s = does (setting_fault s.graphics x) (with_graphics (after_setting x s.graphics) s)

-- so many entries are left
abbrev pub left : Room → State → ℕ
left room s = room.entries - s.entries

unfoldable pub draw_step : Room → ℕ → Option ℤ → Option ℤ → Option Offset → State → Step
draw_step room place x y o s =
    does (draw_fault s.graphics s.level (left room s) x y o)
    (with_level (with_items (draw_items s.graphics) 0 s.level) (passed (Operate (operation.Draw x y o)) place (draw_items s.graphics) s))

-- the flash of a block makes its container one higher than the block
unfoldable pub flash_height : Selected → ℕ
flash_height a = cond a.block (a.height + 1) 0

unfoldable pub flash_step : Room → ℕ → Option ℤ → Option ℤ → State → Step
flash_step room place x y s =
    does (flash_fault s.graphics s.level (left room s) x y)
    (with_level (with_items (flash_items s.graphics) (flash_height s.graphics.aperture) s.level) (passed (Operate (operation.Flash x y)) place 1 s))

-- D02 draws nothing: it too changes the graphics state alone
unfoldable pub move_step : Option ℤ → Option ℤ → State → Step
move_step x y s = does (move_fault s.graphics x y) (with_graphics (after_operation (operation.Move x y) s.graphics) s)

-- Dn
unfoldable pub select_step : ℕ → State → Step
select_step n s =
    let a : Selected = aperture_with n s.apertures in
    does (select_fault s.graphics a.set) (with_graphics (with_aperture a s.graphics) s)

-- AD, its number, the name of its template and its parameters
unfoldable pub aperture_step : Room → ℕ → List ℕ → List ℕ → State → Step
aperture_step room n name parameters s =
    let o : Outcome = outcome_of name parameters s.macros in
    let unknown : Bool = not (is_standard name or is_among name (names_of s.macros)) in
    let full : Bool = leb room.apertures (length s.apertures) or ltb (room.numbers - length s.numbers) (length o.kept) in
    does (aperture_fault s.graphics (is_taken n s.apertures or unknown) o.fault full)
    (with_apertures (s.apertures ++ (defined n name (length s.numbers) o.kept ∷ [])) (with_numbers (s.numbers ++ o.kept) s))

-- AM
unfoldable pub macro_step : Room → List ℕ → List ℕ → Bool → State → Step
macro_step room name blocks deep s =
    does (macro_fault s.graphics (is_standard name or is_among name (names_of s.macros)) deep (leb room.macros (length s.macros)))
    (with_macros (s.macros ++ (record { name = name; blocks = blocks } ∷ [])) s)

-- AB, opening
unfoldable pub block_start_step : Room → ℕ → ℕ → State → Step
block_start_step room place n s =
    let full : Bool = eqb (left room s) 0 or leb room.apertures (length s.apertures) in
    does (block_start_fault s.graphics s.level (is_taken n s.apertures) full)
    (with_level (in_block s.level)
    (with_opened (opened.block n s.level ∷ s.opened)
    (with_apertures (s.apertures ++ (opening n ∷ [])) (passed (Contain (bracket.BlockStart n)) place 1 s))))

-- SR, opening; how many of its decimals were rounded changes nothing
unfoldable pub repeat_start_step : Room → ℕ → ℕ → ℕ → Amount → Amount → State → Step
repeat_start_step room place nx ny dx dy s =
    does (repeat_start_fault s.graphics s.level (is_repeat nx ny dx dy) (eqb (left room s) 0))
    (with_level (in_repeat nx ny s.level)
    (with_opened (opened.repeat s.level ∷ s.opened) (passed (Contain (bracket.RepeatStart nx ny dx dy 0)) place 1 s)))

-- a block that closes is an aperture of so many items; the level around it has no more than before
unfoldable pub block_ends : List Opened → State → State
block_ends [] s = s
block_ends (opened.block n around ∷ os) s =
    with_level around (with_opened os (with_apertures (closing n s.level.items s.level.height s.apertures) s))
block_ends (opened.repeat around ∷ os) s = s

-- a repeat that closes leaves its copies
unfoldable pub repeat_ends : List Opened → State → State
repeat_ends [] s = s
repeat_ends (opened.block n around ∷ os) s = s
repeat_ends (opened.repeat around ∷ os) s = with_level (with_items (s.level.copies * s.level.items) 0 around) (with_opened os s)

unfoldable pub block_end_step : ℕ → State → Step
block_end_step place s = does (closing_fault s.graphics s.level block) (block_ends s.opened (passed (Contain bracket.BlockEnd) place 0 s))

unfoldable pub repeat_end_step : ℕ → State → Step
repeat_end_step place s = does (closing_fault s.graphics s.level repeat) (repeat_ends s.opened (passed (Contain bracket.RepeatEnd) place 0 s))

-- TF
unfoldable pub file_attribute_step : List ℕ → State → Step
file_attribute_step name s = does (file_attribute_fault s.graphics (is_among name s.names)) (with_names (name ∷ s.names) s)

-- the part of a command's text
abbrev pub part : List ℕ → Span → List ℕ
part text p = slice p.from p.to text

-- an operation at a place
unfoldable pub operation_step : Room → ℕ → Operation → State → Step
operation_step room p (operation.Draw x y o) s = draw_step room p x y o s
operation_step room p (operation.Move x y) s = move_step x y s
operation_step room p (operation.Flash x y) s = flash_step room p x y s

-- an operation after a G code: "The code takes effect first, then the operation in the state after it"; of their faults the one that
-- is tested first (decision 516)
unfoldable pub coded_step : Room → ℕ → Setting → Operation → State → Step
coded_step room p code o s =
    let behind : State = (setting_step code s).next in
    does (sooner (setting_step code s).fault (operation_step room p o behind).fault) (operation_step room p o behind).next

-- AD and AM, with the command's text
unfoldable pub definition_step : Room → List ℕ → Definition → State → Step
definition_step room t (definition.Aperture n name ps rounded) s = aperture_step room n (part t name) (part t ps) s
definition_step room t (definition.Macro name blocks deep rounded) s = macro_step room (part t name) (slice name.to blocks.to t) deep s

-- AB and SR, at a place
unfoldable pub bracket_step : Room → ℕ → Bracket → State → Step
bracket_step room p (bracket.BlockStart n) s = block_start_step room p n s
bracket_step room p bracket.BlockEnd s = block_end_step p s
bracket_step room p (bracket.RepeatStart nx ny dx dy rounded) s = repeat_start_step room p nx ny dx dy s
bracket_step room p bracket.RepeatEnd s = repeat_end_step p s

-- TA, TO and TD leave nothing on the sheet
unfoldable pub deed_step : List ℕ → Deed → State → Step
deed_step t (deed.SetFile name value) s = file_attribute_step (part t name) s
deed_step t (deed.SetAperture name value) s = does (region_fault s.graphics) s
deed_step t (deed.SetObject name value) s = does (region_fault s.graphics) s
deed_step t (deed.Delete name) s = does (region_fault s.graphics) s
deed_step t deed.DeleteAll s = does (region_fault s.graphics) s

-- the command at a place, with its text
unfoldable pub step_of : Room → List ℕ → ℕ → Command → State → Step
step_of room t p (Broken flaw) s = does (flaw_number flaw) s
step_of room t p Note s = does 0 s
step_of room t p End s = does (end_fault s.graphics s.level) s
step_of room t p (Set x) s = setting_step x s
step_of room t p (Operate o) s = operation_step room p o s
step_of room t p (Coded code o) s = coded_step room p code o s
step_of room t p (Select n) s = select_step n s
step_of room t p (Define d) s = definition_step room t d s
step_of room t p (Contain b) s = bracket_step room p b s
step_of room t p (Attribute d) s = deed_step t d s
