-- The numbers that the commands of a file give to apertures have 31 bits.
-- Assumes nothing.
use Prim.Native.Nat.{ℕ, zero, suc, ◌<◌}
use mathlib.Core.Path.{◌≡◌, refl}
use mathlib.Core.Bool.{Bool, true, false, cond}
use mathlib.Core.List.{List, [], ◌∷◌, ◌++◌}
use native.Mathlib.Omega.{arith}
use lib.ListN.{length}
use lib.Seq.{slice}
use Rattle.book.specs.declared.Book.{Book}
use Rattle.formats.specs.Format.{no_format}
use Rattle.formats.specs.declared.Format.{Format}
use Rattle.scan.specs.Permitted.{fits}
use Rattle.scan.specs.Scan.{next_command}
use Rattle.scan.specs.declared.Scan.{Scan}
use Rattle.scan.specs.declared.Scan.TheVariants as scan
use Rattle.command.specs.declared.Definition.{Definition}
use Rattle.command.specs.declared.Definition.TheVariants as definition
use Rattle.command.specs.declared.Bracket.{Bracket}
use Rattle.command.specs.declared.Bracket.TheVariants as bracket
use Rattle.command.specs.declared.Command.{Command}
use Rattle.command.specs.declared.Command.TheVariants.{Broken, Note, End, Set, Operate, Coded, Select, Define, Contain, Attribute}
use Rattle.recognise.specs.Commands.{command_of}
use Rattle.law_bounds.specs.Bounded.{Bounded, DefinitionBounded, BracketBounded}
use Rattle.law_bounds.proofs.Bounds.{bounded}
use Rattle.sequence.specs.Commands.{Sequence, stopped, commands_from, commands_of}
use Rattle.sequence.specs.Leads.{lead_of}
use Rattle.sequence.specs.Turns.{refusal, led, turned, turn_of}
use Rattle.sequence.specs.declared.Lead.{Lead}
use Rattle.sequence.specs.declared.Lead.TheVariants as lead
use Rattle.sequence.specs.declared.Placed.{Placed}
use Rattle.sequence.specs.declared.Turn.{Turn}
use Rattle.sequence.specs.declared.Turn.TheVariants.{Fault, Last, More}
use Rattle.law_shapes.proofs.Led.{most_numbers}

abbrev pub Low : Command → Type 0
Low (Define (definition.Aperture n name ps rounded)) = n < most_numbers
Low (Define (definition.Macro name blocks deep rounded)) = Unit
Low (Contain (bracket.BlockStart n)) = n < most_numbers
Low (Contain bracket.BlockEnd) = Unit
Low (Contain (bracket.RepeatStart nx ny dx dy rounded)) = Unit
Low (Contain bracket.RepeatEnd) = Unit
Low (Broken flaw) = Unit
Low Note = Unit
Low End = Unit
Low (Set s) = Unit
Low (Operate o) = Unit
Low (Coded code o) = Unit
Low (Select n) = Unit
Low (Attribute d) = Unit

abbrev pub AllLow : List Placed → Type 0
AllLow [] = Unit
AllLow (c ∷ cs) = Low c.command × AllLow cs

definition_low : (text : List ℕ) (d : Definition) → DefinitionBounded text d → Low (Define d)
unfolding DefinitionBounded
definition_low text (definition.Aperture n name ps rounded) b = omega (arith, b.number.most)
definition_low text (definition.Macro name blocks deep rounded) b = tt

bracket_low : (b : Bracket) → BracketBounded b → Low (Contain b)
unfolding BracketBounded
bracket_low (bracket.BlockStart n) b = omega (arith, b.most)
bracket_low bracket.BlockEnd b = tt
bracket_low (bracket.RepeatStart nx ny dx dy rounded) b = tt
bracket_low bracket.RepeatEnd b = tt

command_low : (text : List ℕ) (c : Command) → Bounded text c → Low c
unfolding Bounded
command_low text (Broken flaw) b = tt
command_low text Note b = tt
command_low text End b = tt
command_low text (Set s) b = tt
command_low text (Operate o) b = tt
command_low text (Coded code o) b = tt
command_low text (Select n) b = tt
command_low text (Define d) b = definition_low text d b
command_low text (Contain b) k = bracket_low b k
command_low text (Attribute d) b = tt

abbrev TurnLow : Turn → Type 0
TurnLow (Fault r) = Unit
TurnLow (Last c next) = Low c.command
TurnLow (More c g next) = Low c.command

led_low : (f : Format) (c : Placed) (way : Lead) (next : ℕ) → Low c.command → TurnLow (led f c way next)
unfolding led
led_low f c (lead.Broken number) next h = tt
led_low f c lead.Last next h = h
led_low f c (lead.Format g) next h = h
led_low f c lead.Other next h = h

turned_low : (book : Book) (f : Format) (file : List ℕ) (s : Scan) → TurnLow (turned book f file s)
unfolding turned
turned_low book f file (scan.Command kind place from end next) =
    led_low f _ (lead_of (command_of book f kind (slice from end file))) next (command_low _ _ (bounded book f kind (slice from end file)))
turned_low book f file (scan.BadByte place) = tt
turned_low book f file (scan.Ended place) = tt

turn_low : (book : Book) (f : Format) (file : List ℕ) (at : ℕ) → TurnLow (turn_of book f file at)
unfolding turn_of
turn_low book f file at = turned_low book f file (next_command book file at)

from_low : (book : Book) (k : ℕ) (f : Format) (file : List ℕ) (at : ℕ) → AllLow (commands_from book k f file at).commands
unfolding commands_from
from_low book zero f file at = tt
from_low book (suc k) f file at = go (turn_of book f file at) refl (turn_low book f file at) (λ g next. from_low book k g file next)
  where
    go : (x : Turn) → turn_of book f file at ≡ x → TurnLow x → ((g : Format) (next : ℕ) → AllLow (commands_from book k g file next).commands) →
        AllLow (commands_from book (suc k) f file at).commands
    go (Fault r) e h rest = rw (e, commands_from) tt
    go (Last c next) e h rest = rw (e, commands_from) (h, tt)
    go (More c g next) e h rest = rw (e, commands_from) (h, rest g next)

pub commands_low : (book : Book) (file : List ℕ) → AllLow (commands_of book file).commands
unfolding commands_of
commands_low book file = go (fits file)
  where
    go : (t : Bool) → AllLow (cond t (commands_from book (suc (length file)) no_format file 0) (stopped (refusal 1 0))).commands
    go true = from_low book (suc (length file)) no_format file 0
    go false = tt

-- of commands, those before one and after it
pub low_before : (xs ys : List Placed) → AllLow (xs ++ ys) → AllLow xs
low_before [] ys h = tt
low_before (x ∷ xs) ys h = (h.0, low_before xs ys h.1)

pub low_behind : (xs ys : List Placed) → AllLow (xs ++ ys) → AllLow ys
low_behind [] ys h = h
low_behind (x ∷ xs) ys h = low_behind xs ys h.1
