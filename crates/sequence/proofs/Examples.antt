-- Worked examples, by computation: small files as sequences of commands, on either side of a fault.
-- Assumes nothing.
use Prim.Native.Nat.{ℕ}
use Prim.Native.String.{String}
use mathlib.Core.Path.{◌≡◌, refl}
use mathlib.Core.List.{List, [], ◌∷◌, map}
use Rattle.base.specs.And.{◌and◌}
use Rattle.base.specs.Or.{◌or◌}
use Rattle.base.specs.Bytes.{same_bytes}
use Rattle.text.specs.First.{first_in}
use Rattle.text.specs.Name.{letter, name_start, name_byte, name_bytes, is_name}
use Rattle.text.specs.Text.{text, among}
use Rattle.book.specs.Books.{ascii, is_old_edition, is_old}
use Rattle.scan.specs.Permitted.{fits, printable, breaks_after, may_break, permitted, letter_here, bad_in}
use Rattle.scan.specs.Scan.{kind_of, text_from, end_of, cut_by, command_in, next_command}
use Rattle.scan.specs.Tail.{tail_of}
use Rattle.scan.specs.Fields.{in_field}
use Rattle.letters.specs.Table as letters-Table
use Rattle.base.specs.Choose.{pick}
use Rattle.formats.specs.Format.{newer, no_format}
use Rattle.formats.specs.Texts.{newer_format}
use Rattle.command.specs.Flaws.{flaw_number}
use Rattle.command.specs.Span.{span}
use Rattle.command.specs.declared.Command.{Command}
use Rattle.command.specs.declared.Command.TheVariants.{End, Set, Attribute}
use Rattle.command.specs.declared.Setting.TheVariants.{Linear, Format}
use Rattle.command.specs.declared.Deed.TheVariants.{Delete}
use Rattle.words.specs.Newer.{code_of, newer_word}
use Rattle.words.specs.Words.{word_of}
use Rattle.settings.specs.Header.{formatted, format_of}
use Rattle.attribute_commands.specs.Attributes.{deletion_of}
use Rattle.recognise.specs.Commands.{one_block, is_unread, data_of, data_in, extended_of, command_of}
use Rattle.sequence.specs.Commands.{commands_from, commands_of}
use Rattle.sequence.specs.Leads.{lead_of_flaw, lead_of_setting, lead_of}
use Rattle.sequence.specs.Turns.{refusal, led, turned, turn_of, tail_fault}
use Rattle.sequence.specs.declared.Placed.{Placed}

abbrev at : ℕ → ℕ → ℕ → Command → Placed
at place from end c = record { place = place; from = from; end = end; command = c }

-- a file, its commands, and the number and place of its fault (decisions 5, 12, 14 and 31)
abbrev files : List (String × List Placed × ℕ × ℕ)
files =
    ("", [], 3, 0)
    ∷ ("G01*\r\n", at 0 0 3 (Set Linear) ∷ [], 3, 6)
    ∷ ("\nG01*M02*\r\n", at 1 1 4 (Set Linear) ∷ at 5 5 8 End ∷ [], 0, 0)
    ∷ ("G01*G1*\0", at 0 0 3 (Set Linear) ∷ [], 4, 4)
    ∷ ("G01*G1\0*", at 0 0 3 (Set Linear) ∷ [], 2, 6)
    ∷ ("M02*\nA", at 0 0 3 End ∷ [], 18, 5)
    ∷ ("%FSLAX36Y36*%%TDa*\n%M02*", at 0 1 12 (Set (Format (newer 3))) ∷ at 13 14 19 (Attribute (Delete (span 2 3))) ∷ at 20 20 23 End ∷ [], 0, 0)
    ∷ []

files_read : map (λ row. commands_of ascii (text row.0)) files ≡ map (λ row. record { commands = row.1; fault = refusal row.2 row.3 }) files
unfolding commands_of commands_from turn_of turned led lead_of lead_of_flaw lead_of_setting tail_fault tail_of fits cut_by command_in next_command in_field letter_here letters-Table.letter_in letters-Table.whole_of letters-Table.lead_of letters-Table.lead_in letters-Table.table letters-Table.follows letters-Table.within kind_of text_from end_of bad_in permitted printable may_break breaks_after command_of word_of newer_word code_of is_old is_old_edition extended_of data_in is_unread data_of one_block format_of formatted newer_format no_format newer flaw_number deletion_of is_name name_start name_byte name_bytes letter pick first_in among same_bytes ◌and◌ ◌or◌
files_read = refl
