-- Worked examples, by computation: a file asked at its commands, and between them.
-- Assumes nothing.
use Prim.Native.Nat.{ℕ}
use Prim.Native.String.{String}
use mathlib.Core.Path.{◌≡◌, refl}
use mathlib.Core.List.{List, [], ◌∷◌, map}
use Rattle.base.specs.And.{◌and◌}
use Rattle.base.specs.Or.{◌or◌}
use Rattle.base.specs.Bytes.{same_bytes}
use Rattle.base.specs.Choose.{pick}
use Rattle.text.specs.First.{first_in}
use Rattle.text.specs.Name.{letter, name_start, name_byte, name_bytes, is_name}
use Rattle.text.specs.Text.{text, among}
use Rattle.book.specs.Books.{is_old_edition, is_old, ascii}
use Rattle.formats.specs.Format.{no_format}
use Rattle.scan.specs.Permitted.{fits, printable, breaks_after, may_break, permitted, letter_here, bad_in}
use Rattle.scan.specs.Scan.{kind_of, text_from, end_of, cut_by, command_in, next_command}
use Rattle.scan.specs.Tail.{tail_of}
use Rattle.scan.specs.Fields.{in_field}
use Rattle.letters.specs.Table as letters-Table
use Rattle.command.specs.Flaws.{flaw_number}
use Rattle.command.specs.Numbers.{judged}
use Rattle.operations.specs.Coordinates.{given, missing, field_at, fields_in}
use Rattle.operations.specs.Operations.{broken, too_long, alone, axis_of, offset_of, draw, without_offset, move, operation_in, operates, uncoded, operation_code, operation_of}
use Rattle.words.specs.Newer.{code_of, newer_word}
use Rattle.words.specs.Words.{word_of}
use Rattle.apertures.specs.Blocks.{block_of}
use Rattle.attribute_commands.specs.Attributes.{value_of, attribute_of as recognised, deletion_of}
use Rattle.recognise.specs.Commands.{one_block, is_unread, data_of, data_in, extended_of, command_of}
use Rattle.sequence.specs.Commands.{commands_from, commands_of}
use Rattle.sequence.specs.Leads.{lead_of_flaw, lead_of_setting, lead_of}
use Rattle.sequence.specs.Turns.{led, turned, turn_of, tail_fault}
use Rattle.outlines.specs.Outlines.{newer_outline, outline_of}
use Rattle.outlines.specs.Regions.{region_after, begins_contour}
use Rattle.attribute_call.specs.Sayings.{value_in, asks_ta, saying, spoken, saying_of, taken_at}
use Rattle.attribute_call.specs.declared.Kind.{Kind}
use Rattle.attribute_call.specs.declared.Kind.TheVariants.{Aperture, Object}
use Rattle.attribute_call.specs.Attribute.{before, from_on, later, kept, heard_with, heard_in, held, answer_at, answer_for, answer_in, attribute_of}

-- places 0, 9, 13, 20, 26, 31 and 36
abbrev file : List ℕ
file = text "%TOa,1,*%G01*%TAa*%%TDb*%\n%AB*%%TD*%M02*"

-- what is asked, and the number, place and length that are answered (decisions 107 to 112)
abbrev asked : List (Kind × ℕ × String × ℕ × ℕ × ℕ)
asked =
    (Object, 0, "a", 23, 0, 0)
    ∷ (Object, 9, "a", 0, 5, 2)
    ∷ (Object, 10, "a", 22, 0, 0)
    ∷ (Object, 26, "a", 0, 5, 2)
    ∷ (Object, 26, "b", 23, 0, 0)
    ∷ (Aperture, 26, "a", 23, 0, 0)
    ∷ (Object, 36, "a", 23, 0, 0)
    ∷ []

asked_answered : map (λ row. attribute_of ascii file row.0 row.1 (text row.2)) asked ≡ map (λ row. record { number = row.3; place = row.4; length = row.5 }) asked
unfolding attribute_of answer_in answer_for answer_at held heard_with heard_in later kept before from_on taken_at outline_of newer_outline region_after begins_contour saying_of spoken saying asks_ta value_in commands_of commands_from turn_of turned led lead_of lead_of_setting lead_of_flaw tail_fault tail_of fits cut_by command_in next_command in_field letter_here letters-Table.letter_in letters-Table.whole_of letters-Table.lead_of letters-Table.lead_in letters-Table.table letters-Table.follows letters-Table.within kind_of text_from end_of bad_in permitted printable may_break breaks_after command_of word_of newer_word code_of is_old is_old_edition no_format extended_of data_in is_unread data_of one_block block_of recognised value_of deletion_of is_name name_start name_byte name_bytes letter flaw_number pick first_in among same_bytes ◌and◌ ◌or◌
asked_answered = refl

-- a pour: at 12, 32 and 46 a contour's first D01, at 16 its second, at 54 a D01 outside
abbrev pour : List ℕ
pour = text "%TAa,1*%G36*D01*D01*%TAa,2*%D02*D01*%TDa*%D02*D01*G37*D01*M02*"

-- a TA since G36 does not count, a TD does (02 [3]; decisions 317 to 319)
abbrev poured : List (ℕ × ℕ × ℕ × ℕ)
poured = (12, 0, 5, 1) ∷ (16, 23, 0, 0) ∷ (32, 0, 5, 1) ∷ (46, 23, 0, 0) ∷ (54, 23, 0, 0) ∷ []

pour_answered : map (λ row. attribute_of ascii pour Aperture row.0 (text "a")) poured ≡ map (λ row. record { number = row.1; place = row.2; length = row.3 }) poured
unfolding attribute_of answer_in answer_for answer_at held heard_with heard_in later kept before from_on taken_at outline_of newer_outline region_after begins_contour saying_of spoken saying asks_ta value_in commands_of commands_from turn_of turned led lead_of lead_of_setting lead_of_flaw tail_fault tail_of fits cut_by command_in next_command in_field letter_here letters-Table.letter_in letters-Table.whole_of letters-Table.lead_of letters-Table.lead_in letters-Table.table letters-Table.follows letters-Table.within kind_of text_from end_of bad_in permitted printable may_break breaks_after command_of word_of newer_word code_of operation_of operation_code uncoded operation_in operates draw move without_offset judged fields_in field_at given missing broken too_long alone axis_of offset_of is_old is_old_edition no_format extended_of data_in is_unread data_of one_block block_of recognised value_of deletion_of is_name name_start name_byte name_bytes letter flaw_number pick first_in among same_bytes ◌and◌ ◌or◌
pour_answered = refl
