-- Worked examples, by computation: a film of the old book asked at its commands, and films that are refused (02, [9]; decisions 512 and 513).
-- Assumes nothing.
use Prim.Native.Nat.{ℕ}
use Prim.Native.String.{String}
use mathlib.Core.Path.{◌≡◌, refl}
use mathlib.Core.List.{List, [], ◌∷◌, map}
use Rattle.base.specs.And.{◌and◌}
use Rattle.base.specs.Or.{◌or◌}
use Rattle.base.specs.Bytes.{same_bytes}
use Rattle.base.specs.Choose.{pick}
use Rattle.base.specs.Trimmed.{drop_leading}
use Rattle.ints.specs.Ints.{signed}
use Rattle.digits.specs.Coordinate.{coordinate_end}
use Rattle.digits.specs.Digits.{is_digit, all_digits, is_number, value_of}
use Rattle.digits.specs.Sign.{has_minus, after_sign, past_sign}
use Rattle.text.specs.First.{first_in}
use Rattle.text.specs.Name.{letter, name_start, name_byte, name_bytes, is_name}
use Rattle.text.specs.Text.{text, among}
use Rattle.book.specs.Books.{is_old_edition, is_old, ascii, film}
use Rattle.formats.specs.Format.{is_format, newer, no_format, in_force, places_of}
use Rattle.formats.specs.Values.{filled, value_in as worth, whole_in, coordinate_in, taken_in}
use Rattle.films.specs.Codes as film-codes
use Rattle.films.specs.Parameters.{is_refused}
use Rattle.films.specs.Words as film-words
use Rattle.scan.specs.Permitted.{fits, printable, breaks_after, may_break, permitted, letter_here, bad_in}
use Rattle.scan.specs.Scan.{kind_of, text_from, end_of, cut_by, command_in, next_command}
use Rattle.scan.specs.Tail.{tail_of}
use Rattle.scan.specs.Fields.{in_field}
use Rattle.command.specs.Flaws.{flaw_number}
use Rattle.command.specs.Numbers.{judged}
use Rattle.operations.specs.Coordinates.{given, missing, field_at, fields_in}
use Rattle.operations.specs.Operations.{broken, too_long, alone, axis_of, offset_of, draw, without_offset, move, operation_in, operates, coded, uncoded, operation_code, operation_of}
use Rattle.words.specs.Newer.{newer_word}
use Rattle.words.specs.Old.{setting_of, operated, said, old_word}
use Rattle.words.specs.Words.{word_of}
use Rattle.attribute_commands.specs.Attributes.{value_of as field_of, attribute_of as recognised, deletion_of}
use Rattle.recognise.specs.Commands.{one_block, is_unread, data_of, data_in, extended_of, command_of}
use Rattle.sequence.specs.Commands.{commands_from, commands_of}
use Rattle.sequence.specs.Leads.{lead_of_flaw, lead_of_setting, lead_of}
use Rattle.sequence.specs.Turns.{led, turned, turn_of, tail_fault}
use Rattle.outlines.specs.Outlines.{word_outline, outline_of}
use Rattle.outlines.specs.Regions.{region_after, begins_contour}
use Rattle.attribute_call.specs.Sayings.{value_in, asks_ta, saying, spoken, saying_of, taken_at}
use Rattle.attribute_call.specs.declared.Kind.TheVariants.{Aperture}
use Rattle.attribute_call.specs.Attribute.{before, from_on, later, kept, heard_with, heard_in, held, answer_at, answer_for, answer_in, attribute_of}

-- regions that a code before an operation opens and closes: a contour's first D01 stands at 19, 39, 61 and 80
abbrev pour : List ℕ
pour = text "%TAa,1*%G36X0Y0D02*G1X1Y1D1*%TAa,2*%D2*D1*G37X0Y0D02*%TAa,3*%G36X1Y1D1*D1*%TDa*%G36D1*M2*"

-- where it is asked, and the number, place and length that are answered
abbrev poured : List (ℕ × ℕ × ℕ × ℕ)
poured = (19, 0, 5, 1) ∷ (39, 0, 5, 1) ∷ (61, 0, 58, 1) ∷ (71, 23, 0, 0) ∷ (80, 23, 0, 0) ∷ []

pour_answered : map (λ row. attribute_of film pour Aperture row.0 (text "a")) poured ≡ map (λ row. record { number = row.1; place = row.2; length = row.3 }) poured
unfolding attribute_of answer_in answer_for answer_at held heard_with heard_in later kept before from_on taken_at outline_of word_outline region_after begins_contour saying_of spoken saying asks_ta value_in commands_of commands_from turn_of turned led lead_of lead_of_setting lead_of_flaw tail_fault tail_of fits cut_by command_in next_command in_field letter_here kind_of text_from end_of bad_in permitted printable may_break breaks_after command_of word_of old_word said operated setting_of coded operation_in operates draw move without_offset judged fields_in field_at given missing broken too_long alone axis_of offset_of taken_in coordinate_in whole_in worth filled in_force is_format places_of newer no_format coordinate_end is_digit all_digits is_number value_of has_minus after_sign past_sign signed drop_leading film-words.word_of film-words.general_of film-words.miscellaneous_of film-words.other_of film-words.coded_of film-words.operate_of film-words.comment_of film-codes.code_of film-codes.later_codes film-codes.operation_in film-codes.operation_length film-codes.ends_in_one film-codes.is_end is_old is_old_edition extended_of data_in is_unread is_refused data_of one_block recognised field_of deletion_of is_name name_start name_byte name_bytes letter flaw_number pick first_in among same_bytes ◌and◌ ◌or◌
pour_answered = refl

-- 30 is given as 4 is, and in the newer edition a code before an operation is 4
abbrev refused : List (String × ℕ)
refused = ("%LNx*%M2*", 30) ∷ ("G40*M2*", 4) ∷ ("G4%*M2*", 4) ∷ ("M2*x", 18) ∷ ("M2", 3) ∷ []

refused_answered : map (λ row. (attribute_of film (text row.0) Aperture 0 (text "a")).number) refused ≡ map (λ row. row.1) refused
unfolding attribute_of answer_in answer_for answer_at held heard_with heard_in later kept before from_on taken_at outline_of word_outline region_after begins_contour saying_of spoken saying asks_ta value_in commands_of commands_from turn_of turned led lead_of lead_of_setting lead_of_flaw tail_fault tail_of fits cut_by command_in next_command in_field letter_here kind_of text_from end_of bad_in permitted printable may_break breaks_after command_of word_of old_word said operated setting_of coded operation_in operates draw move without_offset judged fields_in field_at given missing broken too_long alone axis_of offset_of taken_in coordinate_in whole_in worth filled in_force is_format places_of newer no_format coordinate_end is_digit all_digits is_number value_of has_minus after_sign past_sign signed drop_leading film-words.word_of film-words.general_of film-words.miscellaneous_of film-words.other_of film-words.coded_of film-words.operate_of film-words.comment_of film-codes.code_of film-codes.later_codes film-codes.operation_in film-codes.operation_length film-codes.ends_in_one film-codes.is_end is_old is_old_edition extended_of data_in is_unread is_refused data_of one_block recognised field_of deletion_of is_name name_start name_byte name_bytes letter flaw_number pick first_in among same_bytes ◌and◌ ◌or◌
refused_answered = refl

newer_refused : (attribute_of ascii (text "G36X0Y0D02*M02*") Aperture 0 (text "a")).number ≡ 4
unfolding attribute_of answer_in answer_for answer_at held heard_with heard_in later kept before from_on taken_at outline_of word_outline region_after begins_contour saying_of spoken saying asks_ta value_in commands_of commands_from turn_of turned led lead_of lead_of_setting lead_of_flaw tail_fault tail_of fits cut_by command_in next_command in_field letter_here kind_of text_from end_of bad_in permitted printable may_break breaks_after command_of word_of newer_word operation_of operation_code uncoded operation_in operates draw move without_offset judged fields_in field_at given missing broken too_long alone axis_of offset_of taken_in coordinate_in whole_in worth filled in_force is_format places_of newer no_format coordinate_end is_digit all_digits is_number value_of has_minus after_sign past_sign signed drop_leading is_old is_old_edition extended_of data_in is_unread is_refused data_of one_block recognised field_of deletion_of is_name name_start name_byte name_bytes letter flaw_number pick first_in among same_bytes ◌and◌ ◌or◌
newer_refused = refl
