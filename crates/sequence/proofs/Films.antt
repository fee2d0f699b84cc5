-- Worked examples, by computation: small films of the old book as sequences of commands, on either side of 4 and 30 (02, [9]).
-- Assumes nothing.
use Rattle.std.specs.Prelude.{Some}
use Prim.Native.Nat.{ℕ}
use Prim.Native.String.{String}
use mathlib.Core.Path.{◌≡◌, refl}
use mathlib.Core.Bool.{true, false}
use mathlib.Core.List.{List, [], ◌∷◌, map}
use lib.IntN.{pos}
use Rattle.base.specs.And.{◌and◌}
use Rattle.base.specs.Or.{◌or◌}
use Rattle.base.specs.Bytes.{same_bytes}
use Rattle.base.specs.Choose.{pick}
use Rattle.ints.specs.Ints.{signed}
use Rattle.points.specs.Points.{pt}
use Rattle.digits.specs.Coordinate.{coordinate_end}
use Rattle.digits.specs.Digits.{is_digit, all_digits, is_number, value_of}
use Rattle.digits.specs.Natural.{natural_of}
use Rattle.digits.specs.Sign.{has_minus, after_sign, past_sign}
use Rattle.base.specs.Trimmed.{drop_leading}
use Rattle.text.specs.First.{first_in}
use Rattle.text.specs.Text.{text, among}
use Rattle.book.specs.Books.{film, is_old_edition, is_old}
use Rattle.formats.specs.Format.{is_format, no_format, in_force, places_of}
use Rattle.formats.specs.Texts.{of_form, old_format}
use Rattle.formats.specs.Values.{filled, value_in, whole_in, coordinate_in, taken_in}
use Rattle.formats.specs.declared.Format.{Format as Places}
use Rattle.films.specs.Codes as film-codes
use Rattle.films.specs.Parameters.{is_refused}
use Rattle.films.specs.Words as film-words
use Rattle.scan.specs.Permitted.{fits, printable, breaks_after, may_break, permitted, letter_here, bad_in}
use Rattle.scan.specs.Scan.{kind_of, text_from, end_of, cut_by, command_in, next_command}
use Rattle.scan.specs.Tail.{tail_of}
use Rattle.scan.specs.Fields.{in_field}
use Rattle.letters.specs.Table as letters-Table
use Rattle.command.specs.Flaws.{flaw_number}
use Rattle.command.specs.Numbers.{judged, in_range}
use Rattle.command.specs.declared.Command.{Command}
use Rattle.command.specs.declared.Command.TheVariants.{Note, End, Set, Operate, Coded, Select}
use Rattle.command.specs.declared.Setting.TheVariants.{Linear, Counterclockwise, Halt, Format}
use Rattle.command.specs.declared.Operation.TheVariants.{Draw, Move}
use Rattle.operations.specs.Coordinates.{given, missing, field_at, fields_in}
use Rattle.operations.specs.Operations.{broken, too_long, alone, axis_of, offset_of, draw, without_offset, move, operation_in, operates, coded}
use Rattle.words.specs.Newer.{select_of}
use Rattle.words.specs.Old.{setting_of, operated, said, old_word}
use Rattle.words.specs.Words.{word_of}
use Rattle.settings.specs.Header.{formatted, format_of}
use Rattle.recognise.specs.Commands.{one_block, is_unread, data_of, data_in, extended_of, command_of}
use Rattle.sequence.specs.Commands.{commands_from, commands_of}
use Rattle.sequence.specs.Leads.{lead_of_flaw, lead_of_setting, lead_of}
use Rattle.sequence.specs.Turns.{refusal, led, turned, turn_of, tail_fault}
use Rattle.sequence.specs.declared.Placed.{Placed}

abbrev at : ℕ → ℕ → ℕ → Command → Placed
at place from end c = record { place = place; from = from; end = end; command = c }

-- two places before the point and three after it, trailing zeros left out
abbrev trailing : Places
trailing = record { integers = 2; decimals = 3; trailing = true; incremental = false }

-- `05` is five units there, written out 05000; a code and its operation are one command; M00 ends nothing
abbrev drawn : List Placed
drawn =
    at 0 1 12 (Set (Format trailing))
    ∷ at 13 13 19 (Select 10)
    ∷ at 20 20 27 (Operate (Move (Some (pos 10000000)) (Some (pos 5000000))))
    ∷ at 29 29 43 (Coded Counterclockwise (Draw (Some (pos 12000000)) (Some (pos 0)) (Some (record { offset = pt (pos 1000000) (pos 0); signed = false }))))
    ∷ at 44 44 46 (Set Halt)
    ∷ at 47 47 50 Note
    ∷ at 51 51 53 End
    ∷ []

-- a film, its commands, and the number and place of its fault
abbrev films : List (String × List Placed × ℕ × ℕ)
films =
    ("%FSTAX23Y23*%G54D10*X1Y05D2*\nG3X12Y0I01J0D1*M0*G4x*M2*\r\n", drawn, 0, 0)
    ∷ ("G1*G40*M2*", at 0 0 2 (Set Linear) ∷ [], 4, 3)
    ∷ ("G54*M2*", [], 4, 0)
    ∷ ("G1*%FSLAX27Y27*%", at 0 0 2 (Set Linear) ∷ [], 30, 3)
    ∷ ("%ASAXBY*%M2*", [], 30, 0)
    ∷ ("%LNx*%M2*", [], 30, 0)
    ∷ ("%LNx*LPD*%M2*", [], 4, 0)
    ∷ []

films_read : map (λ row. commands_of film (text row.0)) films ≡ map (λ row. record { commands = row.1; fault = refusal row.2 row.3 }) films
unfolding commands_of commands_from turn_of turned led lead_of lead_of_flaw lead_of_setting tail_fault tail_of fits cut_by command_in next_command in_field letter_here letters-Table.letter_in letters-Table.whole_of letters-Table.lead_of letters-Table.lead_in letters-Table.table letters-Table.follows letters-Table.within kind_of text_from end_of bad_in permitted printable may_break breaks_after command_of word_of old_word said operated setting_of select_of operation_in operates coded draw move without_offset broken alone too_long axis_of offset_of fields_in field_at given missing taken_in coordinate_in whole_in value_in filled in_force is_format places_of coordinate_end is_digit all_digits is_number value_of has_minus after_sign past_sign signed natural_of drop_leading in_range judged film-words.word_of film-words.general_of film-words.miscellaneous_of film-words.other_of film-words.coded_of film-words.operate_of film-words.comment_of film-codes.code_of film-codes.later_codes film-codes.operation_in film-codes.operation_length film-codes.ends_in_one film-codes.is_end is_old is_old_edition extended_of data_in is_unread is_refused data_of one_block format_of formatted old_format of_form no_format flaw_number pick first_in among same_bytes ◌and◌ ◌or◌
films_read = refl
