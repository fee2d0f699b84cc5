-- Small files by computation: six that are refused, each with its number and its place (01, Numbers the reader answers, and "Run only"),
-- and one that is accepted, of which reading knows the format and the unit and nothing else.
-- Assumes nothing.
use mathlib.Core.Path.{◌≡◌, refl}
use mathlib.Core.Bool.{false}
use mathlib.Core.List.{[], ◌∷◌, map}
use Rattle.base.specs.And.{◌and◌}
use Rattle.base.specs.Or.{◌or◌}
use Rattle.text.specs.Text.{text}
use Rattle.law_reading.specs.State.{Room}
use Rattle.law_reading.specs.Reading.{accepted, refused}
use Rattle.base.specs.Bytes.{same_bytes}
use Rattle.ints.specs.Ints.{signed, is_neg}
use Rattle.digits.specs.Digits.{is_digit, all_digits, is_number, value_of}
use Rattle.digits.specs.Natural.{natural_of}
use Rattle.digits.specs.Sign.{has_minus, after_sign}
use Rattle.base.specs.Trimmed.{drop_leading, kept_before, drop_trailing}
use Rattle.text.specs.First.{first_in, before_byte, after_byte}
use Rattle.text.specs.Name.{letter, name_start, name_byte, name_bytes, is_name}
use Rattle.text.specs.Text.{among}
use Rattle.book.specs.Books.{ascii, is_old_edition, is_old}
use Rattle.scan.specs.Permitted.{fits, printable, breaks_after, may_break, permitted, letter_here, bad_in}
use Rattle.scan.specs.Scan.{text_from, end_of, cut_by, command_in, next_command}
use Rattle.scan.specs.Scan as scan-Scan
use Rattle.scan.specs.Tail.{tail_of}
use Rattle.scan.specs.Fields.{in_field}
use Rattle.letters.specs.Table as letters-Table
use Rattle.base.specs.Choose.{pick}
use Rattle.command.specs.Flaws.{flaw_number}
use Rattle.command.specs.Numbers.{judged, in_range, any_size, sized_as}
use Rattle.words.specs.Newer.{newer_word}
use Rattle.words.specs.Newer as words-Newer
use Rattle.words.specs.Words.{word_of}
use Rattle.settings.specs.Header.{formatted, format_of, unit_of}
use Rattle.formats.specs.Format.{newer, no_format}
use Rattle.formats.specs.Texts.{newer_format}
use Rattle.recognise.specs.Commands.{one_block, is_unread, data_of, data_in, extended_of, command_of}
use Rattle.sequence.specs.Commands.{commands_from, commands_of}
use Rattle.sequence.specs.Leads.{lead_of_flaw, lead_of_setting, lead_of}
use Rattle.sequence.specs.Turns.{led, turn_of, tail_fault}
use Rattle.sequence.specs.Turns as commands-Turns
use Rattle.graphics.specs.Graphics.{origin, unset, no_aperture, no_region, with_header, with_notation, with_point, with_aperture, with_mode, with_quadrants, with_transform, with_region}
use Rattle.graphics.specs.Graphics as graphics-Graphics
use Rattle.graphics.specs.Orientation.{angle_of, angle_after, orientation}
use Rattle.changes.specs.After.{along, target, going_to, empty_region, starts_contour, drawing, ended, with_format, with_unit, with_coded, with_clear, with_mirror, with_rotation, with_scale, after_setting, after_operation, after}
use Rattle.operation_tests.specs.Far.{is_formatted}
use Rattle.operation_tests.specs.Fits.{is_missing, unready, placeless, unclosed}
use Rattle.operation_rules.specs.Faults.{draw_items, draw_fault, move_fault, flash_items, flash_fault, region_end_fault}
use Rattle.decimal.specs.Amounts.{above_zero}
use Rattle.command_rules.specs.Bounds.{is_count, is_repeat}
use Rattle.command_rules.specs.Settings.{setting_rules, setting_fault}
use Rattle.command_rules.specs.Rules.{region_fault, format_fault, unit_fault, scale_fault, select_fault, aperture_fault, macro_fault, block_start_fault, closing_fault, repeat_start_fault, file_attribute_fault, end_fault}
use Rattle.marks.specs.Marks.{draw_marks, flash_marks, operation_marks, bracket_marks, marks_of}
use Rattle.marks.specs.Marks as marks-Marks
use Rattle.law_reading.specs.Apertures.{is_taken, selected, aperture_from, aperture_with, is_among, names_of, blocks_of, is_standard, values_of, outcome_of, defined, opening, closing}
use Rattle.law_reading.specs.Apertures as reading-Apertures
use Rattle.law_reading.specs.Reading.{read_on}
use Rattle.law_reading.specs.Reading as reading-Reading
use Rattle.law_reading.specs.State.{outermost, begun}
use Rattle.law_reading.specs.Steps.{passed, with_graphics, with_level, with_opened, with_apertures, with_macros, with_names, with_numbers, setting_step, draw_step, flash_height, flash_step, move_step, select_step, aperture_step, macro_step, block_start_step, repeat_start_step, block_ends, repeat_ends, block_end_step, repeat_end_step, file_attribute_step, operation_step, definition_step, bracket_step, deed_step, step_of}

unfoldable pub room : Room
room = record { entries = 1; apertures = 1; macros = 1; numbers = 1 }

pub small_files :
    map (λ s. reading-Reading.reading ascii room (text s))
    ("" ∷ "D9*M02*" ∷ "M02*" ∷ "D10*M02*" ∷ "%FSLAX26Y26*%%MOMM*%G36*M02*" ∷ "%FSLAX26Y26*%%MOMM*%M02*A" ∷ "%FSLAX26Y26*%%MOIN*%M02*" ∷ [])
    ≡ refused 3 0 ∷ refused 4 0 ∷ refused 6 0 ∷ refused 8 0 ∷ refused 7 24 ∷ refused 18 24
    ∷ accepted (with_graphics (with_header (record { format = newer 2; unit = 2; coded = 0 }) (graphics-Graphics.start false)) (begun ascii)) ∷ []
unfolding room ◌and◌ same_bytes ◌or◌ signed is_neg is_digit all_digits is_number value_of natural_of has_minus after_sign drop_leading kept_before drop_trailing first_in before_byte after_byte letter name_start name_byte name_bytes is_name among fits printable breaks_after may_break permitted bad_in text_from end_of cut_by command_in next_command in_field letter_here letters-Table.letter_in letters-Table.whole_of letters-Table.lead_of letters-Table.lead_in letters-Table.table letters-Table.follows letters-Table.within tail_of pick flaw_number judged in_range any_size sized_as word_of format_of unit_of one_block data_of extended_of command_of commands_from commands_of lead_of_flaw lead_of_setting lead_of led turn_of tail_fault origin unset no_aperture no_region with_point with_aperture with_mode with_quadrants with_transform with_region angle_of angle_after orientation along target going_to empty_region starts_contour drawing ended with_unit with_clear with_mirror with_rotation with_scale after_setting after_operation after is_missing unready placeless unclosed draw_items draw_fault move_fault flash_items flash_fault region_end_fault above_zero is_count is_repeat setting_rules setting_fault region_fault format_fault unit_fault scale_fault select_fault aperture_fault macro_fault block_start_fault closing_fault repeat_start_fault file_attribute_fault end_fault draw_marks flash_marks operation_marks bracket_marks marks_of is_taken selected aperture_from aperture_with is_among names_of blocks_of is_standard values_of outcome_of defined opening closing read_on outermost begun passed with_graphics with_level with_opened with_apertures with_macros with_names with_numbers setting_step draw_step flash_height flash_step move_step select_step aperture_step macro_step block_start_step repeat_start_step block_ends repeat_ends block_end_step repeat_end_step file_attribute_step operation_step definition_step bracket_step deed_step step_of scan-Scan.kind_of commands-Turns.turned graphics-Graphics.start marks-Marks.repeat_of reading-Apertures.block_of reading-Reading.reading newer_word words-Newer.code_of words-Newer.select_of formatted newer_format newer no_format is_unread data_in is_old_edition is_old with_header with_notation with_format with_coded is_formatted
small_files = refl
