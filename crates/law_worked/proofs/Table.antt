-- P1 to P10: each side computes, the numbers by the definitions of rounding, arcs and thermals, the files by the definition of reading.
-- Assumes nothing.
use mathlib.Core.Path.{◌≡◌, refl}
use mathlib.Core.Bool.{xor}
use mathlib.Core.List.{map}
use Rattle.base.specs.Run.{run}
use Rattle.base.specs.And.{◌and◌}
use Rattle.base.specs.Bytes.{same_bytes}
use Rattle.base.specs.Or.{◌or◌}
use Rattle.ints.specs.Ints.{signed, is_neg}
use Rattle.points.specs.Points.{same_point, shift, flipped}
use Rattle.points.specs.Points as points-Points
use Rattle.digits.specs.Coordinate.{whole_of, coordinate_of, coordinate_end, coordinate_at}
use Rattle.digits.specs.Digits.{is_digit, all_digits, is_number, value_of}
use Rattle.digits.specs.Natural.{natural_of}
use Rattle.digits.specs.Sign.{has_minus, after_sign, past_sign}
use Rattle.base.specs.Trimmed.{drop_leading, kept_before, drop_trailing}
use Rattle.decimal.specs.Decimal.{is_decimal, nearest, in_millionths, is_rounded, amount_of, numeral_of, decimal_of}
use Rattle.decimal.specs.Point.{before_point, after_point}
use Rattle.text.specs.First.{first_in, before_byte, after_byte}
use Rattle.text.specs.Name.{letter, name_start, name_byte, name_bytes, is_name}
use Rattle.text.specs.Text.{among}
use Rattle.scan.specs.Permitted.{fits, printable, breaks_after, may_break, permitted, letter_here, bad_in}
use Rattle.scan.specs.Scan.{text_from, end_of, cut_by, command_in, next_command}
use Rattle.scan.specs.Scan as scan-Scan
use Rattle.scan.specs.Tail.{tail_of}
use Rattle.scan.specs.Fields.{in_field}
use Rattle.letters.specs.Table as letters-Table
use Rattle.base.specs.Choose.{pick}
use Rattle.command.specs.Flaws.{flaw_number}
use Rattle.command.specs.Rounded as command-Rounded
use Rattle.command.specs.Numbers.{judged, in_range, any_size, sized_as}
use Rattle.operations.specs.Coordinates.{given, missing, field_at, fields_in}
use Rattle.operations.specs.Operations.{broken, too_long, alone, axis_of, draw, move, flash, operation_in, operates, coded, uncoded, operation_code, operation_of}
use Rattle.operations.specs.Operations as operations-Operations
use Rattle.words.specs.Newer.{comment_of, select_of, newer_word}
use Rattle.words.specs.Newer as words-Newer
use Rattle.words.specs.Words.{word_of}
use Rattle.settings.specs.Header.{formatted, format_of, unit_of}
use Rattle.formats.specs.Format.{is_format, newer, no_format, in_force, places_of}
use Rattle.formats.specs.Texts.{newer_format}
use Rattle.formats.specs.Values.{filled, value_in, whole_in, coordinate_in, taken_in}
use Rattle.book.specs.Books.{is_old_edition, is_old}
use Rattle.settings.specs.Repeats.{repeats, repeat_start}
use Rattle.settings.specs.Repeats as settings-Repeats
use Rattle.settings.specs.Transformations.{rotation_of, scale_of, mirror_of, transformation_of}
use Rattle.apertures.specs.Blocks.{block_start}
use Rattle.apertures.specs.Blocks as apertures-Blocks
use Rattle.apertures.specs.Definitions.{definition, aperture_of}
use Rattle.apertures.specs.Parameters.{more, gathered, parameters_of}
use Rattle.text.specs.Pieces.{onto, parted, pieces}
use Rattle.recognise.specs.Commands.{one_block, is_unread, data_of, data_in, extended_of, command_of}
use Rattle.sequence.specs.Commands.{commands_from, commands_of}
use Rattle.sequence.specs.Leads.{lead_of_flaw, lead_of_setting, lead_of}
use Rattle.sequence.specs.Turns.{led, turn_of, tail_fault}
use Rattle.sequence.specs.Turns as commands-Turns
use Rattle.primitives.specs.Asked.{none, asked}
use Rattle.graphics.specs.Graphics.{origin, unset, no_aperture, no_region, with_header, with_notation, with_point, with_aperture, with_mode, with_quadrants, with_transform, with_region}
use Rattle.graphics.specs.Graphics as graphics-Graphics
use Rattle.graphics.specs.Orientation.{angle_of, angle_after, orientation}
use Rattle.changes.specs.After.{along, target, going_to, empty_region, starts_contour, drawing, ended, with_format, with_unit, with_coded, with_clear, with_mirror, with_rotation, with_scale, after_setting, after_operation, after}
use Rattle.operation_tests.specs.Far.{is_formatted, is_far, goes_far}
use Rattle.operation_tests.specs.Fits.{is_missing, unready, placeless, circular, has_brush, brushless, has_offset, is_signed, quadrantless, arcless, draw_misfits, flash_misfits, moveless, draws_far, unclosed, askew, too_tall}
use Rattle.operation_tests.specs.Fits as fits-Fits
use Rattle.arcs.specs.Arcs.{single, rests, centre_of, bad_centre, centreless, kind_drawn, arc_centre}
use Rattle.operation_rules.specs.Counts.{counted, too_many}
use Rattle.operation_rules.specs.Faults.{draw_items, draw_fault, move_fault, flash_items, flash_fault, region_end_fault}
use Rattle.command_rules.specs.Bounds.{is_count, is_repeat}
use Rattle.decimal.specs.Amounts.{above_zero}
use Rattle.command_rules.specs.Settings.{setting_rules, setting_fault}
use Rattle.command_rules.specs.Rules.{region_fault, format_fault, unit_fault, scale_fault, select_fault, aperture_fault, macro_fault, block_start_fault, closing_fault, repeat_start_fault, file_attribute_fault, end_fault}
use Rattle.marks.specs.Items.{drawn, edge, contour, flashed, pose}
use Rattle.marks.specs.Marks.{draw_marks, flash_marks, operation_marks, bracket_marks, marks_of}
use Rattle.marks.specs.Marks as marks-Marks
use Rattle.templates.specs.Templates.{with_hole, rectangle, plain_circle}
use Rattle.templates.specs.Templates as templates-Templates
use Rattle.law_reading.specs.Apertures.{is_taken, selected, aperture_from, aperture_with, is_among, names_of, blocks_of, is_standard, values_of, outcome_of, defined, opening, closing}
use Rattle.law_reading.specs.Apertures as reading-Apertures
use Rattle.law_reading.specs.Levels.{higher, raised_to, with_items, in_block, in_repeat}
use Rattle.law_reading.specs.Reading.{read_on}
use Rattle.law_reading.specs.Reading as reading-Reading
use Rattle.law_reading.specs.State.{outermost, begun}
use Rattle.law_reading.specs.Steps.{passed, with_graphics, with_level, with_opened, with_apertures, with_macros, with_names, with_numbers, setting_step, draw_step, flash_height, flash_step, move_step, select_step, aperture_step, macro_step, block_start_step, repeat_start_step, block_ends, repeat_ends, block_end_step, repeat_end_step, file_attribute_step, operation_step, definition_step, bracket_step, deed_step, step_of}
use Rattle.place.specs.Parts.{◌then◌, items_in}
use Rattle.place.specs.Mark.{edges, with_count, parts_of, put, closed, marked, written, parts_from}
use Rattle.place.specs.Mark as place-Mark
use Rattle.place.specs.Copies.{step, copies}
use Rattle.place.specs.Outer.{brought, flashed_by}
use Rattle.place.specs.Placing.{placed, moved, moved_if, turned_angle, swapped}
use Rattle.place.specs.Item.{has_start, has_end, is_arc, is_oriented}
use Rattle.ints.specs.Ints.{eq_z}
use Rattle.reckon.specs.Rounding as rounding
use Rattle.reckon.specs.Thermal.{gap_fits, thermal_fits}
use Rattle.reckon.specs.ArcCentre.{seen_from, parallel, between, strictly_between, nonsense_centre}
use Rattle.macro_tokens.specs.Words as tokens-Words
use Rattle.macro_tokens.specs.Tokens as tokens-Tokens
use Rattle.macro_form.specs.Blocks as form-Blocks
use Rattle.macro_form.specs.Expression as form-Expression
use Rattle.macro_form.specs.Macro.{headed, macro_of}
use Rattle.expression.specs.Grammar as grammar
use Rattle.expression.specs.Value as value
use Rattle.primitives.specs.Rules as primitive
use Rattle.macros.specs.Given as macros-Given
use Rattle.macros.specs.Work as work
use Rattle.law_worked.specs.Questions.{worth, reading, reading_at, reckoned_as, listed, keeping, macro_file, arc_file, answer, ample}
use Rattle.law_worked.specs.Questions as asked-Questions
use Rattle.law_worked.specs.Table.{said, answers, said_of, numbers, strip, item, output, table}

pub either_side_of_a_line : map answers table ≡ map said_of table
unfolding answer answers said said_of numbers table worth reading reading_at reckoned_as listed keeping asked-Questions.judged macro_file arc_file ample strip item output xor run
    ◌and◌
    same_bytes
    ◌or◌
    signed is_neg
    same_point shift flipped
    points-Points.turned
    whole_of coordinate_of coordinate_end coordinate_at
    is_digit all_digits is_number value_of
    natural_of
    has_minus after_sign past_sign
    drop_leading kept_before drop_trailing
    is_decimal nearest in_millionths is_rounded amount_of numeral_of decimal_of
    before_point after_point
    first_in before_byte after_byte
    letter name_start name_byte name_bytes is_name
    among
    fits printable breaks_after may_break permitted bad_in
    text_from end_of cut_by command_in next_command in_field letter_here letters-Table.letter_in letters-Table.whole_of letters-Table.lead_of letters-Table.lead_in letters-Table.table letters-Table.follows letters-Table.within
    scan-Scan.kind_of
    tail_of
    pick
    flaw_number judged in_range any_size sized_as command-Rounded.counted
    given missing field_at fields_in
    broken too_long alone axis_of draw move flash operation_in operates coded uncoded operation_code operation_of
    operations-Operations.offset_of operations-Operations.without_offset
    comment_of select_of newer_word word_of
    words-Newer.code_of
    formatted format_of unit_of
    is_format newer no_format in_force places_of newer_format filled value_in whole_in coordinate_in taken_in is_old_edition is_old
    repeats repeat_start
    settings-Repeats.repeat_of
    rotation_of scale_of mirror_of transformation_of
    block_start
    apertures-Blocks.block_of
    definition aperture_of
    more gathered parameters_of
    onto parted pieces
    one_block is_unread data_of data_in extended_of command_of
    commands_from commands_of
    lead_of_flaw lead_of_setting lead_of
    led turn_of tail_fault
    commands-Turns.turned
    none asked
    origin unset no_aperture no_region with_header with_notation with_point with_aperture with_mode with_quadrants with_transform with_region
    graphics-Graphics.start
    angle_of angle_after orientation
    along target going_to empty_region starts_contour drawing ended with_format with_unit with_coded with_clear with_mirror with_rotation with_scale after_setting after_operation after
    is_formatted is_far goes_far
    is_missing unready placeless circular has_brush brushless has_offset is_signed quadrantless arcless draw_misfits flash_misfits moveless draws_far unclosed askew too_tall
    fits-Fits.offset_of
    single rests centre_of bad_centre centreless kind_drawn
    counted too_many
    draw_items draw_fault move_fault flash_items flash_fault region_end_fault
    above_zero is_count is_repeat
    setting_rules setting_fault region_fault format_fault unit_fault scale_fault select_fault aperture_fault macro_fault block_start_fault closing_fault repeat_start_fault file_attribute_fault end_fault
    arc_centre drawn edge contour flashed pose
    draw_marks flash_marks operation_marks bracket_marks marks_of
    marks-Marks.repeat_of
    with_hole rectangle plain_circle
    templates-Templates.circle templates-Templates.polygon templates-Templates.kind_of templates-Templates.keeps
    is_taken selected aperture_from aperture_with is_among names_of blocks_of is_standard values_of outcome_of defined opening closing
    reading-Apertures.block_of
    higher raised_to with_items in_block in_repeat
    read_on
    reading-Reading.reading
    outermost begun
    passed with_graphics with_level with_opened with_apertures with_macros with_names with_numbers setting_step draw_step flash_height flash_step move_step select_step aperture_step macro_step block_start_step repeat_start_step block_ends repeat_ends block_end_step repeat_end_step file_attribute_step operation_step definition_step bracket_step deed_step step_of
    edges with_count parts_of put closed marked written parts_from ◌then◌ items_in
    place-Mark.plain
    step copies
    flashed_by brought
    placed moved moved_if turned_angle swapped
    has_start has_end is_arc is_oriented
    eq_z rounding.nearest rounding.kept_of rounding.sum_of rounding.difference_of rounding.product_of rounding.quotient_of rounding.reckoned_refusal
    gap_fits thermal_fits seen_from parallel between strictly_between nonsense_centre
    tokens-Words.numeral tokens-Words.joins tokens-Words.onto tokens-Words.words tokens-Tokens.variable_of tokens-Tokens.token_of tokens-Tokens.tokens
    form-Blocks.good form-Blocks.joined form-Blocks.gathered form-Blocks.parameter_form form-Blocks.primitive_form form-Blocks.numbered form-Blocks.assignment_form form-Blocks.block_form form-Blocks.blocks_form
    form-Expression.start form-Expression.after_operand form-Expression.after_operator form-Expression.opened form-Expression.closed form-Expression.unknown form-Expression.step form-Expression.walked form-Expression.finished form-Expression.expression_form
    headed macro_of
    grammar.head grammar.tail grammar.plus_minus grammar.times_over grammar.sum_by grammar.product_by grammar.following grammar.after grammar.kept grammar.joined grammar.chain grammar.negated grammar.leading grammar.is_close grammar.closed grammar.leaf_of grammar.begun grammar.factor grammar.term grammar.expression grammar.expression_at
    value.whole value.value_of
    primitive.exposure primitive.whole_between primitive.circle primitive.vector_line primitive.center_line primitive.outline primitive.polygon primitive.thermal primitive.code_of primitive.keeps
    macros-Given.given macros-Given.variables_of
    work.onward work.values_of work.verdict work.primitive_done work.assigned work.assignment_done work.block_done work.behind work.worked_out
either_side_of_a_line = refl
