-- Worked examples of document 01's form rules and of the old book's, by computation.
-- Assumes nothing.
use Rattle.std.specs.Prelude.{None, Some}
use Prim.Native.String.{String}
use mathlib.Core.Path.{◌≡◌, refl}
use mathlib.Core.Bool.{true, false}
use mathlib.Core.List.{List, [], ◌∷◌, map}
use lib.IntN.{pos, negsuc}
use Rattle.base.specs.And.{◌and◌}
use Rattle.base.specs.Or.{◌or◌}
use Rattle.base.specs.Bytes.{same_bytes}
use Rattle.ints.specs.Ints.{signed}
use Rattle.points.specs.Points.{pt}
use Rattle.digits.specs.Coordinate.{coordinate_end}
use Rattle.digits.specs.Digits.{is_digit, all_digits, is_number, value_of as digits_value}
use Rattle.digits.specs.Natural.{natural_of}
use Rattle.digits.specs.Sign.{has_minus, after_sign, past_sign}
use Rattle.base.specs.Trimmed.{drop_leading, kept_before, drop_trailing}
use Rattle.decimal.specs.Decimal.{is_decimal, nearest, in_millionths, is_rounded, amount_of, numeral_of, decimal_of}
use Rattle.decimal.specs.Point.{before_point, after_point}
use Rattle.text.specs.First.{first_in}
use Rattle.text.specs.Name.{letter, name_start, name_byte, name_bytes, is_name}
use Rattle.text.specs.Text.{text, among}
use Rattle.scan.specs.declared.Kind.{Kind}
use Rattle.scan.specs.declared.Kind.TheVariants.{Word, Extended}
use Rattle.base.specs.Choose.{pick}
use Rattle.book.specs.Books.{ascii, film, is_old_edition, is_old}
use Rattle.formats.specs.Format.{is_format, newer, in_force, places_of}
use Rattle.formats.specs.Texts.{newer_format, of_form, old_format}
use Rattle.formats.specs.Values.{filled, value_in, whole_in, coordinate_in, taken_in}
use Rattle.formats.specs.declared.Format.{Format as Places}
use Rattle.films.specs.Codes as film-codes
use Rattle.films.specs.Parameters.{is_refused}
use Rattle.films.specs.Words as film-words
use Rattle.command.specs.Numbers.{judged, in_range, sized_as}
use Rattle.command.specs.Span.{span}
use Rattle.command.specs.declared.Command.{Command}
use Rattle.command.specs.declared.Command.TheVariants.{Note, End, Set, Operate, Coded, Select, Define, Contain, Attribute}
use Rattle.command.specs.declared.Setting.TheVariants.{Linear, RegionEnd, Incremental, Halt, Format, Rotation, Scale}
use Rattle.command.specs.declared.Operation.TheVariants.{Draw, Move}
use Rattle.command.specs.declared.Definition.TheVariants.{Aperture}
use Rattle.command.specs.declared.Bracket.TheVariants.{BlockEnd}
use Rattle.command.specs.declared.Deed.TheVariants.{SetObject, DeleteAll}
use Rattle.command.specs.Flaws as flaws
use Rattle.command.specs.Rounded.{counted}
use Rattle.operations.specs.Coordinates.{given, missing, field_at, fields_in}
use Rattle.operations.specs.Operations.{broken, too_long, alone, axis_of, offset_of, draw, without_offset, move, operation_in, operates, coded, uncoded, operation_of}
use Rattle.words.specs.Newer.{comment_of, select_of, code_of, newer_word}
use Rattle.words.specs.Old.{setting_of, operated, said, old_word}
use Rattle.words.specs.Words.{word_of}
use Rattle.settings.specs.Header.{formatted, format_of}
use Rattle.settings.specs.Transformations.{rotation_of, scale_of, transformation_of}
use Rattle.apertures.specs.Definitions.{definition, aperture_of}
use Rattle.apertures.specs.Blocks.{block_of}
use Rattle.apertures.specs.Parameters.{more, gathered, parameters_of}
use Rattle.text.specs.Pieces.{onto, parted, pieces}
use Rattle.attribute_commands.specs.Attributes.{value_of, attribute_of, deletion_of}
use Rattle.recognise.specs.Commands.{one_block, is_unread, data_of, data_in, extended_of, command_of}

-- Commands of the newer edition after FS with n 3. Unknown, or not of their form (decisions 3, 23, 26, 27 and 31)
abbrev unknown : List (Kind × String)
unknown =
    (Word, "G74")
    ∷ (Word, "G54")
    ∷ (Word, "G1")
    ∷ (Word, "G01X1Y1D01")
    ∷ (Word, "X1Y1")
    ∷ (Word, "X1I1D01")
    ∷ (Word, "D9")
    ∷ (Extended, "LPD")
    ∷ (Extended, "LPD**")
    ∷ (Extended, "MOMM*G01*")
    ∷ []

unknown_refused : map (λ row. command_of ascii (newer 3) row.0 (text row.1)) unknown ≡ map (λ row. flaws.not_form) unknown
unfolding command_of word_of newer_word is_old is_old_edition extended_of data_in is_unread data_of one_block transformation_of code_of select_of fields_in field_at given missing operation_of operation_in operates uncoded draw broken alone too_long axis_of offset_of taken_in coordinate_in whole_in value_in filled in_force is_format places_of newer coordinate_end is_digit all_digits is_number digits_value has_minus after_sign past_sign signed natural_of in_range judged pick first_in among same_bytes ◌and◌ ◌or◌
unknown_refused = refl

-- commands of their form (decisions 19, 22, 24, 25 and 41; 02, [1])
abbrev known : List (Kind × String × Command)
known =
    (Word, "G04any, thing", Note)
    ∷ (Word, "D010", Select 10)
    ∷ (Word, "D01", Operate (Draw None None None))
    ∷ (Word, "X1Y-2I3J4D01", Operate (Draw (Some (pos 1)) (Some (negsuc 1)) (Some (record { offset = pt (pos 3) (pos 4); signed = false }))))
    ∷ (Word, "X0000000001D01", flaws.too_long)
    ∷ (Extended, "FSLAX36Y36*", Set (Format (newer 3)))
    ∷ (Extended, "LS.5*\r\n", Set (Scale (record { millionths = pos 500000 }) 0))
    ∷ (Extended, "LR-.0000005*", Set (Rotation (record { millionths = negsuc 0 }) 1))
    ∷ (Extended, "ADD10R,1X.5*", Define (Aperture 10 (span 5 6) (span 6 11) 0))
    ∷ (Extended, "ADD10R,1.00000010X.5000000*", Define (Aperture 10 (span 5 6) (span 6 26) 1))
    ∷ (Extended, "AB*", Contain BlockEnd)
    ∷ (Extended, "TO.N,a,*", Attribute (SetObject (span 2 4) (span 5 7)))
    ∷ (Extended, "TD*", Attribute DeleteAll)
    ∷ []

known_recognised : map (λ row. command_of ascii (newer 3) row.0 (text row.1)) known ≡ map (λ row. row.2) known
unfolding command_of word_of newer_word is_old is_old_edition comment_of select_of fields_in field_at given missing operation_of operation_in operates uncoded draw broken alone too_long axis_of offset_of taken_in coordinate_in whole_in value_in filled in_force is_format places_of newer coordinate_end is_digit all_digits is_number digits_value has_minus after_sign past_sign signed natural_of in_range judged extended_of data_in is_unread data_of one_block format_of formatted newer_format transformation_of rotation_of scale_of sized_as counted decimal_of numeral_of amount_of is_rounded in_millionths nearest is_decimal drop_leading kept_before drop_trailing before_point after_point aperture_of definition parameters_of gathered more pieces parted onto is_name name_start name_byte name_bytes letter block_of attribute_of value_of deletion_of pick first_in among same_bytes ◌and◌ ◌or◌
known_recognised = refl

-- Commands of the old edition after FSTIX23Y23 (decisions 482 to 486 and 500)
abbrev trailing : Places
trailing = record { integers = 2; decimals = 3; trailing = true; incremental = true }

abbrev films : List (Kind × String × Command)
films =
    (Word, "G54D10", Select 10)
    ∷ (Word, "G4", Note)
    ∷ (Word, "M0", Set Halt)
    ∷ (Word, "M2", End)
    ∷ (Word, "G91", Set Incremental)
    ∷ (Word, "X1Y-15I+5J0D1", Operate (Draw (Some (pos 10000000)) (Some (negsuc 14999999)) (Some (record { offset = pt (pos 50000000) (pos 0); signed = true }))))
    ∷ (Word, "G1X1Y1D2", Coded Linear (Move (Some (pos 10000000)) (Some (pos 10000000))))
    ∷ (Word, "G37D01", Coded RegionEnd (Draw None None None))
    ∷ (Word, "G1X100000D2", flaws.too_long)
    ∷ (Word, "G40", flaws.not_form)
    ∷ (Word, "G54", flaws.not_form)
    ∷ (Word, "G1G2X1D1", flaws.not_form)
    ∷ (Word, "G1X1Y1", flaws.not_form)
    ∷ (Extended, "FSTIX23Y23*", Set (Format trailing))
    ∷ (Extended, "FSLAX27Y27*", flaws.unread)
    ∷ (Extended, "FSLAX27Y26*", flaws.not_form)
    ∷ (Extended, "ASAXBY*", flaws.unread)
    ∷ (Extended, "LNx*\r\n", flaws.unread)
    ∷ (Extended, "LNx", flaws.not_form)
    ∷ (Extended, "LNx*LPD*", flaws.not_form)
    ∷ []

films_recognised : map (λ row. command_of film trailing row.0 (text row.1)) films ≡ map (λ row. row.2) films
unfolding command_of word_of old_word said operated setting_of coded move without_offset film-words.word_of film-words.general_of film-words.miscellaneous_of film-words.other_of film-words.coded_of film-words.operate_of film-words.comment_of film-codes.code_of film-codes.later_codes film-codes.operation_in film-codes.operation_length film-codes.ends_in_one film-codes.is_end is_old is_old_edition select_of fields_in field_at given missing operation_of operation_in operates uncoded draw broken alone too_long axis_of offset_of taken_in coordinate_in whole_in value_in filled in_force is_format places_of newer coordinate_end is_digit all_digits is_number digits_value has_minus after_sign past_sign signed natural_of in_range judged extended_of data_in is_unread is_refused data_of one_block format_of formatted old_format of_form pick first_in among same_bytes ◌and◌ ◌or◌
films_recognised = refl

-- of the old edition alone: 4 in the newer
abbrev films_only : List (Kind × String)
films_only = (Word, "D1") ∷ (Word, "M0") ∷ (Word, "G54D10") ∷ (Word, "G4") ∷ (Extended, "LNx*") ∷ (Extended, "FSLAX27Y27*") ∷ (Extended, "FSTAX26Y26*") ∷ []

not_in_the_newer : map (λ row. command_of ascii (newer 3) row.0 (text row.1)) films_only ≡ map (λ row. flaws.not_form) films_only
unfolding command_of word_of newer_word is_old is_old_edition extended_of data_in is_unread data_of one_block format_of formatted newer_format transformation_of code_of select_of fields_in field_at given missing operation_of operation_in operates uncoded draw broken alone too_long axis_of offset_of taken_in coordinate_in whole_in value_in filled in_force is_format places_of newer coordinate_end is_digit all_digits is_number digits_value has_minus after_sign past_sign signed natural_of in_range judged pick first_in among same_bytes ◌and◌ ◌or◌
not_in_the_newer = refl
