-- Worked examples, by computation: where a name is set twice, and where none is.
-- Assumes nothing.
use Prim.Native.Nat.{ℕ}
use Prim.Native.String.{String}
use mathlib.Core.Path.{◌≡◌, refl}
use mathlib.Core.List.{List, [], ◌∷◌, map}
use Rattle.base.specs.And.{◌and◌}
use Rattle.base.specs.Or.{◌or◌}
use Rattle.base.specs.Bytes.{same_bytes}
use Rattle.text.specs.First.{first_in}
use Rattle.text.specs.Name.{letter, name_start, name_byte, name_bytes, is_name}
use Rattle.text.specs.Text.{text, among}
use Rattle.book.specs.Books.{ascii, is_old_edition, is_old}
use Rattle.scan.specs.Permitted.{printable, breaks_after, may_break, permitted, letter_here, bad_in}
use Rattle.scan.specs.Scan.{kind_of, text_from, end_of, cut_by, command_in, next_command}
use Rattle.scan.specs.Fields.{in_field}
use Rattle.base.specs.Choose.{pick}
use Rattle.words.specs.Newer.{code_of, newer_word}
use Rattle.words.specs.Words.{word_of}
use Rattle.attribute_commands.specs.Attributes.{value_of, attribute_of}
use Rattle.recognise.specs.Commands.{one_block, is_unread, data_of, data_in, extended_of, command_of}
use Rattle.law_reading.specs.Apertures.{is_among}
use Rattle.names.specs.Sets.{sets_by, sets_of}
use Rattle.names.specs.Twice.{seen, looked, look_at, named_from, twice_from, twice_at}

-- a file, and the place. TF with another name, or TA, sets the name no second time, and one that is part of the other is another name
abbrev files : List (String × ℕ)
files =
    ("", 0)
    ∷ ("%TFa*%G01*%TFa,1*%M02*", 10)
    ∷ ("%TFab*%%TFa*%%TAa*%M02*", 23)
    ∷ ("%TFa*%%TFb*%%TFb*%%TFa*%", 12)
    ∷ ("%TFa*%\0%TFa*%", 13)
    ∷ []

files_looked : map (λ row. twice_at ascii (text row.0)) files ≡ map (λ row. row.1) files
unfolding twice_at twice_from named_from look_at looked seen sets_of sets_by is_among next_command command_in cut_by in_field letter_here kind_of text_from end_of bad_in permitted printable may_break breaks_after command_of word_of newer_word code_of is_old is_old_edition extended_of data_in is_unread data_of one_block attribute_of value_of is_name name_start name_byte name_bytes letter pick first_in among same_bytes ◌and◌ ◌or◌
files_looked = refl
