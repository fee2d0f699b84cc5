-- Worked examples, by computation: a file's attributes by number and by name; a name that begins alike is another, and a TA is none.
-- Assumes nothing.
use Prim.Native.Nat.{ℕ}
use Prim.Native.String.{String}
use mathlib.Core.Path.{◌≡◌, refl}
use mathlib.Core.List.{List, [], ◌∷◌, map}
use Rattle.base.specs.And.{◌and◌}
use Rattle.base.specs.Or.{◌or◌}
use Rattle.base.specs.Bytes.{same_bytes}
use Rattle.base.specs.Choose.{pick}
use Rattle.book.specs.Books.{is_old_edition, is_old, ascii}
use Rattle.formats.specs.Format.{no_format}
use Rattle.text.specs.First.{first_in}
use Rattle.text.specs.Name.{letter, name_start, name_byte, name_bytes, is_name}
use Rattle.text.specs.Text.{text, among}
use Rattle.scan.specs.Permitted.{fits, printable, breaks_after, may_break, permitted, letter_here, bad_in}
use Rattle.scan.specs.Scan.{kind_of, text_from, end_of, cut_by, command_in, next_command}
use Rattle.scan.specs.Tail.{tail_of}
use Rattle.scan.specs.Fields.{in_field}
use Rattle.letters.specs.Table as letters-Table
use Rattle.command.specs.Span.{span}
use Rattle.words.specs.Newer.{code_of, newer_word}
use Rattle.words.specs.Words.{word_of}
use Rattle.attribute_commands.specs.Attributes.{value_of, attribute_of, deletion_of}
use Rattle.recognise.specs.Commands.{one_block, is_unread, data_of, data_in, extended_of, command_of}
use Rattle.sequence.specs.Commands.{commands_from, commands_of}
use Rattle.sequence.specs.Leads.{lead_of_flaw, lead_of_setting, lead_of}
use Rattle.sequence.specs.Turns.{led, turned, turn_of, tail_fault}
use Rattle.names.specs.Sets.{sets_by, sets_of}
use Rattle.labels.specs.Labels.{none, refused, value_in, label_of, label_by, label_set_by, before, labels_in, is_named, named_in, nth_in, closing, judged, answer_in, label_named, label_at}
use Rattle.labels.specs.declared.Answer.{Answer}

abbrev file : List ℕ
file = text "%TF.ab,1*%%TAa,2*%\n%TF.a,3,4*%%TFb*%M02*"

-- a number, and where name and value begin and end
abbrev answer : ℕ → ℕ → ℕ → ℕ → ℕ → Answer
answer number n m v w = record { number = number; label = record { name = span n m; value = span v w } }

abbrev numbered : List (ℕ × ℕ × ℕ × ℕ × ℕ × ℕ)
numbered = (0, 0, 3, 6, 7, 8) ∷ (1, 0, 22, 24, 25, 28) ∷ (2, 0, 33, 34, 0, 0) ∷ (3, 23, 0, 0, 0, 0) ∷ []

by_number_lem : map (λ row. label_at ascii file row.0) numbered ≡ map (λ row. answer row.1 row.2 row.3 row.4 row.5) numbered
unfolding label_at answer_in judged closing nth_in labels_in before label_set_by label_by label_of value_in refused none sets_of sets_by commands_of commands_from turn_of turned led lead_of lead_of_setting lead_of_flaw tail_fault tail_of fits cut_by command_in next_command in_field letter_here letters-Table.letter_in letters-Table.whole_of letters-Table.lead_of letters-Table.lead_in letters-Table.table letters-Table.follows letters-Table.within kind_of text_from end_of bad_in permitted printable may_break breaks_after command_of word_of newer_word code_of is_old is_old_edition no_format extended_of data_in is_unread data_of one_block attribute_of value_of deletion_of is_name name_start name_byte name_bytes letter pick first_in among same_bytes ◌and◌ ◌or◌
by_number_lem = refl

abbrev named : List (String × ℕ × ℕ × ℕ × ℕ × ℕ)
named = (".ab", 0, 3, 6, 7, 8) ∷ (".a", 0, 22, 24, 25, 28) ∷ ("a", 23, 0, 0, 0, 0) ∷ ("b", 0, 33, 34, 0, 0) ∷ []

by_name_lem : map (λ row. label_named ascii file (text row.0)) named ≡ map (λ row. answer row.1 row.2 row.3 row.4 row.5) named
unfolding label_named answer_in judged closing is_named named_in labels_in before label_set_by label_by label_of value_in refused none sets_of sets_by commands_of commands_from turn_of turned led lead_of lead_of_setting lead_of_flaw tail_fault tail_of fits cut_by command_in next_command in_field letter_here letters-Table.letter_in letters-Table.whole_of letters-Table.lead_of letters-Table.lead_in letters-Table.table letters-Table.follows letters-Table.within kind_of text_from end_of bad_in permitted printable may_break breaks_after command_of word_of newer_word code_of is_old is_old_edition no_format extended_of data_in is_unread data_of one_block attribute_of value_of deletion_of is_name name_start name_byte name_bytes letter pick first_in among same_bytes ◌and◌ ◌or◌
by_name_lem = refl
