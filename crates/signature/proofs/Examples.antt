-- Worked examples, by computation: which bytes are a signature, and files on either side of each number.
-- Assumes nothing.
use Prim.Native.Nat.{ℕ}
use Prim.Native.String.{String}
use mathlib.Core.Path.{◌≡◌, refl}
use mathlib.Core.Bool.{Bool, true, false}
use mathlib.Core.List.{List, [], ◌∷◌, map}
use Rattle.base.specs.And.{◌and◌}
use Rattle.base.specs.Or.{◌or◌}
use Rattle.base.specs.Bytes.{same_bytes}
use Rattle.text.specs.First.{first_in}
use Rattle.text.specs.Text.{text, among}
use Rattle.book.specs.Books.{is_old_edition, is_old, ascii, film}
use Rattle.book.specs.declared.Book.{Book}
use Rattle.scan.specs.Fields.{in_field}
use Rattle.scan.specs.Permitted.{printable, breaks_after, may_break, permitted, letter_here, bad_in}
use Rattle.scan.specs.Scan.{kind_of, text_from, end_of, cut_by, command_in, next_command}
use Rattle.scan.specs.Tail.{tail_of}
use Rattle.digest.specs.Text.{unbroken}
use Rattle.digest.specs.Bytes.{bytes_of}
use Rattle.digest.specs.Md5.{padding, length_of, tail, initial, blocks, output, md5}
use Rattle.digest.specs.Word.{words_of, rotated}
use Rattle.digest.specs.Table.{table}
use Rattle.digest.specs.Rounds.{mixed, place, amounts, amount, operation, row, added, block}
use Rattle.hexadecimal.specs.Digits.{hex_digit, hex_digits, small, same_digits}
use Rattle.hexadecimal.specs.Hex.{digit, hex_of}
use Rattle.signature.specs.Form.{is_end, is_signature, digits_of}
use Rattle.signature.specs.Signature.{signed, refused, judged, bare, at_end, walked, signature_of}

-- decision 119
abbrev forms : List (String × Bool)
forms =
    ("%TF.MD5,d41d8cd98f00b204e9800998ecf8427e*%", true)
    ∷ ("%TF.MD5,D41D8CD98F00B204e9800998ecf8427e*%", true)
    ∷ ("%TF.MD5,d41d8cd98f00b204e9800998ecf8427*%", false)
    ∷ ("%TF.MD5,d41d8cd98f00b204e9800998ecf8427e0*%", false)
    ∷ ("%TF.MD5,d41d8cd98f00b204e9800998ecf8427g*%", false)
    ∷ ("%TF.MD5,d41d8cd98f00b204e9800998ecf8427e,1*%", false)
    ∷ ("%TA.MD5,d41d8cd98f00b204e9800998ecf8427e*%", false)
    ∷ ("%TF.MD5,d41d8cd98f00b204e9800998ecf8427e%", false)
    ∷ []

forms_hold : map (λ row. is_signature (text row.0)) forms ≡ map (λ row. row.1) forms
unfolding is_signature hex_digits hex_digit digits_of same_bytes ◌and◌ ◌or◌
forms_hold = refl

-- number and place of a refusal (decisions 116 to 118)
abbrev files : List (String × ℕ × ℕ)
files =
    ("", 3, 0)
    ∷ ("Q*", 3, 2)
    ∷ ("G04\r*", 2, 3)
    ∷ ("M02*", 25, 0)
    ∷ ("Q*\nM02*x", 25, 3)
    ∷ ("Q*M02*\n\u{1}", 2, 7)
    ∷ ("%TF.MD5,d41d8cd98f00b204e9800998ecf8427e*%G04*M02*", 25, 46)
    ∷ []

abbrev told : Book → List ℕ → ℕ × ℕ
told book file = ((signature_of book file).number, (signature_of book file).place)

abbrev refusal : String × ℕ × ℕ → ℕ × ℕ
refusal row = (row.1, row.2)

files_hold : map (λ row. told ascii (text row.0)) files ≡ map refusal files
unfolding signature_of walked at_end judged refused bare is_end is_old is_old_edition is_signature hex_digits hex_digit digits_of unbroken tail_of next_command command_in cut_by kind_of text_from end_of in_field letter_here bad_in permitted printable may_break breaks_after first_in among same_bytes ◌and◌ ◌or◌
files_hold = refl

-- `M2` ends a file of the old book, and none of the newer edition (decision 511); what else stands there is not judged by its form
abbrev short_ends : List (String × ℕ × ℕ)
short_ends =
    ("M2*", 25, 0)
    ∷ ("Q*M2*\n\u{1}", 2, 6)
    ∷ ("%LNa*%M2*x", 25, 6)
    ∷ ("M002*", 3, 5)
    ∷ ("M02*", 25, 0)
    ∷ []

short_ends_hold : map (λ row. told film (text row.0)) short_ends ≡ map refusal short_ends
unfolding signature_of walked at_end judged refused bare is_end is_old is_old_edition is_signature hex_digits hex_digit digits_of unbroken tail_of next_command command_in cut_by kind_of text_from end_of in_field letter_here bad_in permitted printable may_break breaks_after first_in among same_bytes ◌and◌ ◌or◌
short_ends_hold = refl

short_end_newer : told ascii (text "M2*") ≡ (3, 3)
unfolding signature_of walked at_end judged refused bare is_end is_old is_old_edition is_signature hex_digits hex_digit digits_of unbroken tail_of next_command command_in cut_by kind_of text_from end_of in_field letter_here bad_in permitted printable may_break breaks_after first_in among same_bytes ◌and◌ ◌or◌
short_end_newer = refl

-- a film, signed
film_signed : signature_of film (text "G4x*%TF.MD5,c9c55c5c857971146348578a2ac9f373*%M2*") ≡ signed (0xc9 ∷ 0xc5 ∷ 0x5c ∷ 0x5c ∷ 0x85 ∷ 0x79 ∷ 0x71 ∷ 0x14 ∷ 0x63 ∷ 0x48 ∷ 0x57 ∷ 0x8a ∷ 0x2a ∷ 0xc9 ∷ 0xf3 ∷ 0x73 ∷ [])
unfolding signature_of walked at_end judged signed refused bare is_end is_old is_old_edition is_signature hex_digits hex_digit digits_of same_digits small hex_of digit unbroken tail_of next_command command_in cut_by kind_of text_from end_of in_field letter_here bad_in permitted printable may_break breaks_after first_in among same_bytes ◌and◌ ◌or◌ words_of rotated table mixed place amounts amount operation row added block bytes_of padding length_of tail initial blocks output md5
film_signed = refl
