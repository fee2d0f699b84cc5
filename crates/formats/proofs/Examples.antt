-- Worked examples, computed: what FS says, and what digits are worth.
-- Assumes nothing.
use Rattle.std.specs.Prelude.{Err, Ok, Result, ℤ}
use mathlib.Core.Path.{◌≡◌, refl}
use mathlib.Core.Bool.{true, false}
use mathlib.Core.List.{List, [], ◌∷◌}
use lib.IntN.{pos, negsuc}
use Rattle.base.specs.And.{◌and◌}
use Rattle.base.specs.Or.{◌or◌}
use Rattle.base.specs.Bytes.{same_bytes}
use Rattle.base.specs.Choose.{pick}
use Rattle.ints.specs.Ints.{signed}
use Rattle.text.specs.Text.{text, among}
use Rattle.digits.specs.Digits.{is_digit, all_digits, is_number, value_of}
use Rattle.digits.specs.Sign.{has_minus, after_sign}
use Rattle.formats.specs.Format.{is_format, newer, no_format, in_force, places_of}
use Rattle.formats.specs.Texts.{newer_format, of_form, old_format}
use Rattle.formats.specs.Values.{filled, value_in, whole_in, coordinate_in}
use Rattle.digits.specs.declared.answers.NumberError.TheVariants as number_error
use Rattle.digits.specs.declared.answers.NumberError.{NumberError}
use Rattle.formats.specs.declared.FormatError.TheVariants as format_error
use Rattle.formats.specs.declared.Format.{Format}
use Rattle.formats.specs.declared.FormatError.{FormatError}

-- 2 places and 3, leading zeros left out, absolute; trailing ones, incremental; none before the point; the newer edition's own
formats :
    ◌≡◌ {A = List (Result Format FormatError)}
    (old_format (text "FSLAX23Y23") ∷ old_format (text "FSTIX34Y34") ∷ old_format (text "FSLAX06Y06") ∷ old_format (text "FSLAX46Y46") ∷ newer_format (text "FSLAX46Y46") ∷ [])
    (Ok (record { integers = 2; decimals = 3; trailing = false; incremental = false })
    ∷ Ok (record { integers = 3; decimals = 4; trailing = true; incremental = true })
    ∷ Ok (record { integers = 0; decimals = 6; trailing = false; incremental = false })
    ∷ Ok (newer 4)
    ∷ Ok (newer 4)
    ∷ [])
unfolding old_format newer_format of_form newer pick among same_bytes ◌and◌ ◌or◌
formats = refl

-- seven places are 30, but 4 where the form is broken too
refused :
    ◌≡◌ {A = List (Result Format FormatError)}
    (old_format (text "FSLAX27Y27") ∷ old_format (text "FSLAX70Y70") ∷ old_format (text "FSLAX78Y78") ∷ old_format (text "FSLAX00Y00") ∷ old_format (text "FSLAX23Y24")
    ∷ old_format (text "FSDAX23Y23") ∷ old_format (text "FSLX23Y23") ∷ old_format (text "FSLAX23Y23M1") ∷ newer_format (text "FSLAX45Y45") ∷ newer_format (text "FSTAX46Y46") ∷ [])
    (Err format_error.SevenPlaces ∷ Err format_error.SevenPlaces ∷ Err format_error.NotForm ∷ Err format_error.NotForm ∷ Err format_error.NotForm ∷ Err format_error.NotForm ∷ Err format_error.NotForm ∷ Err format_error.NotForm ∷ Err format_error.NotForm ∷ Err format_error.NotForm ∷ [])
unfolding old_format newer_format of_form pick among same_bytes ◌and◌ ◌or◌
refused = refl

-- 2 places and 3: `1500` is 1.5 with leading zeros left out and 15 with trailing ones; five digits are the same in both, six too many
places :
    ◌≡◌ {A = List (Result ℤ NumberError)}
    (coordinate_in (record { integers = 2; decimals = 3; trailing = false; incremental = false }) (text "1500")
    ∷ coordinate_in (record { integers = 2; decimals = 3; trailing = true; incremental = false }) (text "1500")
    ∷ coordinate_in (record { integers = 2; decimals = 3; trailing = true; incremental = false }) (text "-05")
    ∷ coordinate_in (record { integers = 2; decimals = 3; trailing = false; incremental = false }) (text "12345")
    ∷ coordinate_in (record { integers = 2; decimals = 3; trailing = true; incremental = false }) (text "12345")
    ∷ coordinate_in (record { integers = 2; decimals = 3; trailing = true; incremental = false }) (text "123450")
    ∷ coordinate_in (record { integers = 6; decimals = 0; trailing = true; incremental = false }) (text "9")
    ∷ coordinate_in (newer 4) (text "-1234567890")
    ∷ coordinate_in no_format (text "123456789012")
    ∷ coordinate_in no_format (text "+")
    ∷ [])
    (Ok (pos 1500000)
    ∷ Ok (pos 15000000)
    ∷ Ok (negsuc 4999999)
    ∷ Ok (pos 12345000)
    ∷ Ok (pos 12345000)
    ∷ Err number_error.TooLong
    ∷ Ok (pos 900000000000)
    ∷ Ok (negsuc 1234567889)
    ∷ Ok (pos 123456789012)
    ∷ Err number_error.NotForm
    ∷ [])
unfolding coordinate_in whole_in value_in filled in_force is_format newer no_format places_of is_number all_digits is_digit value_of has_minus after_sign signed ◌and◌ ◌or◌
places = refl
