-- How FS writes a format, in each edition (01, Form; 02, [9]; decision 482). A text is that of the data block, without its `*`.
use Rattle.std.specs.Prelude.{ℕ, ◌-◌, Bool, not, List, [], ◌∷◌, ◌++◌, get_or, Err, Ok, Result}
use Prim.Native.Char.{code}
use Rattle.base.specs.And.{◌and◌}
use Rattle.base.specs.Or.{◌or◌}
use Rattle.base.specs.Bytes.{same_bytes}
use Rattle.base.specs.Choose.{pick}
use Rattle.text.specs.Name.{range}
use Rattle.text.specs.Text.{text, byte, one_of}
use Rattle.formats.specs.Format.{newer}
use Rattle.formats.specs.declared.FormatError.TheVariants as format_error
use Rattle.formats.specs.declared.Format.{Format}
use Rattle.formats.specs.declared.FormatError.{FormatError}

-- the newer edition: `FSLAXn6Yn6`, both n equal, 1 to 6
unfoldable pub newer_format : List ℕ → Result Format FormatError
newer_format s =
    let n : ℕ = get_or s 5 0 in
    pick (range "1" "6" n and same_bytes s (text "FSLAX" ++ n ∷ text "6Y" ++ n ∷ text "6")) (Ok (newer (n - code "0"))) (Err format_error.NotForm)

-- the old book: `FS`, L or T, A or I, `X` n m `Y` n m, both axes alike, n and m 0 to 7 and not both 0
unfoldable pub of_form : List ℕ → ℕ → ℕ → ℕ → ℕ → Bool
of_form s zeros notation n m =
    one_of "LT" zeros
    and one_of "AI" notation
    and range "0" "7" n
    and range "0" "7" m
    and not (byte "0" n and byte "0" m)
    and same_bytes s (text "FS" ++ zeros ∷ notation ∷ text "X" ++ n ∷ m ∷ text "Y" ++ n ∷ m ∷ [])

-- "30 for .. 7 places, tested right after 4"; T leaves trailing zeros out, I is incremental
unfoldable pub old_format : List ℕ → Result Format FormatError
old_format s =
    let zeros : ℕ = get_or s 2 0 in
    let notation : ℕ = get_or s 3 0 in
    let n : ℕ = get_or s 5 0 in
    let m : ℕ = get_or s 6 0 in
    pick (of_form s zeros notation n m)
    (pick (byte "7" n or byte "7" m) (Err format_error.SevenPlaces)
    (Ok (record { integers = n - code "0"; decimals = m - code "0"; trailing = byte "T" zeros; incremental = byte "I" notation })))
    (Err format_error.NotForm)
