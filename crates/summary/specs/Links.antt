-- The aperture record with a number, by the links that a reading leaves in the records (decision 209). A store may have any words there: the
-- links are followed so far as they lead to records, and count where they lead to every one.
use Rattle.std.specs.Prelude.{ℕ, zero, suc, ◌+◌, ◌*◌, ◌/◌, ◌%◌, Bool, true, false, List, eqb, ltb, get_or}
use Rattle.sheet.specs.Records.{aperture_width}
use Rattle.sheet.specs.Every.{every}

abbrev pub number_at : List ℕ → ℕ → ℕ
number_at a b = get_or a (b * aperture_width) 0

-- the link of record b, by the lowest bit of a key
abbrev pub link_at : List ℕ → ℕ → ℕ → ℕ
link_at a b key = get_or a (b * aperture_width + 6 + key % 2) 0

-- the record with the number k, of the first n, that the links from record b on lead to in so many steps; n where they lead to none
unfoldable pub leads_to : List ℕ → ℕ → ℕ → ℕ → ℕ → ℕ → ℕ
leads_to a n zero b key k = n
leads_to a n (suc steps) b key k =
    elim (ltb b n) [
      | true ↦ elim (eqb (number_at a b) k) [ true ↦ b | false ↦ leads_to a n steps (link_at a b key) (key / 2) k ]
      | false ↦ n
    ]

-- a number has 64 bits
unfoldable pub record_of : List ℕ → ℕ → ℕ → ℕ
record_of a n k = leads_to a n 65 0 k k

-- every record is led to
unfoldable pub is_led : List ℕ → ℕ → ℕ → Bool
is_led a n b = eqb (record_of a n (number_at a b)) b

unfoldable pub is_linked : List ℕ → ℕ → Bool
is_linked a n = every (is_led a n) 0 n
