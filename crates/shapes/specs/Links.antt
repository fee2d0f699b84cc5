-- The aperture record with a number, by the links that a reading leaves in the records (decisions 209 and 563). Any words may stand there:
-- links that lead to no record in use, or too far, lead astray.
use Rattle.std.specs.Prelude.{ℕ, zero, suc, true, false, List, eqb, ltb, Err, Ok, Result}
use Rattle.index.specs.Tree.{bits_above, next}
use Rattle.index.specs.Numbers.{number_of}
use Rattle.shapes.specs.declared.LookupError.TheVariants as lookup_error
use Rattle.shapes.specs.declared.LookupError.{LookupError}

-- from record i on, with `key` the bits of the number that are left: so many records are looked at
unfoldable pub led_from : List ℕ → ℕ → ℕ → ℕ → ℕ → ℕ → Result ℕ LookupError
led_from a used number zero i key = Err lookup_error.NotSheet
led_from a used number (suc steps) i key =
    elim (ltb i used) [
      | true ↦ elim (eqb (number_of a i) number) [
        | true ↦ Ok i
        | false ↦ elim (eqb (next a i key) 0) [
          | true ↦ Err lookup_error.Unknown
          | false ↦ led_from a used number steps (next a i key) (bits_above key)
        ]
      ]
      | false ↦ Err lookup_error.NotSheet
    ]

-- the number of an aperture has 31 bits: at most as many links, and one record more
unfoldable pub led : List ℕ → ℕ → ℕ → Result ℕ LookupError
led a used number = elim (eqb used 0) [ true ↦ Err lookup_error.Unknown | false ↦ led_from a used number 32 0 number ]
