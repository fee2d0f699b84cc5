-- The numbers of a macro's aperture: primitives one after the other, each a number with its code and count and then its parameters (decision 562).
use Rattle.std.specs.Prelude.{ℕ, zero, suc, ◌+◌, ◌-◌, ◌*◌, ◌/◌, Bool, true, false, not, List, [], ◌∷◌, eqb, leb, ltb, ℤ, pos, nat_abs, length, get_or, Option, Some, None}
use Rattle.base.specs.And.{◌and◌}
use Rattle.base.specs.Or.{◌or◌}
use Rattle.base.specs.Choose.{choose}
use Rattle.ints.specs.Ints.{is_neg}
use Rattle.primitives.specs.Heading.{code_in, count_in}
use Rattle.shapes.specs.declared.Primitive.{Primitive}

abbrev pub number_at : List ℤ → ℕ → ℤ
number_at n i = get_or n i (pos 0)

unfoldable pub primitive_at : List ℤ → ℕ → Primitive
primitive_at n at = record { code = code_in (nat_abs (number_at n at)); first = at + 1; count = count_in (nat_abs (number_at n at)) }

-- where the next one stands
abbrev pub behind : List ℤ → ℕ → ℕ
behind n at = at + 1 + count_in (nat_abs (number_at n at))

-- "Parameter counts": as many as the code has, an outline's by its n, the second of them in millionths (01, Macros)
unfoldable pub count_fits : ℕ → ℕ → ℕ → Bool
count_fits code count n =
    choose
    ((eqb code 1, eqb count 4 or eqb count 5)
    ∷ (eqb code 4, eqb count (5 + 2 * (n / 1000000)))
    ∷ (eqb code 5, eqb count 6)
    ∷ (eqb code 7, eqb count 6)
    ∷ (eqb code 20, eqb count 7)
    ∷ (eqb code 21, eqb count 6)
    ∷ [])
    false

-- a whole primitive stands at a place, before the end
unfoldable pub stands : List ℤ → ℕ → ℕ → Bool
stands n at end =
    not (is_neg (number_at n at)) and leb (behind n at) end
    and count_fits (code_in (nat_abs (number_at n at))) (count_in (nat_abs (number_at n at))) (nat_abs (number_at n (at + 2)))

-- primitives, and whether the numbers are such to their end
pub record Cut : Type 0 where
  pub whole : Bool
  pub list : List Primitive

unfoldable pub onto : Primitive → Cut → Cut
onto p c = record { whole = c.whole; list = p ∷ c.list }

-- those of the numbers from a place up to an end, in at most so many steps
unfoldable pub cut_from : List ℤ → ℕ → ℕ → ℕ → Cut
cut_from n zero at end = record { whole = not (ltb at end); list = [] }
cut_from n (suc steps) at end =
    elim (ltb at end) [
      | true ↦ elim (stands n at end) [
        | true ↦ onto (primitive_at n at) (cut_from n steps (behind n at) end)
        | false ↦ record { whole = false; list = [] }
      ]
      | false ↦ record { whole = true; list = [] }
    ]

-- each takes a number at least, so that as many steps as there are numbers are enough
unfoldable pub primitives_in : List ℤ → ℕ → ℕ → Cut
primitives_in n first end = cut_from n (end - first) first end

unfoldable pub counted_by : Bool → ℕ → Option ℕ
counted_by true k = Some k
counted_by false k = None

unfoldable pub counted_as : Cut → Option ℕ
counted_as c = counted_by c.whole (length c.list)
