-- How large what an expression holds can be: below 10 ^ 12 millionths.
-- Assumes nothing.
use Rattle.std.specs.Prelude.{None, Option, Some, ℤ, Err, Ok, Result}
use Prim.Native.Nat.{ℕ, ◌^◌, ◌<◌, ◌-◌}
use mathlib.Core.Path.{◌≡◌, refl}
use mathlib.Core.Bool.{Bool, true, false, cond}
use mathlib.Core.List.{List}
use native.Mathlib.Omega.{arith}
use lib.Dec.{ltb}
use lib.IntN.{ℤ, pos, nat_abs}
use lib.ListN.{length}
use lib.Seq.{slice}
use mir.Facts.{to_z-of_z}
use mir.Syntax.{w64}
use mir.Val.{to_z, of_z}
use Rattle.ints.proofs.Bounded.{fits_of}
use Rattle.decimal.specs.Decimal.{decimal_of}
use Rattle.decimal.proofs.Sizes.{decimal_size}
use Rattle.base.specs.Choose.{pick}
use Rattle.command.specs.Numbers.{sized_as}
use Rattle.macro_tokens.specs.Tokens.{token_of, lexed, word_end}
use Rattle.macro_tokens.specs.declared.Token.{Token}
use Rattle.macro_tokens.specs.declared.Lexeme.{Lexeme}
use Rattle.macro_tokens.specs.declared.Token.TheVariants.{End, Number, Variable, Plus, Minus, Times, Over, Open, Close, Unknown}
use Rattle.reckon.specs.Rounding.{sum_of, difference_of, product_of, quotient_of}
use Rattle.reckon.proofs.Sizes.{sum_size, difference_size, product_size, quotient_size}
use Rattle.expression.specs.Grammar.{leaf_of, sum_by, product_by}
use Rattle.expression.specs.Reading.{Fits, worked_of}
use Rattle.expression.specs.declared.Leaf.{Leaf}
use Rattle.expression.specs.declared.Leaf.TheVariants as leaf
use Rattle.digits.specs.declared.answers.NumberError.TheVariants as number_error
use Rattle.digits.specs.declared.answers.NumberError.{NumberError}
use Rattle.decimal.specs.declared.answers.Decimal.{Decimal}

-- a number's value is small
pub record Small (z : ℤ) : Type 0 where
  pub size : nat_abs z < 10 ^ 12

-- what is small is read back as it was stored
pub stored_small : (z : ℤ) → nat_abs z < 10 ^ 12 → to_z w64 (of_z w64 z) ≡ z
stored_small z h = to_z-of_z (fits_of z (omega arith))

abbrev pub SmallToken : Token → Type 0
SmallToken End = Unit
SmallToken (Number n) = Small n.value.millionths
SmallToken (Variable n) = Unit
SmallToken Plus = Unit
SmallToken Minus = Unit
SmallToken Times = Unit
SmallToken Over = Unit
SmallToken Open = Unit
SmallToken Close = Unit
SmallToken Unknown = Unit

zero_small : Small (pos 0)
zero_small = record { size = omega arith }

pub sized_small : (t : List ℕ) → Small (sized_as (decimal_of t)).value.millionths
unfolding sized_as
sized_small t = go (decimal_of t) refl
  where
    go : (d : Result Decimal NumberError) → decimal_of t ≡ d → Small (sized_as d).value.millionths
    go (Err number_error.NotForm) e = zero_small
    go (Err number_error.TooLong) e = zero_small
    go (Ok d) e = record { size = decimal_size t d.amount d.rounded e }

either_small : (t : Bool) (a b : Token) → SmallToken a → SmallToken b → SmallToken (pick t a b)
unfolding pick
either_small true a b p q = p
either_small false a b p q = q

token_small : (w : List ℕ) → SmallToken (token_of w)
unfolding token_of
token_small w =
    either_small _ _ _ (sized_small w)
    (either_small _ _ _ tt (either_small _ _ _ tt (either_small _ _ _ tt (either_small _ _ _ tt (either_small _ _ _ tt (either_small _ _ _ tt (either_small _ _ _ tt tt)))))))

pub lexed_small : (s : List ℕ) (at : ℕ) → SmallToken (lexed s at).token
unfolding lexed
lexed_small s at = go (ltb at (length s))
  where
    go : (t : Bool) →
        SmallToken (cond {A = Lexeme} t (record { token = token_of (slice at (word_end s at) s); next = word_end s at }) (record { token = End; next = at })).token
    go true = token_small (slice at (word_end s at) s)
    go false = tt

-- and so is what a factor begins with
abbrev pub SmallLeaf : Leaf → Type 0
SmallLeaf leaf.Nothing = Unit
SmallLeaf (leaf.Value a) = Small a.millionths
SmallLeaf leaf.Open = Unit

pub leaf_small : (variables : List ℤ) → Fits variables → (t : Token) → SmallToken t → SmallLeaf (leaf_of variables t)
unfolding leaf_of
leaf_small variables f End p = tt
leaf_small variables f (Number n) p = p
leaf_small variables f (Variable n) p = record { size = f.each (n.value - 1) }
leaf_small variables f Plus p = tt
leaf_small variables f Minus p = tt
leaf_small variables f Times p = tt
leaf_small variables f Over p = tt
leaf_small variables f Open p = tt
leaf_small variables f Close p = tt
leaf_small variables f Unknown p = tt

-- and what operations leave
abbrev pub SmallResult : Option ℤ → Type 0
SmallResult None = Unit
SmallResult (Some z) = Small z

result_small : (r : Option ℤ) → ((z : ℤ) → r ≡ Some z → nat_abs z < 10 ^ 12) → SmallResult r
result_small None f = tt
result_small (Some z) f = record { size = f z refl }

pub sum_small : (minus : Bool) (a b : ℤ) → SmallResult (sum_by minus a b)
unfolding sum_by
sum_small true a b = result_small (difference_of a b) (difference_size a b)
sum_small false a b = result_small (sum_of a b) (sum_size a b)

pub product_small : (over : Bool) (a b : ℤ) → SmallResult (product_by over a b)
unfolding product_by
product_small true a b = result_small (quotient_of a b) (quotient_size a b)
product_small false a b = result_small (product_of a b) (product_size a b)

pub worked_small : (r : Option ℤ) (next : ℕ) → SmallResult r → nat_abs (worked_of r next).value.millionths < 10 ^ 12
unfolding worked_of
worked_small None next p = omega arith
worked_small (Some z) next p = p.size
