-- What makes a macro of a command: a part, and the bytes after it that make none. And the part that stays.
-- Assumes nothing.
use Prim.Native.Nat.{ℕ}
use mathlib.Core.Path.{◌≡◌, refl}
use mathlib.Core.Bool.{Bool, true, false, cond, not, false≢true}
use mathlib.Core.List.{List, ◌∷◌}
use native.Mathlib.Omega.{arith}
use lib.Dec.{eqb}
use Rattle.base.specs.And.{◌and◌}
use Rattle.base.specs.Bytes.{same_bytes}
use Rattle.base.specs.Or.{◌or◌}
use Rattle.text.specs.Text.{◌begins◌}
use Rattle.book.specs.Books.{is_old}
use Rattle.book.specs.declared.Book.{Book}
use Rattle.fields.specs.Parts.{begins_text, is_over, part_after, opens_macro}
use Rattle.fields.specs.declared.Part.{Part}
use Rattle.fields.specs.declared.Part.TheVariants.{Start, CodeG, CodeG0, CodeG4, Mark, MarkA, MarkT, Named, Field, Over}

-- these bytes make no macro of the command
unfoldable pub no_macro : Part → List ℕ → Bool
no_macro Start s = true
no_macro CodeG s = true
no_macro CodeG0 s = true
no_macro CodeG4 s = true
no_macro Mark s = not (s begins "AM")
no_macro MarkA s = not (s begins "M")
no_macro MarkT s = true
no_macro Named s = true
no_macro Field s = true
no_macro Over s = true

plain_no_macro : (t : Bool) (p q : Part) (s : List ℕ) → no_macro p s ≡ true → no_macro q s ≡ true → no_macro (cond t p q) s ≡ true
plain_no_macro true p q s f g = f
plain_no_macro false p q s f g = g

pub macro_none : (part : Part) (b : ℕ) (s : List ℕ) → no_macro part (b ∷ s) ≡ true → opens_macro part b ≡ false
unfolding no_macro opens_macro same_bytes
macro_none Start b s e = refl
macro_none CodeG b s e = refl
macro_none CodeG0 b s e = refl
macro_none CodeG4 b s e = refl
macro_none Mark b s e = refl
macro_none MarkA b s e = go (eqb b 77) refl
  where
    go : (t : Bool) → eqb b 77 ≡ t → eqb b 77 ≡ false
    go true f = absurd (let z : ◌≡◌ {A = Bool} false true = rw (same_bytes, f) at e in let y : ◌≡◌ {A = ℕ} 0 1 = cc in omega arith)
    go false f = f
macro_none MarkT b s e = refl
macro_none Named b s e = refl
macro_none Field b s e = refl
macro_none Over b s e = refl

pub macro_stays : (book : Book) (part : Part) (b : ℕ) (s : List ℕ) → no_macro part (b ∷ s) ≡ true → no_macro (part_after book part b) s ≡ true
unfolding no_macro part_after same_bytes
macro_stays book Start b s e = plain_no_macro (eqb b 71) CodeG Over s refl refl
macro_stays book CodeG b s e =
    plain_no_macro (eqb b 48) CodeG0 (cond (is_old book and eqb b 52) CodeG4 Over) s refl (plain_no_macro (is_old book and eqb b 52) CodeG4 Over s refl refl)
macro_stays book CodeG0 b s e = plain_no_macro (eqb b 52) Field Over s refl refl
macro_stays book CodeG4 b s e = plain_no_macro (begins_text b) Field Over s refl refl
macro_stays book Mark b s e = go (eqb b 65) refl (eqb b 84) refl
  where
    go : (t : Bool) → eqb b 65 ≡ t → (u : Bool) → eqb b 84 ≡ u → no_macro (cond (eqb b 65) MarkA (cond (eqb b 84) MarkT Over)) s ≡ true
    go true f u g = rw f (rw (same_bytes, f) at e)
    go false f true g = rw (f, g)
    go false f false g = rw (f, g)
macro_stays book MarkA b s e = refl
macro_stays book MarkT b s e = plain_no_macro (eqb b 70 or eqb b 65 or eqb b 79) Named Over s refl refl
macro_stays book Named b s e = plain_no_macro (eqb b 42) Over (cond (eqb b 44) Field Named) s refl (plain_no_macro (eqb b 44) Field Named s refl refl)
macro_stays book Field b s e = plain_no_macro (eqb b 42) Over Field s refl refl
macro_stays book Over b s e = refl

-- the part of which no field and no macro comes
pub only_over : (part : Part) → is_over part ≡ true → part ≡ Over
unfolding is_over
only_over Start e = absurd (false≢true e)
only_over CodeG e = absurd (false≢true e)
only_over CodeG0 e = absurd (false≢true e)
only_over CodeG4 e = absurd (false≢true e)
only_over Mark e = absurd (false≢true e)
only_over MarkA e = absurd (false≢true e)
only_over MarkT e = absurd (false≢true e)
only_over Named e = absurd (false≢true e)
only_over Field e = absurd (false≢true e)
only_over Over e = refl
