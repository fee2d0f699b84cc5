-- An aperture that an AD defines stays as it is to the end of the reading, and so do its numbers: a block that closes has another number.
-- Assumes nothing.
use Prim.Native.Nat.{ℕ, zero, suc, ◌<◌}
use mathlib.Core.Path.{◌≡◌, refl, sym, ap, ◌∙◌}
use mathlib.Core.Bool.{Bool, true, false, cond, false≢true}
use mathlib.Core.List.{List, [], ◌∷◌, ◌++◌, append_assoc, append-nil}
use native.Mathlib.Omega.{arith}
use lib.Dec.{eqb}
use lib.IntN.{ℤ}
use lib.ListN.{length}
use borrow.Author.Tests.{eq-eqb, ne_eqb, eqb-true}
use Rattle.base.specs.Or.{◌or◌}
use Rattle.graphics.specs.declared.Level.{Level}
use Rattle.law_reading.specs.State as opened
use Rattle.law_reading.specs.State.{Aperture, Opened}
use Rattle.law_reading.specs.Apertures.{is_taken, defined, opening, block_of, closing}
use Rattle.law_kept.proofs.Found.{taken_stays, new_taken, closing_taken}
use Rattle.law_shapes.proofs.Led.{most_numbers}
use Rattle.law_shapes.proofs.Steps.{Said, Lasts}

-- ---- the numbers of open blocks are taken, and all numbers have 31 bits

abbrev pub Taken : List Opened → List Aperture → Type 0
Taken [] known = Unit
Taken (opened.block n l ∷ os) known = (is_taken n known ≡ true) × Taken os known
Taken (opened.repeat l ∷ os) known = Taken os known

abbrev pub LowNumbers : List Aperture → Type 0
LowNumbers [] = Unit
LowNumbers (x ∷ xs) = (x.number < most_numbers) × LowNumbers xs

pub record Tidy (known : List Aperture) (os : List Opened) (ns : List ℤ) : Type 0 where
  pub taken : Taken os known
  pub low : LowNumbers known

taken_more : (os : List Opened) (known : List Aperture) (p : Aperture) → Taken os known → Taken os (known ++ p ∷ [])
taken_more [] known p h = tt
taken_more (opened.block n l ∷ os) known p h = (taken_stays p n known h.0, taken_more os known p h.1)
taken_more (opened.repeat l ∷ os) known p h = taken_more os known p h

taken_closing : (n items height : ℕ) (os : List Opened) (known : List Aperture) → Taken os known → Taken os (closing n items height known)
taken_closing n items height [] known h = tt
taken_closing n items height (opened.block m l ∷ os) known h = (closing_taken n items height m known ∙ h.0, taken_closing n items height os known h.1)
taken_closing n items height (opened.repeat l ∷ os) known h = taken_closing n items height os known h

low_more : (known : List Aperture) (p : Aperture) → p.number < most_numbers → LowNumbers known → LowNumbers (known ++ p ∷ [])
low_more [] p l h = (l, tt)
low_more (x ∷ xs) p l h = (h.0, low_more xs p l h.1)

low_closing : (n items height : ℕ) (known : List Aperture) → LowNumbers known → LowNumbers (closing n items height known)
unfolding closing block_of
low_closing n items height [] h = tt
low_closing n items height (x ∷ xs) h = (go (eqb n x.number) refl, low_closing n items height xs h.1)
  where
    go : (t : Bool) → eqb n x.number ≡ t → (let y : Aperture = cond t (block_of n items height) x in y.number < most_numbers)
    go true e = let same = eqb-true n x.number e in omega (arith, same, h.0)
    go false e = h.0

pub tidy_lasts : Lasts Tidy
unfolding defined opening
tidy_lasts = record {
  adds = λ {known} {os} {ns} n name kept free low h. record { taken = taken_more os known _ h.taken; low = low_more known _ low h.low };
  opens = λ {known} {os} {ns} n l free low h. record { taken = (new_taken (opening n) known, taken_more os known _ h.taken); low = low_more known _ low h.low };
  closes = λ {known} {os} {ns} n items height l h. record { taken = taken_closing n items height os known h.taken.1; low = low_closing n items height known h.low };
  repeats = λ {known} {os} {ns} l h. record { taken = h.taken; low = h.low };
  repeated = λ {known} {os} {ns} l h. record { taken = h.taken; low = h.low };
}

-- ---- one aperture, with the numbers up to its last

abbrev pub Stands : ℕ → Aperture → List Aperture → Type 0
Stands i p [] = ⊥
Stands zero p (x ∷ xs) = x ≡ p
Stands (suc i) p (x ∷ xs) = Stands i p xs

-- the number is that of no block that is open
abbrev pub Shut : ℕ → List Opened → Type 0
Shut n [] = Unit
Shut n (opened.block m l ∷ os) = (m ≡ n → ⊥) × Shut n os
Shut n (opened.repeat l ∷ os) = Shut n os

pub record Stays (p : Aperture) (i : ℕ) (own : List ℤ) (known : List Aperture) (os : List Opened) (ns : List ℤ) : Type 0 where
  pub stands : Stands i p known
  pub shut : Shut p.number os
  pub more : List ℤ
  pub numbers : ns ≡ own ++ more

stands_more : (i : ℕ) (p : Aperture) (xs ys : List Aperture) → Stands i p xs → Stands i p (xs ++ ys)
stands_more i p [] ys h = absurd h
stands_more zero p (x ∷ xs) ys h = h
stands_more (suc i) p (x ∷ xs) ys h = stands_more i p xs ys h

pub stands_new : (p : Aperture) (xs : List Aperture) → Stands (length xs) p (xs ++ p ∷ [])
stands_new p [] = refl
stands_new p (x ∷ xs) = stands_new p xs

stands_taken : (i : ℕ) (p : Aperture) (xs : List Aperture) → Stands i p xs → is_taken p.number xs ≡ true
unfolding is_taken ◌or◌
stands_taken i p [] h = absurd h
stands_taken zero p (x ∷ xs) h = rw (eq-eqb p.number x.number (ap (λ (y : Aperture). y.number) (sym h))) refl
stands_taken (suc i) p (x ∷ xs) h = go (eqb p.number x.number) (stands_taken i p xs h)
  where
    go : (t : Bool) → is_taken p.number xs ≡ true → (t or is_taken p.number xs) ≡ true
    go true e = refl
    go false e = e

stands_closing : (n items height i : ℕ) (p : Aperture) (xs : List Aperture) → (n ≡ p.number → ⊥) → Stands i p xs → Stands i p (closing n items height xs)
unfolding closing
stands_closing n items height i p [] ne h = absurd h
stands_closing n items height zero p (x ∷ xs) ne h =
    let same : x.number ≡ p.number = ap (λ (y : Aperture). y.number) h in
    rw (ne_eqb n x.number (λ e. ne (e ∙ same))) h
stands_closing n items height (suc i) p (x ∷ xs) ne h = stands_closing n items height i p xs ne h

module _ (p : Aperture) (i : ℕ) (own : List ℤ) where
  other : (known : List Aperture) (n : ℕ) → Stands i p known → is_taken n known ≡ false → n ≡ p.number → ⊥
  other known n h free e = false≢true (sym free ∙ ap (λ (m : ℕ). is_taken m known) e ∙ stands_taken i p known h)

  pub stays_lasts : Lasts (Stays p i own)
  stays_lasts = record {
    adds = λ {known} {os} {ns} n name kept free low h. record {
      stands = stands_more i p known _ h.stands;
      shut = h.shut;
      more = h.more ++ kept;
      numbers = ap (λ (l : List ℤ). l ++ kept) h.numbers ∙ append_assoc own h.more kept;
    };
    opens = λ {known} {os} {ns} n l free low h. record {
      stands = stands_more i p known _ h.stands;
      shut = (other known n h.stands free, h.shut);
      more = h.more;
      numbers = h.numbers;
    };
    closes = λ {known} {os} {ns} n items height l h. record {
      stands = stands_closing n items height i p known h.shut.0 h.stands;
      shut = h.shut.1;
      more = h.more;
      numbers = h.numbers;
    };
    repeats = λ {known} {os} {ns} l h. record { stands = h.stands; shut = h.shut; more = h.more; numbers = h.numbers };
    repeated = λ {known} {os} {ns} l h. record { stands = h.stands; shut = h.shut; more = h.more; numbers = h.numbers };
  }

-- a number that is free is that of no open block
pub free_shut : (n : ℕ) (os : List Opened) (known : List Aperture) → is_taken n known ≡ false → Taken os known → Shut n os
free_shut n [] known free h = tt
free_shut n (opened.block m l ∷ os) known free h = (λ e. false≢true (sym free ∙ ap (λ (k : ℕ). is_taken k known) (sym e) ∙ h.0), free_shut n os known free h.1)
free_shut n (opened.repeat l ∷ os) known free h = free_shut n os known free h
