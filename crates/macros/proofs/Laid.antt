-- Numbers written in two goes are written in one; one before them may be written last.
-- Assumes nothing.
use Prim.Native.Nat.{ℕ, ◌<◌, ◌≤◌}
use mathlib.Core.Path.{◌≡◌, refl, ap, ◌∙◌}
use mathlib.Core.Bool.{Bool, true, false}
use mathlib.Core.List.{List, [], ◌∷◌, ◌++◌}
use native.Mathlib.Omega.{arith}
use lib.Dec.{ltb}
use lib.IntN.{ℤ}
use lib.ListN.{length, set, length-set}
use lib.Seq.{set_out, set-set, set_comm}
use borrow.Author.Tests.{lt-ltb, ltb-true, ltb-false}
use Rattle.macros.specs.Pen.{penned, pens, laid}
use Rattle.macros.specs.declared.Pen.{Pen}

pub length_laid : (l : List ℤ) (p : Pen) (zs : List ℤ) → length (laid l p zs) ≡ length l
unfolding laid
length_laid l p [] = refl
length_laid l p (z ∷ zs) = length_laid (set l p.at z) (penned (length l) p) zs ∙ length-set l p.at z

pub pens_append : (room : ℕ) (p : Pen) (xs ys : List ℤ) → pens room p (xs ++ ys) ≡ pens room (pens room p xs) ys
unfolding pens
pens_append room p [] ys = refl
pens_append room p (x ∷ xs) ys = pens_append room (penned room p) xs ys

pub laid_append : (l : List ℤ) (p : Pen) (xs ys : List ℤ) → laid l p (xs ++ ys) ≡ laid (laid l p xs) (pens (length l) p xs) ys
unfolding laid pens
laid_append l p [] ys = refl
laid_append l p (x ∷ xs) ys =
    laid_append (set l p.at x) (penned (length l) p) xs ys
    ∙ ap (λ (n : ℕ). laid (laid (set l p.at x) (penned (length l) p) xs) (pens n (penned (length l) p) xs) ys) (length-set l p.at x)

-- the pen never goes back
penned_on : (room i : ℕ) (p : Pen) → i < p.at → i < (penned room p).at
unfolding penned
penned_on room i p h = go (ltb p.at room) refl
  where
    go : (b : Bool) → ltb p.at room ≡ b → i < (penned room p).at
    go true e = rw e (omega arith)
    go false e = rw e h

penned_past : (room : ℕ) (p : Pen) → p.at < room → p.at < (penned room p).at
unfolding penned
penned_past room p h = rw (lt-ltb p.at room h) (omega arith)

-- a number before the pen does not touch what is written from there on
laid_set : (l : List ℤ) (p : Pen) (zs : List ℤ) (i : ℕ) (z : ℤ) → i < p.at → set (laid l p zs) i z ≡ laid (set l i z) p zs
unfolding laid
laid_set l p [] i z h = refl
laid_set l p (y ∷ zs) i z h =
    let n : (p.at ≡ i → ⊥) = λ e. omega arith in
    laid_set (set l p.at y) (penned (length l) p) zs i z (penned_on (length l) i p h)
    ∙ rw (set_comm l p.at i y z n, length-set l i z)

-- so a number may be written after those that follow it
pub laid_last : (l : List ℤ) (p : Pen) (y z : ℤ) (zs : List ℤ) → set (laid (set l p.at y) (penned (length l) p) zs) p.at z ≡ laid l p (z ∷ zs)
unfolding laid
laid_last l p y z zs = go (ltb p.at (length l)) refl
  where
    go : (b : Bool) → ltb p.at (length l) ≡ b → set (laid (set l p.at y) (penned (length l) p) zs) p.at z ≡ laid (set l p.at z) (penned (length l) p) zs
    go true e =
        let h = ltb-true p.at (length l) e in
        let k : p.at < (penned (length l) p).at = penned_past (length l) p h in
        laid_set (set l p.at y) (penned (length l) p) zs p.at z k ∙ rw (set-set l p.at y z)
    go false e =
        let h = ltb-false p.at (length l) e in
        let n : length (laid l (penned (length l) p) zs) ≤ p.at = omega (arith, length_laid l (penned (length l) p) zs) in
        rw (set_out l p.at y h, set_out l p.at z h) (set_out (laid l (penned (length l) p) zs) p.at z n)
