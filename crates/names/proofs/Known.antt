-- What is known of the names once the look has come to a place: each was set before there, or is set from there on; and the first that is set
-- twice is set so from there on.
-- Assumes nothing.
use Prim.Native.Nat.{ℕ, ◌<◌, ◌≤◌}
use mathlib.Core.Path.{◌≡◌, refl, sym, ap, ◌∙◌}
use mathlib.Core.Bool.{Bool, true, false, not}
use mathlib.Core.List.{List, [], ◌∷◌}
use native.Mathlib.Omega.{arith}
use lib.Dec.{eqb}
use lib.ListN.{length}
use lib.Seq.{slice}
use borrow.Author.Tests.{eq-eqb, ne_eqb}
use Rattle.book.specs.declared.Book.{Book}
use Rattle.base.specs.Or.{◌or◌}
use Rattle.base.specs.Bytes.{same_bytes}
use Rattle.base.proofs.Lists.{same_is, same_refl}
use Rattle.law_reading.specs.Apertures.{is_among}
use Rattle.names.specs.Twice.{look_at, twice_in, twice_at, first_in, first_at}
use Rattle.names.specs.declared.Look.TheVariants.{Other, Naming}
use Rattle.names.proofs.Walk.{other_onward, naming_onward, first_other, first_here, first_on, twice_other, twice_again, twice_new}
use Rattle.names.proofs.Parted.{twice_from_lem}

-- a name is among one where they are the same
pub among_one : (a b : List ℕ) {t : Bool} → same_bytes a b ≡ t → is_among a (b ∷ []) ≡ t
unfolding is_among ◌or◌
among_one a b {t} e = go t e (same_bytes b a) refl
  where
    go : (t : Bool) → same_bytes a b ≡ t → (u : Bool) → same_bytes b a ≡ u → (u or false) ≡ t
    go true e true f = refl
    go true e false f = sym f ∙ ap (λ (x : List ℕ). same_bytes x a) (sym (same_is a b e)) ∙ same_refl a
    go false e true f = sym (same_refl a) ∙ ap (same_bytes a) (sym (same_is b a f)) ∙ e
    go false e false f = refl

pub record Known (book : Book) (file : List ℕ) (at : ℕ) (names : List (List ℕ)) : Type 0 where
  pub before : (name : List ℕ) → is_among name names ≡ true → first_at book file name < at
  pub later : (name : List ℕ) → is_among name names ≡ false → first_at book file name ≡ first_in book file at (name ∷ [])
  pub twice : twice_in book file at names ≡ twice_at book file

pub known_start : (book : Book) (file : List ℕ) → Known book file 0 []
unfolding is_among first_at twice_at
known_start book file = record {
  before = λ name e. let z : ◌≡◌ {A = ℕ} 0 1 = cc in absurd (omega arith);
  later = λ name e. refl;
  twice = refl;
}

module _ (book : Book) (file : List ℕ) (at : ℕ) (names : List (List ℕ)) (h : at ≤ length file) (k : Known book file at names) where
  pub known_other : {next : ℕ} → look_at book file at ≡ Other next → Known book file next names
  known_other e = record {
    before = λ name a. omega (arith, k.before name a, (other_onward book file at h e).0);
    later = λ name a. k.later name a ∙ first_other book file at (name ∷ []) h e;
    twice = sym (twice_other book file at names h e) ∙ k.twice;
  }

  module _ {place from to next : ℕ} (e : look_at book file at ≡ Naming place from to next) where
    abbrev here : List ℕ
    here = slice from to file

    first_is : is_among here names ≡ false → first_at book file here ≡ place
    first_is a = k.later here a ∙ first_here book file at (here ∷ []) h e (among_one here here (same_refl here))

    pub known_naming : is_among here names ≡ false → Known book file next (here ∷ names)
    unfolding is_among ◌or◌
    known_naming new = record {
      before = λ name a. past name (same_bytes here name) refl a;
      later = λ name a. on name (same_bytes here name) refl a;
      twice = sym (twice_new book file at names h e new) ∙ k.twice;
    }
      where
        past : (name : List ℕ) (t : Bool) → same_bytes here name ≡ t → (t or is_among name names) ≡ true → first_at book file name < next
        past name true s a = let p = ap (first_at book file) (sym (same_is here name s)) ∙ first_is new in omega (arith, p, (naming_onward book file at h e).1)
        past name false s a = let o = naming_onward book file at h e in omega (arith, k.before name a, o.0, o.1)

        on : (name : List ℕ) (t : Bool) → same_bytes here name ≡ t → (t or is_among name names) ≡ false → first_at book file name ≡ first_in book file next (name ∷ [])
        on name true s a = let z : ◌≡◌ {A = ℕ} 0 1 = cc in absurd (omega arith)
        on name false s a = k.later name a ∙ first_on book file at (name ∷ []) h e (among_one here name s)

    -- whether the name was set before is told by where it is set first, and by where one is set twice
    pub by_walk : eqb (first_at book file here) place ≡ not (is_among here names)
    by_walk = go (is_among here names) refl
      where
        go : (t : Bool) → is_among here names ≡ t → eqb (first_at book file here) place ≡ not t
        go true a = ne_eqb _ _ (λ (q : first_at book file here ≡ place). omega (arith, k.before here a, q, (naming_onward book file at h e).0))
        go false a = eq-eqb _ _ (first_is a)

    pub by_look_lem : eqb place (twice_at book file) ≡ is_among here names
    by_look_lem = ap (eqb place) (sym k.twice) ∙ go (is_among here names) refl
      where
        go : (t : Bool) → is_among here names ≡ t → eqb place (twice_in book file at names) ≡ t
        go true a = eq-eqb _ _ (sym (twice_again book file at names h e a))
        go false a =
            let o = naming_onward book file at h e in
            let p = twice_from_lem book file next (here ∷ names) o.2 in
            let w = twice_new book file at names h e a in
            ne_eqb place (twice_in book file at names) (λ (z : place ≡ twice_in book file at names). omega (arith, o.1, p, w, z))
