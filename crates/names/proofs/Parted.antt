-- The first name that is set twice, told in parts: of the names set so far and those to come, it is the first of those to come that was
-- set so far, or the first that is set twice among those to come, whichever stands before the other.
-- Assumes nothing.
use Prim.Native.Nat.{ℕ, zero, suc, ◌≤◌, min}
use mathlib.Core.Path.{◌≡◌, refl, sym, ap, ◌∙◌}
use mathlib.Core.Bool.{Bool, true, false}
use mathlib.Core.List.{List, [], ◌∷◌, ◌++◌}
use native.Mathlib.Omega.{arith}
use lib.ListN.{length}
use Rattle.book.specs.declared.Book.{Book}
use Rattle.base.specs.Or.{◌or◌}
use Rattle.base.specs.Bytes.{same_bytes}
use Rattle.law_reading.specs.Apertures.{is_among}
use Rattle.names.specs.Twice.{look_at, Named, named_from, twice_from, twice_in, first_from, first_in}
use Rattle.names.specs.declared.Look.{Look}
use Rattle.names.specs.declared.Look.TheVariants.{End, Other, Naming}
use Rattle.names.proofs.Walk.{Onward, look_onward}

-- the TF stand in order, from a place on and before another
abbrev Ordered : ℕ → ℕ → List Named → Type 0
Ordered from none [] = from ≤ none
Ordered from none (n ∷ ns) = (from ≤ n.place) × Ordered n.place none ns

sooner : (from to none : ℕ) (ns : List Named) → from ≤ to → Ordered to none ns → Ordered from none ns
sooner from to none [] h o = omega arith
sooner from to none (n ∷ ns) h (o, os) = (omega arith, os)

ordered : (book : Book) (file : List ℕ) (k at : ℕ) → at ≤ length file → Ordered at (length file) (named_from book k file at)
unfolding named_from
ordered book file zero at h = h
ordered book file (suc k) at h = go (ordered book file k) (look_at book file at) refl (look_onward book file at h)
  where
    go : ((next : ℕ) → next ≤ length file → Ordered next (length file) (named_from book k file next)) →
        (l : Look) → look_at book file at ≡ l → Onward (length file) at l → Ordered at (length file) (named_from book (suc k) file at)
    go ih End e o = rw (e, named_from) h
    go ih (Other next) e (a, b) = rw (e, named_from) (sooner at next (length file) (named_from book k file next) (omega arith) (ih next b))
    go ih (Naming place from to next) e (a, b, c, d, f) = rw (e, named_from) (a, sooner place next (length file) (named_from book k file next) (omega arith) (ih next c))

-- none is found before that place
module _ (none : ℕ) where
  twice_least : (from : ℕ) (ns : List Named) (names : List (List ℕ)) → Ordered from none ns → from ≤ twice_from none ns names
  unfolding twice_from
  twice_least from [] names o = o
  twice_least from (n ∷ ns) names (o, os) = go (is_among n.name names) (twice_least n.place ns (n.name ∷ names) os)
    where
      go : (t : Bool) → n.place ≤ twice_from none ns (n.name ∷ names) → from ≤ elim t [ true ↦ n.place | false ↦ twice_from none ns (n.name ∷ names) ]
      go true h = o
      go false h = omega arith

  first_least : (from : ℕ) (ns : List Named) (names : List (List ℕ)) → Ordered from none ns → from ≤ first_from none ns names
  unfolding first_from
  first_least from [] names o = o
  first_least from (n ∷ ns) names (o, os) = go (is_among n.name names) (first_least n.place ns names os)
    where
      go : (t : Bool) → n.place ≤ first_from none ns names → from ≤ elim t [ true ↦ n.place | false ↦ first_from none ns names ]
      go true h = o
      go false h = omega arith

  among_both : (name : List ℕ) (new old : List (List ℕ)) → is_among name (new ++ old) ≡ (is_among name new or is_among name old)
  unfolding is_among ◌or◌
  among_both name [] old = refl
  among_both name (n ∷ new) old = go (same_bytes n name) (among_both name new old)
    where
      go : (t : Bool) → is_among name (new ++ old) ≡ (is_among name new or is_among name old) → (t or is_among name (new ++ old)) ≡ ((t or is_among name new) or is_among name old)
      go true e = refl
      go false e = e

  sooner_of : (t u : Bool) (place both first twice : ℕ) → place ≤ first → place ≤ twice → both ≡ min first twice →
      elim (t or u) [ true ↦ place | false ↦ both ] ≡ min (elim u [ true ↦ place | false ↦ first ]) (elim t [ true ↦ place | false ↦ twice ])
  unfolding ◌or◌
  sooner_of true true place both first twice h k e = omega arith
  sooner_of true false place both first twice h k e = omega arith
  sooner_of false true place both first twice h k e = omega arith
  sooner_of false false place both first twice h k e = e

  parts : (from : ℕ) (ns : List Named) (new old : List (List ℕ)) → Ordered from none ns →
      twice_from none ns (new ++ old) ≡ min (first_from none ns old) (twice_from none ns new)
  unfolding twice_from first_from
  parts from [] new old o = omega arith
  parts from (n ∷ ns) new old (o, os) =
      rw (twice_from, among_both n.name new old)
      (sooner_of (is_among n.name new) (is_among n.name old) _ _ _ _ (first_least n.place ns old os) (twice_least n.place ns (n.name ∷ new) os) (parts n.place ns (n.name ∷ new) old os))

  first_none : (ns : List Named) → first_from none ns [] ≡ none
  unfolding first_from is_among
  first_none [] = refl
  first_none (n ∷ ns) = first_none ns

module _ (book : Book) (file : List ℕ) (at : ℕ) (names : List (List ℕ)) (h : at ≤ length file) where
  pub twice_from_lem : at ≤ twice_in book file at names
  twice_from_lem = twice_least (length file) at _ names (ordered book file (suc (length file)) at h)

  pub in_parts : twice_in book file at names ≡ min (first_in book file at names) (twice_in book file at [])
  in_parts = parts (length file) at _ [] names (ordered book file (suc (length file)) at h)

-- a place in the file, or its length
pub twice_inside : (book : Book) (file : List ℕ) (at : ℕ) → at ≤ length file → min (length file) (twice_in book file at []) ≡ twice_in book file at []
twice_inside book file at h = sym (in_parts book file at [] h ∙ ap (λ (k : ℕ). min k (twice_in book file at [])) (first_none (length file) _))
