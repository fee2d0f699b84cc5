-- What is told of a name is whether it was set before, and only a run for which nobody looked asks; with one law for each way to an answer.
-- Assumes nothing.
use Rattle.std.specs.Prelude.{None, Some, Option, ℕ}
use Prim.Native.Nat.{ℕ, ◌+◌}
use mathlib.Core.Path.{◌≡◌, refl, sym, ap, ◌∙◌}
use mathlib.Core.Bool.{Bool, true, false, not, cond}
use mathlib.Core.List.{List, [], ◌∷◌}
use native.Mathlib.Omega.{arith}
use lib.Dec.{eqb, ltb}
use lib.ListN.{length}
use lib.Seq.{slice}
use borrow.Author.Tests.{eqb-true, eq-eqb, ne_eqb}
use Rattle.book.specs.declared.Book.{Book}
use Rattle.base.specs.Or.{◌or◌}
use Rattle.command.specs.declared.Span.{Span}
use Rattle.sequence.specs.declared.Placed.{Placed}
use Rattle.law_reading.specs.Apertures.{is_among}
use Rattle.law_reading.specs.Steps.{part}
use Rattle.names.specs.Sets.{sets_of}
use Rattle.names.specs.Twice.{first_at, twice_at}
use Rattle.running.specs.Ends.{Looked}
use Rattle.running.specs.Judged.{by_look, judged_name, judged_as, judged_of}
use Rattle.running.specs.declared.Told.{Told}

-- the answer is t, and so many names are set with it
unfoldable pub Judges : Bool → ℕ → Option ℕ → Option Told → Type 0
Judges again more r (Some told) = (told.again ≡ again) × (told.set ≡ more)
Judges again more r None = r ≡ None

none_among : (name : List ℕ) (names : List (List ℕ)) → length names ≡ 0 → false ≡ is_among name names
unfolding is_among
none_among name [] e = refl
none_among name (n ∷ ns) e = absurd (omega arith)

not_not : (t u : Bool) → u ≡ not t → not u ≡ t
not_not true u e = rw e refl
not_not false u e = rw e refl

module _ (book : Book) (file : List ℕ) (place : ℕ) (name : List ℕ) (names : List (List ℕ)) (set : ℕ) (r : Option ℕ) (first : eqb (first_at book file name) place ≡ not (is_among name names))
    (twice : eqb place (twice_at book file) ≡ is_among name names) (counted : set ≡ length names) where
  looks : (r : Option ℕ) → Looked book file r → Judges (is_among name names) (set + 1) r (by_look place set r)
  unfolding Looked Judges by_look
  looks None l = refl
  looks (Some p) l = (ap (eqb place) l ∙ twice, refl)

  pub judges_name : Looked book file r → Judges (is_among name names) (set + 1) r (judged_name book file place name set r)
  unfolding judged_name Judges
  judges_name l = go (eqb set 0) refl (ltb set 16 or ltb place 4096)
    where
      go : (t : Bool) → eqb set 0 ≡ t → (u : Bool) →
          Judges (is_among name names) (set + 1) r (cond t (Some (record { again = false; set = 1 })) (cond u (Some (record { again = not (eqb (first_at book file name) place); set = set + 1 })) (by_look place set r)))
      go true e u = let z : set ≡ 0 = eqb-true set 0 e in (none_among name names (sym counted ∙ z), omega arith)
      go false e true = (not_not (is_among name names) (eqb (first_at book file name) place) first, refl)
      go false e false = looks r l

-- the ways to an answer
module _ (book : Book) (file : List ℕ) (place : ℕ) (name : List ℕ) (set : ℕ) (r : Option ℕ) where
  pub judged_first : set ≡ 0 → Some (record { again = false; set = 1 }) ≡ judged_name book file place name set r
  unfolding judged_name
  judged_first e = rw (eq-eqb set 0 e)

  module _ (some : set ≡ 0 → ⊥) where
    pub judged_walk : {p : ℕ} → (ltb set 16 or ltb place 4096) ≡ true → p ≡ first_at book file name → Some (record { again = not (eqb p place); set = set + 1 }) ≡ judged_name book file place name set r
    unfolding judged_name
    judged_walk u e = rw (e, ne_eqb set 0 some, u)

    pub judged_look : (ltb set 16 or ltb place 4096) ≡ false → by_look place set r ≡ judged_name book file place name set r
    unfolding judged_name
    judged_look u = rw (ne_eqb set 0 some, u)

module _ (book : Book) (file : List ℕ) (c : Placed) (set : ℕ) (r : Option ℕ) where
  pub judged_none : sets_of c.command ≡ None → Some (record { again = false; set = set }) ≡ judged_of book file c set r
  unfolding judged_of judged_as
  judged_none q = rw (q, judged_as)

  pub judged_named : {n : Span} → sets_of c.command ≡ Some n → judged_name book file c.place (part (slice c.from c.end file) n) set r ≡ judged_of book file c set r
  unfolding judged_of judged_as
  judged_named q = rw (q, judged_as)
