-- The walk under way, over plain variables: at a place, with some of the names set before it in the table.
-- Assumes nothing.
use Rattle.std.specs.Prelude.{Err, Ok, Result, ℕ}
use Prim.Native.Nat.{ℕ, suc, ◌+◌, ◌/◌, ◌<◌, ◌≤◌, min}
use mathlib.Core.Path.{◌≡◌, refl, sym, ◌∙◌}
use mathlib.Core.Bool.{Bool, true, false}
use mathlib.Core.List.{List, [], ◌∷◌}
use native.Mathlib.Numerals.{add-one}
use native.Mathlib.Omega.{arith}
use lib.Dec.{ltb}
use lib.ListN.{length}
use lib.Seq.{slice}
use borrow.Author.Tests.{ltb-true, ltb-false}
use Rattle.book.specs.declared.Book.{Book}
use Rattle.index.specs.Names.{named}
use Rattle.tables.specs.Added.{has_room, added}
use Rattle.tables.specs.Macros.{macro_words}
use Rattle.tables.proofs.Adding.{added_long}
use Rattle.law_reading.specs.Apertures.{is_among}
use Rattle.names.specs.Twice.{look_at, twice_in, first_in}
use Rattle.names.specs.Kept.{name_at, noted, noted_of, kept_at, kept_of, Narrow, Passed}
use Rattle.names.specs.declared.Look.TheVariants.{End, Other, Naming}
use Rattle.names.specs.declared.Noted.{Noted}
use Rattle.names.specs.declared.Noted.TheVariants.{Again, New, Full}
use Rattle.names.proofs.Walk.{other_onward, naming_onward, twice_end, twice_other, twice_again, twice_new, first_end, first_other, first_here, first_on}
use Rattle.names.proofs.Parted.{twice_from_lem, in_parts}
use Rattle.names.proofs.Held.{Held, held_start, held_again, held_new, held_more}

-- what is left to find: all names are kept so far; or there was no room for those from `rest` on
pub data Left (book : Book) (file : List ℕ) (room used from at rest : ℕ) (names : List (List ℕ)) : Type 0 where
  all : rest ≡ length file → twice_in book file at names ≡ twice_in book file from [] → Left book file room used from at rest names
  some : room ≤ used → from + used ≤ rest → rest ≤ at → min (first_in book file at names) (twice_in book file rest []) ≡ twice_in book file from [] → Left book file room used from at rest names

pub record Going (book : Book) (file s : List ℕ) (used from at rest : ℕ) : Type 0 where
  pub names : List (List ℕ)
  pub starts : from < length file
  pub room : 8 ≤ length s
  pub onward : from + used ≤ at
  pub inside : at ≤ length file
  pub left : Left book file (length s / 8) used from at rest names
  pub held : Held file s used names

pub going_start : (book : Book) (file s : List ℕ) (from : ℕ) → from < length file → 8 ≤ length s → Going book file s 0 from from (length file)
going_start book file s from h k = record {
  names = [];
  starts = h;
  room = k;
  onward = omega arith;
  inside = omega arith;
  left = all refl refl;
  held = held_start file s;
}

-- as long, as narrow
pub narrow_same : (file s t : List ℕ) → length t ≡ length s → Narrow file s → Narrow file t
narrow_same file s t e n = record { places = n.places; records = rw e n.records }

-- the table is as long as it was
eight : (from to : ℕ) → length (macro_words (name_at from to)) ≡ 8
unfolding macro_words
eight from to = refl

long : (s : List ℕ) (used link : ℕ) (w : List ℕ) → length w ≡ 8 → (t : Bool) → ltb used (length s / 8) ≡ t → length (added s used link w) ≡ length s
unfolding added has_room
long s used link w e true r = added_long s used w e (ltb-true used (length s / 8) r) link
long s used link w e false r = rw r refl

pub kept_long : (file s : List ℕ) (used from to : ℕ) → length (kept_of file s used from to) ≡ length s
unfolding kept_of kept_at
kept_long file s used from to = go (named file s used (slice from to file))
  where
    go : (x : Result ℕ ℕ) → length (kept_at s used from to x) ≡ length s
    go (Ok i) = refl
    go (Err link) = long s used link (macro_words (name_at from to)) (eight from to) (ltb used (length s / 8)) refl

-- what follows from how the name of the TF at a place is noted, the next command standing from `next` on
abbrev pub Follows : Book → List ℕ → ℕ → ℕ → ℕ → ℕ → ℕ → ℕ → List ℕ → Noted → Type 0
Follows book file used from at rest place next s Again = Passed book file from (record { found = place; rest = rest })
Follows book file used from at rest place next s (New more) = Going book file s more from next rest
Follows book file used from at rest place next s Full = Going book file s used from next (min rest at)

module _ (book : Book) (file s : List ℕ) (used from at rest : ℕ) (g : Going book file s used from at rest) where
  -- a TF was found, or the end: the first of those kept
  passed : (found : ℕ) → first_in book file at g.names ≡ found → (twice_in book file at g.names ≡ found) → found ≤ length file → Passed book file from (record { found = found; rest = rest })
  passed found f t h = go g.left
    where
      go : Left book file (length s / 8) used from at rest g.names → Passed book file from (record { found = found; rest = rest })
      go (all r q) = record { onward = rw r g.starts; inside = omega arith; least = let p = twice_from_lem book file rest [] (omega arith) in omega (arith, g.starts) }
      go (some r o i q) = record { onward = omega (arith, g.room); inside = omega (arith, g.inside); least = rw f at q }

  pub going_end : look_at book file at ≡ End → Passed book file from (record { found = length file; rest = rest })
  going_end e = passed (length file) (first_end book file at g.names e) (twice_end book file at g.names e) (omega arith)

  pub going_other : {next : ℕ} → look_at book file at ≡ Other next → Going book file s used from next rest
  going_other {next} e = record {
    names = g.names;
    starts = g.starts;
    room = g.room;
    onward = let o = other_onward book file at g.inside e in omega (arith, o.0, g.onward);
    inside = (other_onward book file at g.inside e).1;
    left = go g.left;
    held = g.held;
  }
    where
      go : Left book file (length s / 8) used from at rest g.names → Left book file (length s / 8) used from next rest g.names
      go (all r q) = all r (sym (twice_other book file at g.names g.inside e) ∙ q)
      go (some r o i q) = some r o (let p = other_onward book file at g.inside e in omega (arith, p.0)) (rw (first_other book file at g.names g.inside e) at q)

  module _ {place begins to next : ℕ} (e : look_at book file at ≡ Naming place begins to next) where
    abbrev name : List ℕ
    name = slice begins to file

    -- one of those kept
    again : is_among name g.names ≡ true → Passed book file from (record { found = place; rest = rest })
    again a =
        let o = naming_onward book file at g.inside e in
        passed place (first_here book file at g.names g.inside e a) (twice_again book file at g.names g.inside e a) (omega (arith, o.1, o.2))

    -- new, and there is room
    kept : (s' : List ℕ) → length s' ≡ length s → used < length s / 8 → is_among name g.names ≡ false → Held file s' (suc used) (name ∷ g.names) →
        Going book file s' (suc used) from next rest
    kept s' l r a held =
        let o = naming_onward book file at g.inside e in
        record {
          names = name ∷ g.names;
          starts = g.starts;
          room = rw l g.room;
          onward = omega (arith, o.0, o.1, g.onward);
          inside = o.2;
          left = go g.left;
          held = held;
        }
      where
        go : Left book file (length s / 8) used from at rest g.names → Left book file (length s' / 8) (suc used) from next rest (name ∷ g.names)
        go (all r q) = all r (sym (twice_new book file at g.names g.inside e a) ∙ q)
        go (some full o i q) = absurd (omega arith)

    -- new, and there is none
    without_room : length s / 8 ≤ used → is_among name g.names ≡ false → Going book file s used from next (min rest at)
    without_room full a =
        let o = naming_onward book file at g.inside e in
        record {
          names = g.names;
          starts = g.starts;
          room = g.room;
          onward = omega (arith, o.0, o.1, g.onward);
          inside = o.2;
          left = go g.left;
          held = g.held;
        }
      where
        at_rest : (r : ℕ) → r ≡ min rest at → from + used ≤ r → r ≤ at → min (first_in book file at g.names) (twice_in book file r []) ≡ twice_in book file from [] →
            Left book file (length s / 8) used from next (min rest at) g.names
        at_rest r k o i q =
            let p = naming_onward book file at g.inside e in
            some full (omega arith) (omega (arith, p.0, p.1)) (rw (← k) (rw (first_on book file at g.names g.inside e a) at q))

        go : Left book file (length s / 8) used from at rest g.names → Left book file (length s / 8) used from next (min rest at) g.names
        go (all r q) = at_rest at (omega (arith, g.inside)) g.onward (omega arith) (sym (in_parts book file at g.names g.inside) ∙ q)
        go (some _ o i q) = at_rest rest (omega arith) o i q

    not_found : (link : ℕ) → named file s used name ≡ Err link → (t : Bool) → ltb used (length s / 8) ≡ t
        → Follows book file used from at rest place next (added s used link (macro_words (name_at begins to))) (noted s used (Err link))
    unfolding noted has_room added
    not_found link f true r =
        let room = ltb-true used (length s / 8) r in
        rw (r, add-one) (kept _ (rw (r, added) at (long s used link (macro_words (name_at begins to)) (eight begins to) true r)) room (held_new file s used g.names g.held name link f) (rw (r, added) at (held_more file s used g.names g.held begins to link room f)))
    not_found link f false r = rw r (without_room (ltb-false used (length s / 8) r) (held_new file s used g.names g.held name link f))

    follows : (x : Result ℕ ℕ) → named file s used name ≡ x → Follows book file used from at rest place next (kept_at s used begins to x) (noted s used x)
    unfolding kept_at noted
    follows (Ok i) f = again (held_again file s used g.names g.held name i f)
    follows (Err link) f = not_found link f (ltb used (length s / 8)) refl

    going_kept : Follows book file used from at rest place next (kept_of file s used begins to) (noted_of file s used begins to)
    unfolding kept_of noted_of
    going_kept = follows (named file s used name) refl

    pub going_naming : {s' : List ℕ} {n : Noted} → n ≡ noted_of file s used begins to → s' ≡ kept_of file s used begins to → Follows book file used from at rest place next s' n
    going_naming q p = rw (q, p) going_kept
