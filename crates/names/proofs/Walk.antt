-- The look over a file's commands: each turn leads past where it began, a name lies in the file, and what is listed from there on follows.
-- Assumes nothing.
use Rattle.std.specs.Prelude.{None, Option, Some}
use Prim.Native.Nat.{ℕ, zero, suc, ◌+◌, ◌-◌, ◌<◌, ◌≤◌}
use mathlib.Core.Path.{◌≡◌, refl, sym, ap, ◌∙◌}
use mathlib.Core.Bool.{true, false}
use mathlib.Core.List.{List, [], ◌∷◌}
use native.Mathlib.Omega.{arith}
use lib.ListN.{length}
use lib.Seq.{slice, length-slice}
use Rattle.scan.specs.Scan.{next_command}
use Rattle.scan.specs.declared.Kind.{Kind}
use Rattle.book.specs.declared.Book.{Book}
use Rattle.scan.specs.declared.Scan.{Scan}
use Rattle.scan.specs.declared.Scan.TheVariants as scan
use Rattle.scan.proofs.Within.{Within, next_within}
use Rattle.command.specs.declared.Span.{Span}
use Rattle.formats.specs.Format.{no_format}
use Rattle.recognise.specs.Commands.{command_of}
use Rattle.law_bounds.proofs.Bounds.{bounded}
use Rattle.law_reading.specs.Apertures.{is_among}
use Rattle.names.specs.Sets.{sets_of}
use Rattle.names.specs.Twice.{seen, looked, look_at, Named, named_from, named_in, twice_from, twice_in, first_from, first_in}
use Rattle.names.specs.declared.Look.{Look}
use Rattle.names.specs.declared.Look.TheVariants.{End, Other, Naming}
use Rattle.names.proofs.Inside.{Inside, sets_inside}

-- a turn from `at` on leads past it, in l bytes, and a name lies among them
abbrev pub Onward : ℕ → ℕ → Look → Type 0
Onward l at End = Unit
Onward l at (Other next) = (at < next) × (next ≤ l)
Onward l at (Naming place from to next) = (at ≤ place) × (place < next) × (next ≤ l) × (from ≤ to) × (to ≤ l)

seen_onward : (l at place from end next : ℕ) (x : Option Span) → at ≤ place → place ≤ from → from ≤ end → next ≡ end + 1 → next ≤ l → Inside (end - from) x
    → Onward l at (seen place from next x)
unfolding seen
seen_onward l at place from end next None h i j e k w = (omega arith, k)
seen_onward l at place from end next (Some n) h i j e k (p, q) = (h, omega arith, k, omega arith, omega arith)

looked_onward : (book : Book) (file : List ℕ) (at : ℕ) (s : Scan) → Within (length file) at s → Onward (length file) at (looked book file s)
unfolding looked
looked_onward book file at (scan.Command k place from end next) (h, i, j, e, m) =
    let t : List ℕ = slice from end file in
    let p : length t ≡ end - from = length-slice from end file (omega arith) in
    seen_onward (length file) at place from end next _ h i j e m (rw p at (sets_inside t (command_of book no_format k t) (bounded book no_format k t)))
looked_onward book file at (scan.BadByte place) w = tt
looked_onward book file at (scan.Ended place) w = tt

pub look_onward : (book : Book) (file : List ℕ) (at : ℕ) → at ≤ length file → Onward (length file) at (look_at book file at)
unfolding look_at
look_onward book file at h = looked_onward book file at (next_command book file at) (next_within book file at h)

-- what the scanner found tells what is seen
module _ (book : Book) (file : List ℕ) (at : ℕ) {k : Kind} {place from end next : ℕ} (e : next_command book file at ≡ scan.Command k place from end next) where
  pub look_other : sets_of (command_of book no_format k (slice from end file)) ≡ None → Other next ≡ look_at book file at
  unfolding look_at looked seen
  look_other q = sym (ap (looked book file) e ∙ ap (seen place from next) q)

  module _ {n : Span} (q : sets_of (command_of book no_format k (slice from end file)) ≡ Some n) where
    pub look_naming : Naming place (from + n.from) (from + n.to) next ≡ look_at book file at
    unfolding look_at looked seen
    look_naming = sym (ap (looked book file) e ∙ ap (seen place from next) q)

    pub naming_fits : at ≤ length file → (from + n.from ≤ from + n.to) × (from + n.to ≤ length file)
    naming_fits h = let o = rw (← look_naming) at (look_onward book file at h) in (o.3, o.4)

-- the number of turns does not matter where it is enough for the bytes left
enough : (book : Book) (file : List ℕ) (k j at : ℕ) → at ≤ length file → length file < k + at → length file < j + at → named_from book k file at ≡ named_from book j file at
unfolding named_from
enough book file zero j at h p q = absurd (omega arith)
enough book file (suc k) zero at h p q = absurd (omega arith)
enough book file (suc k) (suc j) at h p q = go (λ next. enough book file k j next) (look_at book file at) refl (look_onward book file at h)
  where
    go : ((next : ℕ) → next ≤ length file → length file < k + next → length file < j + next → named_from book k file next ≡ named_from book j file next) →
        (l : Look) → look_at book file at ≡ l → Onward (length file) at l → named_from book (suc k) file at ≡ named_from book (suc j) file at
    go ih End e o = rw (e, named_from)
    go ih (Other next) e (a, b) = rw (e, named_from, ih next b (omega arith) (omega arith))
    go ih (Naming place from to next) e (a, b, c, d, f) = rw (e, named_from, ih next c (omega arith) (omega arith))

module _ (book : Book) (file : List ℕ) (at : ℕ) where
  named_end : look_at book file at ≡ End → named_in book file at ≡ []
  unfolding named_from
  named_end e = rw (e, named_from)

  module _ (h : at ≤ length file) where
    -- past a command that sets no name
    module _ {next : ℕ} (e : look_at book file at ≡ Other next) where
      pub other_onward : (at < next) × (next ≤ length file)
      other_onward = rw e at (look_onward book file at h)

      named_other : named_in book file at ≡ named_in book file next
      unfolding named_from
      named_other = let o = other_onward in rw (e, named_from) (enough book file (length file) (suc (length file)) next o.1 (omega (arith, o.0)) (omega arith))

    -- past a TF
    module _ {place from to next : ℕ} (e : look_at book file at ≡ Naming place from to next) where
      pub naming_onward : (at ≤ place) × (place < next) × (next ≤ length file) × (from ≤ to) × (to ≤ length file)
      naming_onward = rw e at (look_onward book file at h)

      abbrev here : Named
      here = record { place = place; name = slice from to file }

      named_naming : named_in book file at ≡ here ∷ named_in book file next
      unfolding named_from
      named_naming =
          let o = naming_onward in
          rw (e, named_from) (ap (λ (ns : List Named). here ∷ ns) (enough book file (length file) (suc (length file)) next o.2 (omega (arith, o.0, o.1)) (omega arith)))

-- where a name is set twice
module _ (book : Book) (file : List ℕ) (at : ℕ) (names : List (List ℕ)) where
  pub twice_end : look_at book file at ≡ End → twice_in book file at names ≡ length file
  unfolding twice_from
  twice_end e = ap (λ (ns : List Named). twice_from (length file) ns names) (named_end book file at e)

  module _ (h : at ≤ length file) where
    pub twice_other : {next : ℕ} → look_at book file at ≡ Other next → twice_in book file at names ≡ twice_in book file next names
    twice_other e = ap (λ (ns : List Named). twice_from (length file) ns names) (named_other book file at h e)

    module _ {place from to next : ℕ} (e : look_at book file at ≡ Naming place from to next) where
      pub twice_again : is_among (slice from to file) names ≡ true → twice_in book file at names ≡ place
      unfolding twice_from
      twice_again a = ap (λ (ns : List Named). twice_from (length file) ns names) (named_naming book file at h e) ∙ rw (a, twice_from) refl

      pub twice_new : is_among (slice from to file) names ≡ false → twice_in book file at names ≡ twice_in book file next (slice from to file ∷ names)
      unfolding twice_from
      twice_new a = ap (λ (ns : List Named). twice_from (length file) ns names) (named_naming book file at h e) ∙ rw (a, twice_from) refl

-- where one of these names is first set
module _ (book : Book) (file : List ℕ) (at : ℕ) (names : List (List ℕ)) where
  pub first_end : look_at book file at ≡ End → first_in book file at names ≡ length file
  unfolding first_from
  first_end e = ap (λ (ns : List Named). first_from (length file) ns names) (named_end book file at e)

  module _ (h : at ≤ length file) where
    pub first_other : {next : ℕ} → look_at book file at ≡ Other next → first_in book file at names ≡ first_in book file next names
    first_other e = ap (λ (ns : List Named). first_from (length file) ns names) (named_other book file at h e)

    module _ {place from to next : ℕ} (e : look_at book file at ≡ Naming place from to next) where
      pub first_here : is_among (slice from to file) names ≡ true → first_in book file at names ≡ place
      unfolding first_from
      first_here a = ap (λ (ns : List Named). first_from (length file) ns names) (named_naming book file at h e) ∙ rw (a, first_from) refl

      pub first_on : is_among (slice from to file) names ≡ false → first_in book file at names ≡ first_in book file next names
      unfolding first_from
      first_on a = ap (λ (ns : List Named). first_from (length file) ns names) (named_naming book file at h e) ∙ rw (a, first_from) refl
