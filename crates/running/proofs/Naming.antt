-- The names set so far, and what becomes of them with a command: it is told rightly whether it sets one again, and after it the names are
-- known that are set by then.
-- Assumes nothing.
use Rattle.std.specs.Prelude.{None, Option, Some, ℕ}
use Rattle.formats.specs.declared.Format.{Format}
use Prim.Native.Nat.{ℕ, ◌+◌, ◌<◌, ◌≤◌}
use mathlib.Core.Path.{◌≡◌, refl, sym, ap, ◌∙◌}
use mathlib.Core.Bool.{Bool}
use mathlib.Core.List.{List, []}
use native.Mathlib.Omega.{arith}
use lib.ListN.{length}
use lib.Seq.{slice}
use Rattle.book.specs.declared.Book.{Book}
use Rattle.command.specs.declared.Span.{Span}
use Rattle.sequence.specs.Turns.{turn_of}
use Rattle.sequence.specs.declared.Placed.{Placed}
use Rattle.sequence.specs.declared.Turn.TheVariants as turn
use Rattle.sequence.proofs.Walk.{more_onward}
use Rattle.law_reading.specs.State.{State}
use Rattle.law_reading.specs.Apertures.{is_among}
use Rattle.law_reading.specs.Steps.{part}
use Rattle.names.specs.Sets.{sets_by, sets_of}
use Rattle.names.proofs.Known.{Known, known_start}
use Rattle.names.proofs.Onward.{known_past, known_set, by_first, by_twice}
use Rattle.steps.specs.Steps.{AgainBy, Again}
use Rattle.running.specs.Ends.{Looked}
use Rattle.running.specs.Judged.{judged_as, judged_of}
use Rattle.running.proofs.After.{Named}
use Rattle.running.proofs.Judging.{Judges, judges_name}
use Rattle.running.specs.declared.Told.{Told}

-- what is told once is told alone
same_set : (a b : Told) → ◌≡◌ {A = Option Told} (Some a) (Some b) → a.set ≡ b.set
same_set a b e = ap (λ (o : Option Told). elim o [ Some t ↦ t.set | None ↦ 0 ]) e

-- so many are set before a place
pub record NamesAt (book : Book) (file : List ℕ) (at set : ℕ) (names : List (List ℕ)) : Type 0 where
  pub known : Known book file at names
  pub count : set ≡ length names
  pub few : set ≤ at

pub names_start : (book : Book) (file : List ℕ) → NamesAt book file 0 0 []
names_start book file = record { known = known_start book file; count = refl; few = omega arith }

module _ (book : Book) (n : Format) (file : List ℕ) (at set : ℕ) (names : List (List ℕ)) (h : at ≤ length file) (k : NamesAt book file at set names) {c : Placed} {m : Format} {next : ℕ}
    (e : turn_of book n file at ≡ turn.More c m next) where
  abbrev text : List ℕ
  text = slice c.from c.end file

  onward : (at < next) × (next ≤ length file)
  onward = more_onward book n file at h e

  pub names_few : set < length file
  names_few = omega (arith, k.few, onward.0, onward.1)

  module _ (look : Option ℕ) (l : Looked book file look) where
    judges : {name : Span} → sets_of c.command ≡ Some name → Judges (is_among (part text name) names) (set + 1) look (judged_of book file c set look)
    unfolding judged_of judged_as
    judges {name} q =
        rw (q, judged_as) (judges_name book file c.place (part text name) names set look (by_first book n file at h e names k.known q) (by_twice book n file at h e names k.known q) k.count l)

    pub asks : judged_of book file c set look ≡ None → look ≡ None
    unfolding judged_of judged_as Judges
    asks j = go (sets_of c.command) refl
      where
        go : (t : Option Span) → sets_of c.command ≡ t → look ≡ None
        go None t = let z : ◌≡◌ {A = ℕ} 0 1 = cc (rw (t, judged_as) at j) in absurd (omega arith)
        go (Some name) t = rw j at (judges t)

    module _ {again : Bool} {more : ℕ} (j : judged_of book file c set look ≡ Some (record { again = again; set = more })) where
      told : {name : Span} → sets_of c.command ≡ Some name → (again ≡ is_among (part text name) names) × (more ≡ set + 1)
      unfolding Judges
      told q = rw j at (judges q)

      pub told_again : (s : State) → s.names ≡ names → Again file c again s
      unfolding Again AgainBy sets_of sets_by
      told_again s i d q name value v = rw i (told (ap sets_of q ∙ ap sets_by v)).0

      pub names_on : (names' : List (List ℕ)) → Named text names names' (sets_of c.command) → NamesAt book file next more names'
      unfolding Named judged_of judged_as
      names_on names' = go (sets_of c.command) refl
        where
          go : (t : Option Span) → sets_of c.command ≡ t → Named text names names' t → NamesAt book file next more names'
          go None t a =
              let i : more ≡ set = sym (same_set _ _ (rw (t, judged_as) at j)) in
              record {
                known = rw a (known_past book n file at h e names k.known t);
                count = i ∙ k.count ∙ ap length (sym a);
                few = omega (arith, k.few, onward.0);
              }
          go (Some name) t (a, f) =
              let i : more ≡ set + 1 = (told t).1 in
              record {
                known = rw a (known_set book n file at h e names k.known t f);
                count = rw a (omega (arith, i, k.count));
                few = omega (arith, i, k.few, onward.0);
              }
