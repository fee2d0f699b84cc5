-- Dn: the aperture that the search found is the one that reading selects, and all else is known as before.
-- Assumes nothing.
use Rattle.std.specs.Prelude.{Err, Ok, Result, ℕ}
use Prim.Native.Nat.{ℕ}
use mathlib.Core.Path.{◌≡◌, refl, sym, ◌∙◌}
use mathlib.Core.Bool.{true}
use mathlib.Core.List.{List}
use native.Mathlib.Omega.{arith}
use borrow.Author.Tests.{not-false}
use Rattle.faults.specs.Rule.{number_of_rule}
use Rattle.faults.specs.declared.Rule.{Rule}
use Rattle.index.specs.Numbers.{numbered}
use Rattle.sheet.specs.Records.{aperture_of}
use Rattle.graphics.specs.Graphics.{no_aperture, with_aperture}
use Rattle.graphics.specs.declared.Graphics.{Graphics}
use Rattle.graphics.specs.declared.Selected.{Selected}
use Rattle.command_rules.specs.Rules.{select_fault}
use Rattle.law_reading.specs.State.{State}
use Rattle.law_reading.specs.Apertures.{selected, aperture_with}
use Rattle.law_reading.specs.Steps.{with_graphics, select_step}
use Rattle.base.proofs.Faults.{unbroken}
use Rattle.progress.specs.Parts as parts
use Rattle.progress.specs.Lent.{Lent}
use Rattle.progress.specs.Levels.{level_of}
use Rattle.progress.specs.Tables.{ApertureTable, Chosen}
use Rattle.progress.specs.Knows.{Knows, Follows}
use Rattle.progress.specs.declared.Progress.{Progress}
use Rattle.progress.proofs.AsRead.{selected_as_read}
use Rattle.progress.proofs.Apertures.{with_at, with_free, at_below}
use Rattle.definition_steps.specs.Chosen.{chosen_by}

-- what is found is what reading selects, and may stand as the current aperture where it is set
module _ (a : List ℕ) (used : ℕ) {known : List _} (t : ApertureTable a used known) (n : ℕ) where
  pub chosen_with : aperture_with n known ≡ chosen_by a (numbered a used n)
  unfolding chosen_by
  chosen_with = go (numbered a used n) refl
    where
      go : (f : Result ℕ ℕ) → numbered a used n ≡ f → aperture_with n known ≡ chosen_by a f
      go (Ok i) e = with_at a used known t n i e ∙ selected_as_read i (aperture_of a i)
      go (Err l) e = with_free a used known t n l e

  pub chosen_set : (chosen_by a (numbered a used n)).set ≡ true → Chosen a used (chosen_by a (numbered a used n))
  unfolding chosen_by no_aperture selected
  chosen_set = go (numbered a used n) refl
    where
      go : (f : Result ℕ ℕ) → numbered a used n ≡ f → (chosen_by a f).set ≡ true → Chosen a used (chosen_by a f)
      go (Ok i) e s = record {
        unset = λ u. absurd (let z : ◌≡◌ {A = ℕ} 0 1 = cc in omega arith);
        known = λ u. at_below a used n i e;
        is = λ u. selected_as_read i (aperture_of a i);
      }
      go (Err l) e s = absurd (let z : ◌≡◌ {A = ℕ} 0 1 = cc in omega arith)

module _ (w : Lent) (p : Progress) (s : State) (k : Knows w p s) (n : ℕ) (a : List ℕ) (is : w.apertures ≡ a) (c : Selected)
    (ec : c ≡ chosen_by a (numbered a p.apertures n)) (fault : ℕ) (ef : fault ≡ select_fault p.graphics c.set) where
  table : ApertureTable a p.apertures s.apertures
  table = rw is at k.apertures

  chosen_is : aperture_with n s.apertures ≡ c
  chosen_is = chosen_with a p.apertures table n ∙ sym ec

  fault_is : select_fault s.graphics (aperture_with n s.apertures).set ≡ fault
  fault_is = rw (chosen_is, ← k.graphics) (sym ef)

  pub select_refused : (rule : Rule) → number_of_rule rule ≡ fault → Follows (Knows w) (select_step n s) (Err rule)
  unfolding Follows select_step
  select_refused rule is = fault_is ∙ sym is

  pub select_goes : fault ≡ 0 → {g : Graphics} → g ≡ with_aperture c p.graphics → {r : Progress} → r ≡ parts.with_graphics g p → Follows (Knows w) (select_step n s) (Ok r)
  unfolding Follows select_step with_graphics with_aperture level_of select_fault
  select_goes z eg er =
      let on = (unbroken (omega arith) (sym ef ∙ z)).1 in
      let set : c.set ≡ true = not-false _ (unbroken (omega arith) on).0 in (
        fault_is ∙ z,
        rw er (record {
          graphics = rw (eg, chosen_is, k.graphics);
          point = k.point;
          mode = k.mode;
          inside = k.inside;
          aperture = rw (chosen_is, is, ec) (chosen_set a p.apertures table n (rw ec at set));
          level = k.level;
          counts = k.counts;
          around = k.around;
          apertures = k.apertures;
          macros = k.macros;
          numbers = k.numbers;
          entries = k.entries;
          shows = k.shows;
          contour = k.contour;
        }),
      )
