-- The working out of an AD by the kind of its template: a standard one, a macro that is known, or one that is not.
-- Assumes nothing.
use Rattle.std.specs.Prelude.{Err, Ok}
use Prim.Native.Nat.{ℕ, ◌≤◌, ◌<◌}
use mathlib.Core.Path.{◌≡◌}
use mathlib.Core.List.{List}
use lib.IntN.{ℤ}
use lib.Seq.{slice}
use borrow.Author.Tests.{le-leb, lt-leb}
use Rattle.base.specs.Or.{◌or◌}
use Rattle.index.specs.Names.{named}
use Rattle.tables.specs.Macros.{macro_of}
use Rattle.tables.specs.declared.Macro.{Macro}
use Rattle.faults.specs.declared.Rule.TheVariants.{UnknownOrTaken}
use Rattle.macros.specs.Says.{Answers}
use Rattle.macros.specs.declared.Outcome.{Outcome}
use Rattle.templates.specs.Templates.{kind_of}
use Rattle.law_reading.specs.Apertures.{is_standard, outcome_of}
use Rattle.progress.proofs.Macros.{among_at, among_free, blocks_at}
use Rattle.definition_steps.specs.Worked.{standard_of, Comes, Works, WorksOut}

module _ (file m : List ℕ) (known : ℕ) (name s : List ℕ) (l l' : List ℤ) (used : ℕ) (o : Outcome) (kind : ℕ) (ek : kind ≡ kind_of name) where
  pub works_standard : kind ≤ 4 → Comes (standard_of kind s) l l' used o → WorksOut file m known name s l l' used o
  unfolding Works outcome_of is_standard standard_of ◌or◌
  works_standard h c ms t = rw (le-leb (kind_of name) 4 (rw ek at h)) (rw ek at c)

  pub works_unknown : 4 < kind → (link : ℕ) → named file m known name ≡ Err link → o ≡ record { worked = Err UnknownOrTaken; used = used } → WorksOut file m known name s l l' used o
  unfolding Works is_standard ◌or◌
  works_unknown h link free e ms t = rw (lt-leb (kind_of name) 4 (rw ek at h), among_free file m known ms t name link free) e

  pub works_macro : 4 < kind → (i : ℕ) → named file m known name ≡ Ok i → (r : Macro) → r ≡ macro_of m i → Answers (slice r.first r.end file) s l l' used o
      → WorksOut file m known name s l l' used o
  unfolding Works outcome_of is_standard ◌or◌
  works_macro h i at r er a ms t =
      rw (lt-leb (kind_of name) 4 (rw ek at h), among_at file m known ms t name i at, blocks_at file m known ms t name i at, ← er)
      (record { says = a.says; stores = a.stores })

-- the same of a name and parameters known by other words
pub works_text : (file m : List ℕ) (known : ℕ) (name name' s s' : List ℕ) (l l' : List ℤ) (used : ℕ) (o : Outcome) → name ≡ name' → s ≡ s'
    → WorksOut file m known name s l l' used o → WorksOut file m known name' s' l l' used o
works_text file m known name name' s s' l l' used o en es w = rw (← en, ← es) w
