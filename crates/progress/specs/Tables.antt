-- The words of the rooms for apertures, macros and numbers, and what reading knows of them: the records in use, one after the other,
-- and 0 after them.
use Rattle.std.specs.Prelude.{ℕ, ◌-◌, ◌*◌, ◌≤◌, ◌<◌, ◌≡◌, true, false, cond, List, [], ◌∷◌, ◌++◌, eqb, ℤ, pos, length, get_or, replicate}
use Rattle.std.proofs.Math.Seq.{slice}
use Rattle.base.specs.Run.{run}
use Rattle.sheet.specs.Records.{aperture_width, aperture_of}
use Rattle.sheet.specs.declared.Aperture as store
use Rattle.index.specs.Numbers.{Numbered}
use Rattle.index.specs.Names.{Named}
use Rattle.tables.specs.Macros.{macro_width, macro_of}
use Rattle.tables.specs.declared.Macro.{Macro}
use Rattle.graphics.specs.Graphics.{no_aperture}
use Rattle.graphics.specs.declared.Selected.{Selected}
use Rattle.operation_rules.specs.Counts.{most}
use Rattle.law_reading.specs.State.{Aperture, Template}
use Rattle.law_reading.specs.Apertures.{block, block_of, selected}

-- a record as its words have it
unfoldable pub as_stored : store.Aperture → Aperture
as_stored r = record { number = r.number; kind = r.kind; first = r.first; len = r.len; items = r.items; height = r.height }

-- a record as reading knows it: where a block's entries lie is the store's matter
unfoldable pub as_read : store.Aperture → Aperture
as_read r = cond (eqb r.kind block) (block_of r.number r.items r.height) (as_stored r)

pub record ApertureTable (a : List ℕ) (used : ℕ) (known : List Aperture) : Type 0 where
  pub indexed : Numbered a used
  pub records : run (λ i. as_read (aperture_of a i) ∷ []) 0 used ≡ known
  pub few : (i : ℕ) → i < used → (aperture_of a i).items ≤ most
  pub low : (i : ℕ) → i < used → (aperture_of a i).height ≤ 8
  pub unused : (k : ℕ) → used * aperture_width ≤ k → get_or a k 0 ≡ 0

unfoldable pub template_of : List ℕ → Macro → Template
template_of file r = record { name = slice r.from r.to file; blocks = slice r.first r.end file }

pub record MacroTable (file m : List ℕ) (used : ℕ) (known : List Template) : Type 0 where
  pub indexed : Named file m used
  pub records : run (λ i. template_of file (macro_of m i) ∷ []) 0 used ≡ known
  pub ordered : (i : ℕ) → i < used → (macro_of m i).first ≤ (macro_of m i).end
  pub inside : (i : ℕ) → i < used → (macro_of m i).end ≤ length file
  pub unused : (k : ℕ) → used * macro_width ≤ k → get_or m k 0 ≡ 0

pub record NumberTable (n : List ℤ) (used : ℕ) (known : List ℤ) : Type 0 where
  pub long : length known ≡ used
  pub fits : used ≤ length n
  pub is : n ≡ known ++ replicate (length n - used) (pos 0)

-- the current aperture is none, or one of those in use that may be selected
pub record Chosen (a : List ℕ) (used : ℕ) (c : Selected) : Type 0 where
  pub unset : c.set ≡ false → c ≡ no_aperture
  pub known : c.set ≡ true → c.slot < used
  pub is : c.set ≡ true → selected c.slot (as_read (aperture_of a c.slot)) ≡ c
