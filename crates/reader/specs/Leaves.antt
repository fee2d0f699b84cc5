-- What an accepted reading leaves in the lent words (docs/SHEET.md): a sheet, whose items are those of the file's marks with every
-- repeat and nested block written out, and their addresses those of the marks; the records of the apertures, which their links lead to, and of
-- the macros; the numbers. Unused room is zero.
use Rattle.running.specs.Units.{unit_in}
use Rattle.std.specs.Prelude.{ℕ, ◌-◌, ◌*◌, ◌≤◌, ◌≡◌, true, List, [], ◌∷◌, ◌++◌, ℤ, pos, length, get_or, replicate}
use Rattle.base.specs.Run.{run}
use Rattle.place.specs.Mark.{plain}
use Rattle.index.specs.Numbers.{Numbered}
use Rattle.sheet.specs.Records.{entry_width, aperture_width, aperture_of}
use Rattle.sheet.specs.Containers.{unit_of, entries_used, apertures_used}
use Rattle.sheet.specs.Meaning.{sheet_items}
use Rattle.sheet.specs.Valid.{valid}
use Rattle.law_addresses.specs.Addresses.{sheet_addresses}
use Rattle.law_addresses.specs.Marks.{addresses_of}
use Rattle.tables.specs.Macros.{macro_width, macro_of}
use Rattle.law_reading.specs.State.{State}
use Rattle.progress.specs.Tables.{as_read, template_of}

abbrev pub macros_used : List ℕ → ℕ
macros_used head = get_or head 4 0

abbrev pub numbers_used : List ℕ → ℕ
numbers_used head = get_or head 5 0

pub record Leaves (file head e a m : List ℕ) (n : List ℤ) (s : State) : Type 0 where
  pub sheet : valid head e a ≡ true
  pub items : sheet_items head e a ≡ plain s.marks
  pub addresses : sheet_addresses head e a ≡ addresses_of s.marks
  pub unit : unit_of head ≡ unit_in s.graphics.header
  pub entries_used_lem : entries_used head ≡ s.entries
  pub apertures_used_lem : apertures_used head ≡ length s.apertures
  pub macros_used_lem : macros_used head ≡ length s.macros
  pub numbers_used_lem : numbers_used head ≡ length s.numbers
  pub apertures : run (λ i. as_read (aperture_of a i) ∷ []) 0 (length s.apertures) ≡ s.apertures
  pub linked : Numbered a (length s.apertures)
  pub macros : run (λ i. template_of file (macro_of m i) ∷ []) 0 (length s.macros) ≡ s.macros
  pub numbers : n ≡ s.numbers ++ replicate (length n - length s.numbers) (pos 0)
  pub entries_behind : (k : ℕ) → s.entries * entry_width ≤ k → get_or e k 0 ≡ 0
  pub apertures_behind : (k : ℕ) → length s.apertures * aperture_width ≤ k → get_or a k 0 ≡ 0
  pub macros_behind : (k : ℕ) → length s.macros * macro_width ≤ k → get_or m k 0 ≡ 0
