-- A finished reading leaves a sheet of the file's marks in the lent words.
-- Assumes nothing.
use Rattle.graphics.specs.declared.Header.{Header}
use Rattle.base.specs.Choose.{pick}
use Rattle.base.specs.And.{◌and◌}
use lib.Dec.{eqb}
use Rattle.running.specs.Units.{unit_in}
use Prim.Native.Nat.{ℕ, ◌≤◌}
use mathlib.Core.Path.{◌≡◌, sym, ap, ◌∙◌, refl}
use mathlib.Core.List.{List}
use mathlib.Core.Bool.{true, Bool, false}
use native.Mathlib.Omega.{arith}
use lib.Dec.{lit≤}
use lib.ListN.{length}
use borrow.Author.Tests.{eqb-true, eqb-false, not-false}
use Rattle.base.specs.Or.{◌or◌}
use Rattle.sheet.specs.Records.{aperture_room}
use Rattle.sheet.specs.Valid.{valid}
use Rattle.graphics.specs.declared.Graphics.{Graphics}
use Rattle.operation_tests.specs.Fits.{unready}
use Rattle.graphics.specs.declared.Level.{Level}
use Rattle.law_bounds.proofs.Tables.{neither}
use Rattle.base.proofs.Faults.{unbroken}
use Rattle.command_rules.specs.Rules.{end_fault}
use Rattle.operation_rules.specs.Counts.{most}
use Rattle.build.specs.Closed.{head_of, Ended}
use Rattle.law_built_store.proofs.Ends.{is_sheet, is_from_marks, is_plain}
use Rattle.law_addresses.specs.Addresses.{sheet_addresses}
use Rattle.law_addresses.specs.Marks.{part_addresses, addresses_of}
use Rattle.law_addresses.proofs.Parts.{addresses_are}
use Rattle.law_reading.specs.State.{State}
use Rattle.progress.specs.Lent.{Lent}
use Rattle.progress.specs.Levels.{level_of}
use Rattle.progress.specs.Knows.{Knows}
use Rattle.progress.specs.declared.Progress.{Progress}
use Rattle.progress.proofs.Levels.{items_known}
use Rattle.progress.proofs.Apertures as apertures
use Rattle.progress.proofs.Macros as macros
use Rattle.container_steps.proofs.Levels.{inside_top, around_top}
use Rattle.reader.specs.Leaves.{Leaves}

-- a unit that MO or a code has given
unit_some : (h : Header) → (eqb h.unit 0 and eqb h.coded 0) ≡ false → 1 ≤ unit_in h
unfolding unit_in pick ◌and◌
unit_some h e = go (eqb h.unit 0) refl e
  where
    some : (n : ℕ) → (n ≡ 0 → ⊥) → 1 ≤ n
    some n ne = omega arith

    go : (t : Bool) → eqb h.unit 0 ≡ t → (t and eqb h.coded 0) ≡ false → 1 ≤ pick t h.coded h.unit
    go true q f = some _ (eqb-false _ _ f)
    go false q f = some _ (eqb-false _ _ q)

-- M02's rules: the unit is given, and nothing is open
record Ready (g : Graphics) (l : Level) : Type 0 where
  unit : 1 ≤ unit_in g.header
  top : l.inside ≡ 0

ready : (g : Graphics) (l : Level) → end_fault g l ≡ 0 → Ready g l
unfolding end_fault unready
ready g l none =
    let given = unbroken (lit≤ tt) none in
    let closed = unbroken (lit≤ tt) given.1 in
    record {
      unit = unit_some g.header (neither _ _ given.0).1;
      top = eqb-true _ _ (not-false _ (neither _ _ closed.0).1);
    }

module _ (w : Lent) (p : Progress) (s : State) (k : Knows w p s) (kept : end_fault s.graphics s.level ≡ 0) (small : unit_in s.graphics.header ≤ 2)
    (e' : List ℕ) (ended : Ended w.entries e' p.builder) where
  unit_is : unit_in p.graphics.header ≡ unit_in s.graphics.header
  unit_is = ap (λ (g : Graphics). unit_in g.header) k.graphics

  ten : p.builder.height ≡ 10
  unfolding level_of
  ten =
      let top = inside_top p.builder.height p.builder.items p.depth p.copies p.sheet
      (ap (λ (l : Level). l.inside) k.level ∙ (ready s.graphics s.level kept).top) in
      (around_top w.entries w.apertures _ p.apertures s.opened _ _ _ _ _ top.0 top.1 k.around).2

  items_few : p.builder.items ≤ most
  items_few = items_known w p s k

  rooms : p.apertures ≤ aperture_room w.apertures
  rooms = let l = k.apertures.indexed.tree.inside in omega arith

  apertures_long : length s.apertures ≡ p.apertures
  apertures_long = apertures.known_long w.apertures p.apertures s.apertures k.apertures

  macros_long : length s.macros ≡ p.macros
  macros_long = macros.known_long w.file w.macros p.macros s.macros k.macros

  abbrev head : List ℕ
  head = head_of (unit_in p.graphics.header) p.builder p.apertures p.macros p.numbers

  low : 1 ≤ unit_in p.graphics.header
  low = rw unit_is (ready s.graphics s.level kept).unit

  high : unit_in p.graphics.header ≤ 2
  high = rw unit_is small

  is_valid : valid head e' w.apertures ≡ true
  is_valid = is_sheet s.marks w.entries e' w.apertures p.apertures p.builder k.shows ten items_few rooms ended
      (unit_in p.graphics.header) p.macros p.numbers low high

  -- the addresses of the parts that the marks put on the sheet
  addressed : sheet_addresses head e' w.apertures ≡ addresses_of s.marks
  unfolding addresses_of
  addressed =
      sym (addresses_are head e' w.apertures is_valid)
      ∙ ap part_addresses
      (is_from_marks s.marks w.entries e' w.apertures p.apertures p.builder k.shows ten items_few rooms ended
      (unit_in p.graphics.header) p.macros p.numbers low high)

  pub leaves : Leaves w.file head e' w.apertures w.macros w.numbers s
  unfolding head_of
  leaves = record {
    sheet = is_valid;
    items = is_plain s.marks w.entries e' w.apertures p.apertures p.builder k.shows ten items_few rooms ended
        (unit_in p.graphics.header) p.macros p.numbers low high;
    addresses = addressed;
    unit = unit_is;
    entries_used_lem = k.entries;
    apertures_used_lem = sym apertures_long;
    macros_used_lem = sym macros_long;
    numbers_used_lem = sym k.numbers.long;
    apertures = rw apertures_long k.apertures.records;
    linked = rw apertures_long k.apertures.indexed;
    macros = rw macros_long k.macros.records;
    numbers = rw k.numbers.long k.numbers.is;
    entries_behind = λ i l. ended.zeros i (rw k.entries l);
    apertures_behind = λ i l. k.apertures.unused i (rw (sym apertures_long) l);
    macros_behind = λ i l. k.macros.unused i (rw (sym macros_long) l);
  }
