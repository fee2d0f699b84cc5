-- How wide the records are that a host lends room for (docs/SHEET.md): the constants of host/sheet.h are held to these.
use Rattle.std.specs.Prelude.{ℕ, ◌≤◌, ◌<◌, ◌/◌, ◌≡◌, true, List, length}
use Rattle.place.specs.declared.Item.{Item}
use Rattle.sheet.specs.declared.Entry.{Entry}
use Rattle.sheet.specs.Records.{entry_room, aperture_room, entry_words}
use Rattle.sheet.specs.declared.Aperture.{Aperture}
use Rattle.tables.specs.Apertures.{aperture_words}
use Rattle.tables.specs.declared.Macro.{Macro}
use Rattle.tables.specs.Macros.{macro_room, macro_words}
use Rattle.descend.specs.Slots.{item_words}
use Rattle.summary_rows.specs.declared.Row.{Row}
use Rattle.summary_by_aperture.specs.Kept.{row_words}
use Rattle.summary_by_aperture.specs.Answers.{roomy}
use Rattle.shapes.specs.declared.Primitive.{Primitive}
use Rattle.shapes.specs.declared.Shape.{Shape}
use Rattle.shapes.specs.Runs.{primitive_words}
use Rattle.host.specs.Shapes.{shape_words}

pub record ItemsAre (r : ℕ) : Type 0 where
  pub words : (t : Item) → length (item_words t) ≡ r

pub record EntriesAre (r : ℕ) : Type 0 where
  pub words : (t : Entry) → length (entry_words t) ≡ r
  pub room : (e : List ℕ) → entry_room e ≡ length e / r

pub record AperturesAre (r : ℕ) : Type 0 where
  pub words : (t : Aperture) → length (aperture_words t) ≡ r
  pub room : (a : List ℕ) → aperture_room a ≡ length a / r

pub record MacrosAre (r : ℕ) : Type 0 where
  pub words : (t : Macro) → length (macro_words t) ≡ r
  pub room : (m : List ℕ) → macro_room m ≡ length m / r

pub record RowsAre (r : ℕ) : Type 0 where
  pub words : (t : Row) → length (row_words t) ≡ r
  pub room : (n words scratch : ℕ) → roomy n words scratch ≡ true → n < words / r

pub record ScratchIs (r : ℕ) : Type 0 where
  pub room : (n words scratch : ℕ) → roomy n words scratch ≡ true → n ≤ scratch / r

pub record ShapesAre (r : ℕ) : Type 0 where
  pub words : (t : Shape) → length (shape_words t) ≡ r

pub record PrimitivesAre (r : ℕ) : Type 0 where
  pub words : (t : Primitive) → length (primitive_words t) ≡ r
