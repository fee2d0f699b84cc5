-- What is lent, as it stands between two commands: "the file and room for entries, apertures, macros and numbers" (01, What is read).
use Rattle.std.specs.Prelude.{ℕ, List, ℤ, length}
use Rattle.sheet.specs.Records.{entry_room, aperture_room}
use Rattle.tables.specs.Macros.{macro_room}
use Rattle.law_reading.specs.State.{Room}

pub record Lent : Type 0 where
  pub file : List ℕ
  pub entries : List ℕ
  pub apertures : List ℕ
  pub macros : List ℕ
  pub numbers : List ℤ

unfoldable pub lent_of : List ℕ → List ℕ → List ℕ → List ℕ → List ℤ → Lent
lent_of file e a m n = record { file = file; entries = e; apertures = a; macros = m; numbers = n }

-- room is counted in whole records, and in numbers
unfoldable pub room_of : Lent → Room
room_of w = record {
  entries = entry_room w.entries;
  apertures = aperture_room w.apertures;
  macros = macro_room w.macros;
  numbers = length w.numbers;
}

unfoldable pub with_entries : List ℕ → Lent → Lent
with_entries v w = record { file = w.file; entries = v; apertures = w.apertures; macros = w.macros; numbers = w.numbers }

unfoldable pub with_apertures : List ℕ → Lent → Lent
with_apertures v w = record { file = w.file; entries = w.entries; apertures = v; macros = w.macros; numbers = w.numbers }

unfoldable pub with_macros : List ℕ → Lent → Lent
with_macros v w = record { file = w.file; entries = w.entries; apertures = w.apertures; macros = v; numbers = w.numbers }

unfoldable pub with_numbers : List ℤ → Lent → Lent
with_numbers v w = record { file = w.file; entries = w.entries; apertures = w.apertures; macros = w.macros; numbers = v }
