-- The record of a macro: where its name and its blocks lie in the file, and the links of the search for the name (docs/SHEET.md, decision 209).
use Rattle.std.specs.Prelude.{ℕ, ◌+◌, ◌*◌, ◌/◌, List, [], ◌∷◌, length, get_or}
use Rattle.tables.specs.declared.Macro.{Macro}

-- its words
abbrev pub macro_width : ℕ
macro_width = 8

abbrev pub macro_room : List ℕ → ℕ
macro_room m = length m / macro_width

unfoldable pub macro_of : List ℕ → ℕ → Macro
macro_of m i = record { from = get_or m (i * macro_width) 0; to = get_or m (i * macro_width + 1) 0; first = get_or m (i * macro_width + 2) 0; end = get_or m (i * macro_width + 3) 0 }

-- its words as it is put into the table: the links lead nowhere yet
unfoldable pub macro_words : Macro → List ℕ
macro_words r = r.from ∷ r.to ∷ r.first ∷ r.end ∷ 0 ∷ 0 ∷ 0 ∷ 0 ∷ []
