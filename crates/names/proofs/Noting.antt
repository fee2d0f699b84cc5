-- How a name is noted, one law for each way out of `note`.
-- Assumes nothing.
use Rattle.std.specs.Prelude.{Err, Ok}
use Prim.Native.Nat.{ℕ, ◌+◌}
use mathlib.Core.Path.{◌≡◌, refl, sym, ap, ◌∙◌}
use mathlib.Core.Bool.{true, false}
use mathlib.Core.List.{List}
use lib.Seq.{slice}
use Rattle.index.specs.Names.{named}
use Rattle.tables.specs.Added.{has_room, added}
use Rattle.tables.specs.Macros.{macro_words}
use Rattle.names.specs.Kept.{name_at, noted, noted_of, kept_at, kept_of}
use Rattle.names.specs.declared.Noted.TheVariants.{Again, New, Full}

module _ (file s : List ℕ) (used from to : ℕ) where
  abbrev name : List ℕ
  name = slice from to file

  pub note_found : {i : ℕ} → named file s used name ≡ Ok i → (Again ≡ noted_of file s used from to) × (s ≡ kept_of file s used from to)
  unfolding noted_of noted kept_of kept_at
  note_found e = (sym (ap (noted s used) e), sym (ap (kept_at s used from to) e))

  module _ {link : ℕ} {s' : List ℕ} (e : named file s used name ≡ Err link) (k : s' ≡ added s used link (macro_words (name_at from to))) where
    kept : s' ≡ kept_of file s used from to
    unfolding kept_of kept_at
    kept = k ∙ sym (ap (kept_at s used from to) e)

    pub note_new : has_room s used ≡ true → (New (used + 1) ≡ noted_of file s used from to) × (s' ≡ kept_of file s used from to)
    unfolding noted_of noted
    note_new r = (sym (ap (noted s used) e ∙ rw r refl), kept)

    pub note_full : has_room s used ≡ false → (Full ≡ noted_of file s used from to) × (s' ≡ kept_of file s used from to)
    unfolding noted_of noted
    note_full r = (sym (ap (noted s used) e ∙ rw r refl), kept)
