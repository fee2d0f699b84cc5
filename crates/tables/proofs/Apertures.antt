-- An aperture more whose number was not found: it is read back as it was put, the others stay, and numbers are found by it too.
-- Assumes nothing.
use Rattle.std.specs.Prelude.{Err}
use Prim.Native.Nat.{ℕ, suc, ◌*◌, ◌≤◌, ◌<◌}
use mathlib.Core.Path.{◌≡◌, refl, ◌∙◌}
use mathlib.Core.List.{List}
use lib.ListN.{length, get_or}
use Rattle.index.specs.Tree.{record_width}
use Rattle.index.specs.Numbers.{numbered, Numbered}
use Rattle.sheet.specs.Records.{aperture_width, aperture_room, aperture_in, aperture_of}
use Rattle.sheet.specs.declared.Aperture.{Aperture}
use Rattle.sheet.proofs.Apertures.{aperture_same_words, aperture_words_lem}
use Rattle.tables.specs.Added.{added}
use Rattle.tables.specs.Apertures.{aperture_words}
use Rattle.tables.proofs.Adding.{added_behind, word_new, word_kept}
use Rattle.tables.proofs.Numbers.{number_ends, numbered_added}

module _ (a : List ℕ) (used link : ℕ) (r : Aperture) (room : used < aperture_room a) (n : Numbered a used) (free : numbered a used r.number ≡ Err link) where
  abbrev a' : List ℕ
  a' = added a used link (aperture_words r)

  wide : length (aperture_words r) ≡ record_width
  unfolding aperture_words
  wide = refl

  number_first : get_or (aperture_words r) 0 0 ≡ r.number
  unfolding aperture_words
  number_first = refl

  low : get_or (aperture_words r) 6 0 ≡ 0
  unfolding aperture_words
  low = refl

  high : get_or (aperture_words r) 7 0 ≡ 0
  unfolding aperture_words
  high = refl

  itself : aperture_in (aperture_words r) ≡ r
  unfolding aperture_words aperture_in
  itself = refl

  pub aperture_numbered : Numbered a' (suc used)
  aperture_numbered = numbered_added a used r.number link (aperture_words r) wide room n free number_first low high

  pub aperture_new : aperture_of a' used ≡ r
  aperture_new = aperture_words_lem a' (aperture_words r) used (word_new a used (aperture_words r) wide room n.tree r.number link (number_ends a used r.number link free)) ∙ itself

  pub aperture_kept : (i : ℕ) → i < used → aperture_of a' i ≡ aperture_of a i
  aperture_kept i l = aperture_same_words a' a i (λ m h. word_kept a used (aperture_words r) wide room n.tree r.number link (number_ends a used r.number link free) i m l h)

  -- after the new record the table is as it was
  pub aperture_behind : (k : ℕ) → suc used * aperture_width ≤ k → get_or a' k 0 ≡ get_or a k 0
  aperture_behind = added_behind a used (aperture_words r) wide room n.tree r.number link (number_ends a used r.number link free)
