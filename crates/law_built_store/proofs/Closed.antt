-- The record of a block that closes has its words, and every other record stays.
-- Assumes nothing.
use Prim.Native.Nat.{ℕ, zero, suc, ◌+◌, ◌*◌, ◌≤◌, ◌<◌}
use mathlib.Core.Path.{◌≡◌, refl, sym, ◌∙◌}
use mathlib.Core.Bool.{Bool, true, false}
use mathlib.Core.List.{List, [], ◌∷◌}
use native.Mathlib.Nat.{add-zero}
use native.Mathlib.Omega.{arith}
use lib.Dec.{ltb}
use lib.ListN.{length, get_or}
use borrow.Author.Tests.{ltb-true, ltb-false}
use Rattle.sheet.specs.Records.{aperture_width, aperture_in, aperture_of, aperture_room, stored}
use Rattle.sheet.proofs.Stored.{stored_below, stored_above, stored_at}
use Rattle.sheet.proofs.Apertures.{aperture_same_words, aperture_words_lem, aperture_number_lem}

module _ (a : List ℕ) (i first len t h : ℕ) (room : i < aperture_room a) where
  abbrev a' : List ℕ
  a' = stored a (i * aperture_width + 1) (6 ∷ first ∷ len ∷ t ∷ h ∷ [])

  fit : i * aperture_width + 1 + 5 ≤ length a
  fit = omega arith

  word : (m : ℕ) → m < 6 → get_or a' (i * aperture_width + m) 0 ≡ get_or ((aperture_of a i).number ∷ 6 ∷ first ∷ len ∷ t ∷ h ∷ []) m 0
  word zero l = rw (add-zero (i * aperture_width)) (stored_below a (i * aperture_width + 1) (6 ∷ first ∷ len ∷ t ∷ h ∷ []) fit (i * aperture_width) (omega arith) ∙ sym (aperture_number_lem a i))
  word (suc k) l = let q : i * aperture_width + suc k ≡ i * aperture_width + 1 + k = omega arith in rw q (stored_at a (i * aperture_width + 1) (6 ∷ first ∷ len ∷ t ∷ h ∷ []) fit k (omega arith))

  pub block_written : aperture_of a' i ≡ record { number = (aperture_of a i).number; kind = 6; first = first; len = len; items = t; height = h }
  unfolding aperture_in
  block_written = aperture_words_lem a' ((aperture_of a i).number ∷ 6 ∷ first ∷ len ∷ t ∷ h ∷ []) i word

  pub others_kept : (j : ℕ) → (j ≡ i → ⊥) → aperture_of a' j ≡ aperture_of a j
  others_kept j ne = aperture_same_words a' a j (λ k l. go k l (ltb j i) refl)
    where
      go : (k : ℕ) → k < 6 → (x : Bool) → ltb j i ≡ x → get_or a' (j * aperture_width + k) 0 ≡ get_or a (j * aperture_width + k) 0
      go k l true q = let lt = ltb-true j i q in stored_below a (i * aperture_width + 1) (6 ∷ first ∷ len ∷ t ∷ h ∷ []) fit (j * aperture_width + k) (omega arith)
      go k l false q = let ge = ltb-false j i q in let apart : i < j = above ge in stored_above a (i * aperture_width + 1) (6 ∷ first ∷ len ∷ t ∷ h ∷ []) fit (j * aperture_width + k) (omega arith)
        where
          above : i ≤ j → i < j
          above ge = omega arith
