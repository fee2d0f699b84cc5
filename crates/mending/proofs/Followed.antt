-- What follows M02 is reported by the first place that holds no CR or LF.
-- Assumes nothing.
use Prim.Native.Nat.{ℕ, ◌+◌, ◌≤◌}
use mathlib.Core.Path.{◌≡◌, refl, sym, ap, ◌∙◌}
use mathlib.Core.Bool.{Bool, true, false, not}
use mathlib.Core.List.{List, [], ◌∷◌}
use native.Mathlib.Nat.{add-zero}
use native.Mathlib.Omega.{arith}
use lib.ListN.{length, drop, get_or, length-drop, get_or-eq_default}
use lib.Seq.{drop-drop, get_or-drop}
use Rattle.base.specs.And.{◌and◌}
use Rattle.base.specs.Breaks.{is_break}
use Rattle.text.specs.First.{first_in}
use Rattle.scan.specs.Permitted.{printable}
use Rattle.text.specs.First.{skipped}
use Rattle.mending.specs.Changes.{follows}

module _ (file : List ℕ) where
  -- the first of what stands from `at` on
  head_at : (s : List ℕ) (at b : ℕ) → drop at file ≡ b ∷ s → get_or file at 0 ≡ b
  head_at s at b h = ap (λ (k : ℕ). get_or file k 0) (sym (add-zero at)) ∙ sym (get_or-drop at file 0 0) ∙ ap (λ (x : List ℕ). get_or x 0 0) h

  followed_by : (s : List ℕ) (at : ℕ) → drop at file ≡ s → follows s ≡ printable (get_or file (first_in (λ b. not (is_break b)) s at) 0)
  unfolding follows first_in printable ◌and◌
  followed_by [] at h =
      let l : length file ≤ at = omega (arith, length-drop at file, ap length h) in
      rw (get_or-eq_default file 0 l)
  followed_by (b ∷ s) at h = go (followed_by s (at + 1) (sym (drop-drop 1 at file) ∙ ap (drop 1) h)) (is_break b) refl
    where
      go : follows s ≡ printable (get_or file (first_in (λ b. not (is_break b)) s (at + 1)) 0) → (t : Bool) → is_break b ≡ t →
          follows (b ∷ s) ≡ printable (get_or file (first_in (λ b. not (is_break b)) (b ∷ s) at) 0)
      go ih true e = rw (e, follows, first_in) ih
      go ih false e = rw (e, follows, first_in) (ap printable (sym (head_at s at b h)))

  pub followed : (at : ℕ) → follows (drop at file) ≡ printable (get_or file (skipped file at) 0)
  followed at = followed_by (drop at file) at refl
