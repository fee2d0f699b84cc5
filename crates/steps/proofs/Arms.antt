-- Parts of what is lent that stay as they are, and what is known of the rest.
-- Assumes nothing.
use Rattle.faults.specs.declared.Rule.{Rule}
use Rattle.std.specs.Prelude.{Result, ℕ}
use Prim.Native.Nat.{ℕ}
use mathlib.Core.Path.{◌≡◌, ◌∙◌, ap, subst}
use mathlib.Core.List.{List}
use lib.IntN.{ℤ}
use Rattle.progress.specs.Lent.{Lent, with_entries, with_apertures, with_macros, with_numbers}
use Rattle.law_reading.specs.Steps.{Step}
use Rattle.progress.specs.Knows.{Knows, Known, Follows}
use Rattle.progress.specs.declared.Progress.{Progress}

-- what is known of all that is lent is known of a part of it
pub known_of : (lends lends' : Lent → Type 0) (p : Progress) → ((w : Lent) → lends w → lends' w) → Known lends p → Known lends' p
known_of lends lends' p f k = record { lent = k.lent; state = k.state; is = f k.lent k.is; knows = k.knows }

-- a part that is put back as it was changes nothing
pub same_entries : (w : Lent) {e : List ℕ} → w.entries ≡ e → w ≡ with_entries e w
unfolding with_entries
same_entries w q i = record { file = w.file; entries = q i; apertures = w.apertures; macros = w.macros; numbers = w.numbers }

pub same_apertures : (w : Lent) {a : List ℕ} → w.apertures ≡ a → w ≡ with_apertures a w
unfolding with_apertures
same_apertures w q i = record { file = w.file; entries = w.entries; apertures = q i; macros = w.macros; numbers = w.numbers }

pub same_macros : (w : Lent) {m : List ℕ} → w.macros ≡ m → w ≡ with_macros m w
unfolding with_macros
same_macros w q i = record { file = w.file; entries = w.entries; apertures = w.apertures; macros = q i; numbers = w.numbers }

pub same_numbers : (w : Lent) {n : List ℤ} → w.numbers ≡ n → w ≡ with_numbers n w
unfolding with_numbers
same_numbers w q i = record { file = w.file; entries = w.entries; apertures = w.apertures; macros = w.macros; numbers = q i }

-- so that a step which leaves a part alone may be said to put it back
module _ (w : Lent) (t : Step) (r : Result Progress Rule) where
  pub keeps_apertures : (e a : List ℕ) → w.apertures ≡ a → Follows (Knows (with_entries e w)) t r → Follows (Knows (with_apertures a (with_entries e w))) t r
  unfolding with_entries
  keeps_apertures e a q h = subst (λ (v : Lent). Follows (Knows v) t r) (same_apertures (with_entries e w) q) h

  pub keeps_macros : (a m : List ℕ) (n : List ℤ) → w.macros ≡ m → Follows (Knows (with_apertures a (with_numbers n w))) t r →
      Follows (Knows (with_apertures a (with_macros m (with_numbers n w)))) t r
  unfolding with_numbers
  keeps_macros a m n q h = subst (λ (v : Lent). Follows (Knows v) t r) (ap (with_apertures a) (same_macros (with_numbers n w) q)) h

  pub keeps_others : (a m : List ℕ) (n : List ℤ) → w.apertures ≡ a → w.numbers ≡ n → Follows (Knows (with_macros m w)) t r →
      Follows (Knows (with_apertures a (with_macros m (with_numbers n w)))) t r
  unfolding with_macros
  keeps_others a m n p q h =
      subst (λ (v : Lent). Follows (Knows v) t r) (same_apertures (with_macros m w) p ∙ ap (λ v. with_apertures a (with_macros m v)) (same_numbers w q)) h
