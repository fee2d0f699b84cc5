-- What the answer of lent zeros that were filled says of the two rooms; zeros stay zeros of their own length.
-- Assumes nothing.
use Prim.Native.Nat.{ℕ}
use mathlib.Core.Path.{◌≡◌, refl, sym, ap, ◌∙◌}
use mathlib.Core.Bool.{Bool, true, false}
use mathlib.Core.List.{List}
use lib.ListN.{length, replicate, length-replicate}
use Rattle.book.specs.declared.Book.{Book}
use Rattle.mending.specs.Changes.{changes}
use Rattle.mending.specs.Mended.{file_fits, report_fits, written_of, Fills}
use Rattle.mending.specs.Rebuilt.{mended}
use Rattle.mending.specs.declared.Written.{Written}
use Rattle.mending.specs.declared.Written.TheVariants.{Both, File, Nothing}

pub zeros_long : (n : ℕ) {l : List ℕ} → l ≡ replicate n 0 → length l ≡ n
zeros_long n e = ap length e ∙ length-replicate n 0

pub still_zeros : (n : ℕ) {l : List ℕ} → l ≡ replicate n 0 → l ≡ replicate (length l) 0
still_zeros n e = e ∙ ap (λ (k : ℕ). replicate k 0) (sym (zeros_long n e))

-- what an answer says: the mended file of n bytes fits or not, and the report of m changes
abbrev pub Says : Written → Bool → Bool → ℕ → ℕ → Type 0
Says (Both b k) f g n m = (f ≡ true) × (g ≡ true) × (b ≡ n) × (k ≡ m)
Says (File b) f g n m = (f ≡ true) × (g ≡ false) × (b ≡ n)
Says Nothing f g n m = f ≡ false

pub said : {book : Book} {file : List ℕ} {bytes room : ℕ} {r : Written} {out noted : List ℕ} → Fills book file bytes room r out noted →
    Says r (file_fits book file bytes) (report_fits book file room) (length (mended book file)) (length (changes book file))
unfolding written_of
said {book} {file} {bytes} {room} d = rw d.answer (go (file_fits book file bytes) refl (report_fits book file room) refl)
  where
    go : (f : Bool) → file_fits book file bytes ≡ f → (g : Bool) → report_fits book file room ≡ g →
        Says (written_of book file bytes room) (file_fits book file bytes) (report_fits book file room) (length (mended book file)) (length (changes book file))
    go true x true y = rw (x, y) (refl, refl, refl, refl)
    go true x false y = rw (x, y) (refl, refl, refl)
    go false x g y = rw x refl
