-- Records in use, one after the other in a list: as many, and one more at its end.
-- Assumes nothing.
use Prim.Native.Nat.{ℕ, suc, ◌+◌, ◌<◌}
use mathlib.Core.Path.{◌≡◌, refl, ap, ◌∙◌}
use mathlib.Core.List.{List, [], ◌∷◌, ◌++◌}
use native.Mathlib.Nat.{zero-add, mul-one}
use lib.ListN.{length}
use Rattle.base.specs.Run.{run}
use Rattle.base.proofs.Run.{run_snoc, run_cong, length_copies}

module _ {A : Type 0} (f : ℕ → A) (used : ℕ) where
  pub records_long : length (run (λ i. f i ∷ []) 0 used) ≡ used
  records_long = length_copies (λ i. f i ∷ []) 1 0 used (λ i l. refl) ∙ mul-one used

  pub records_more : (f' : ℕ → A) (known : List A) → ((i : ℕ) → i < used → f' i ≡ f i) → run (λ i. f i ∷ []) 0 used ≡ known →
      run (λ i. f' i ∷ []) 0 (suc used) ≡ known ++ (f' used ∷ [])
  records_more f' known same is =
      let each : (i : ℕ) → i < used → f' (0 + i) ∷ [] ≡ f (0 + i) ∷ [] = λ i l. rw (zero-add i) (ap (λ q. q ∷ []) (same i l)) in
      let old = run_cong (λ i. f' i ∷ []) (λ i. f i ∷ []) 0 0 used each ∙ is in
      run_snoc (λ i. f' i ∷ []) 0 used ∙ (λ x. old x ++ (f' (zero-add used x) ∷ []))
