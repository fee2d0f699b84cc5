-- What the newer edition's FS says, it says in the old one too.
-- Assumes nothing.
use Rattle.std.specs.Prelude.{Err, Ok}
use Prim.Native.Nat.{ℕ, ◌-◌, ◌≤◌}
use mathlib.Core.Path.{◌≡◌, refl, ap, ◌∙◌}
use mathlib.Core.Bool.{Bool, true, false}
use mathlib.Core.List.{List, ◌∷◌, ◌++◌}
use native.Mathlib.Omega.{arith}
use lib.Dec.{leb}
use lib.ListN.{get_or}
use borrow.Author.Tests.{leb-true}
use Rattle.base.specs.And.{◌and◌}
use Rattle.base.specs.Or.{◌or◌}
use Rattle.base.specs.Bytes.{same_bytes}
use Rattle.base.specs.Choose.{pick}
use Rattle.base.proofs.And.{and_l, and_r, ands}
use Rattle.base.proofs.Lists.{same_is, same_refl}
use Rattle.base.proofs.Tests.{tests}
use Rattle.text.specs.Name.{range}
use Rattle.text.specs.Text.{text, among}
use Rattle.formats.specs.Format.{newer}
use Rattle.formats.specs.Texts.{newer_format, of_form, old_format}
use Rattle.formats.specs.declared.Format.{Format}
use Rattle.formats.specs.declared.FormatError.TheVariants as format_error

abbrev form : ℕ → List ℕ
form n = text "FSLAX" ++ n ∷ text "6Y" ++ n ∷ text "6"

-- the text with n before the point
module _ (n : ℕ) (low : 49 ≤ n) (high : n ≤ 54) where
  is_of_form : of_form (form n) 76 65 n 54 ≡ true
  unfolding of_form among ◌or◌
  is_of_form =
      let h : 48 ≤ n = omega arith in
      let k : n ≤ 55 = omega arith in
      let z : n ≡ 48 → ⊥ = λ e. omega arith in
      simp (tests, ands, same_refl)

  old_form : old_format (form n) ≡ Ok (newer (n - 48))
  unfolding old_format newer pick ◌or◌
  old_form =
      let z : n ≡ 55 → ⊥ = λ e. omega arith in
      simp (tests, is_of_form)

pub newer_is_old : (s : List ℕ) (f : Format) → newer_format s ≡ Ok f → old_format s ≡ Ok f
unfolding newer_format pick
newer_is_old s f e = by_test (range "1" "6" (get_or s 5 0) and same_bytes s (form (get_or s 5 0))) refl e
  where
    by_test : (t : Bool) → (range "1" "6" (get_or s 5 0) and same_bytes s (form (get_or s 5 0))) ≡ t → pick t (Ok (newer (get_or s 5 0 - 48))) (Err format_error.NotForm) ≡ Ok f → old_format s ≡ Ok f
    by_test true g h =
        let n = get_or s 5 0 in
        let r = and_l (range "1" "6" n) (same_bytes s (form n)) g in
        let q : s ≡ form n = same_is s (form n) (and_r (range "1" "6" n) (same_bytes s (form n)) g) in
        ap old_format q ∙ old_form n (leb-true _ _ (and_l (leb 49 n) (leb n 54) r)) (leb-true _ _ (and_r (leb 49 n) (leb n 54) r)) ∙ h
    by_test false g h = absurd (let z : ◌≡◌ {A = ℕ} 0 1 = cc in omega arith)
