-- The one search is both questions: by name the first that has it, by number the one after so many others.
-- Assumes nothing.
use Rattle.std.specs.Prelude.{Option, Some}
use Prim.Native.Nat.{ℕ, zero, suc, ◌-◌}
use mathlib.Core.Path.{◌≡◌, refl, ap}
use mathlib.Core.Bool.{Bool, true, false}
use mathlib.Core.List.{List, [], ◌∷◌}
use native.Mathlib.Omega.{arith}
use lib.Dec.{eqb}
use borrow.Author.Tests.{ne_eqb}
use Rattle.sequence.specs.Commands.{Sequence}
use Rattle.labels.specs.Labels.{labels_in, is_named, named_in, nth_in, judged, answer_in}
use Rattle.labels.specs.Pass.{wants, first_wanted}
use Rattle.labels.specs.declared.Label.{Label}

module _ (file name : List ℕ) where
  by_name_lem : (left : ℕ) (ls : List Label) → first_wanted file true name left ls ≡ named_in file name ls
  unfolding first_wanted wants named_in
  by_name_lem left [] = refl
  by_name_lem left (l ∷ ls) = go (is_named file name l) (by_name_lem (left - 1) ls)
    where
      go : (t : Bool) → first_wanted file true name (left - 1) ls ≡ named_in file name ls →
          ◌≡◌ {A = Option Label} (elim t [ true ↦ Some l | false ↦ first_wanted file true name (left - 1) ls ]) (elim t [ true ↦ Some l | false ↦ named_in file name ls ])
      go true rest = refl
      go false rest = rest

  by_number_lem : (i : ℕ) (ls : List Label) → first_wanted file false name i ls ≡ nth_in i ls
  unfolding first_wanted wants nth_in
  by_number_lem i [] = refl
  by_number_lem zero (l ∷ ls) = refl
  by_number_lem (suc i) (l ∷ ls) =
      let e : eqb (suc i) 0 ≡ false = ne_eqb (suc i) 0 (λ (q : suc i ≡ 0). omega arith) in
      let m : suc i - 1 ≡ i = omega arith in
      rw (e, first_wanted, m) (by_number_lem i ls)

  pub answer_named : (left : ℕ) (l : Sequence) → answer_in file (first_wanted file true name left) l ≡ answer_in file (named_in file name) l
  unfolding answer_in
  answer_named left l = ap (judged l.fault.number) (by_name_lem left (labels_in file l.commands))

  pub answer_nth : (i : ℕ) (l : Sequence) → answer_in file (first_wanted file false name i) l ≡ answer_in file (nth_in i) l
  unfolding answer_in
  answer_nth i l = ap (judged l.fault.number) (by_number_lem i (labels_in file l.commands))
