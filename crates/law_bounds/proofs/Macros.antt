-- AM: its name ends before its blocks do, and these before the end.
-- Assumes nothing.
use Prim.Native.Nat.{ℕ, ◌-◌, ◌≤◌, ◌<◌}
use Prim.Native.Char.{code}
use mathlib.Core.List.{List}
use native.Mathlib.Omega.{arith}
use lib.Dec.{eqb}
use lib.ListN.{length, take, length-take}
use borrow.Author.Tests.{ltb-true}
use Rattle.base.specs.Breaks.{is_break}
use Rattle.base.proofs.Trimmed.{trailing_short}
use Rattle.text.specs.First.{place}
use Rattle.text.proofs.First.{first_from_lem}
use Rattle.macro_tokens.specs.LineEnds.{without_trailing}
use Rattle.macro_form.specs.Macro.{headed, macro_of}
use Rattle.law_bounds.specs.Bounded.{DefinitionBounded, Bounded}
use Rattle.law_bounds.proofs.Tables.{picks, judges}

module _ (s : List ℕ) where
  headed_bounded : (t u : List ℕ) (q : ℕ) → 2 ≤ q → q < length u → length u ≤ length s → Bounded s (headed t u q)
  unfolding headed Bounded DefinitionBounded
  headed_bounded t u q h k l = judges (Bounded s) tt tt (λ formed short. record { ordered = h; behind = omega arith; inside = l })

  pub macro_bounded : Bounded s (macro_of s)
  unfolding macro_of Bounded
  macro_bounded =
      let t : List ℕ = without_trailing s in
      let u : List ℕ = take (length t - 1) t in
      let q : ℕ = place (code "*") u 2 in
      picks (Bounded s) (λ e. headed_bounded t u q (first_from_lem (λ x. eqb x (code "*")) u 2) (ltb-true q (length u) e)
      (omega (arith, length-take (length t - 1) t, trailing_short is_break s))) tt
