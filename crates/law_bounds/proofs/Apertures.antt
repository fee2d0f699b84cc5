-- AD and AB: the number is in its range; a definition's name and parameters lie one after the other up to the end.
-- Assumes nothing.
use Prim.Native.Nat.{ℕ, ◌≤◌}
use Prim.Native.Char.{code}
use mathlib.Core.Bool.{not}
use mathlib.Core.List.{List}
use native.Mathlib.Omega.{arith}
use lib.Dec.{eqb, leb}
use lib.ListN.{length, drop}
use lib.Seq.{slice}
use Rattle.base.specs.Or.{◌or◌}
use Rattle.digits.specs.Digits.{is_digit, past_digits}
use Rattle.digits.specs.Natural.{natural_of}
use Rattle.text.specs.First.{place}
use Rattle.text.specs.Name.{is_name}
use Rattle.text.specs.Text.{text}
use Rattle.text.proofs.First.{first_from_lem, first_to}
use Rattle.command.specs.Numbers.{aperture_number}
use Rattle.apertures.specs.Blocks.{block_start, block_of}
use Rattle.apertures.specs.Definitions.{definition, aperture_of}
use Rattle.apertures.specs.Parameters.{parameters_of}
use Rattle.law_bounds.specs.Bounded.{DefinitionBounded, BracketBounded, Bounded}
use Rattle.law_bounds.proofs.Tables.{picks, judges, begins_long, neither}
use Rattle.law_bounds.proofs.Numbers.{in_range_lem}

module _ (s : List ℕ) where
  start_bounded : (t : List ℕ) → Bounded s (block_start t)
  unfolding block_start Bounded BracketBounded
  start_bounded t = judges (Bounded s) tt tt (in_range_lem (natural_of t))

  pub block_bounded : Bounded s (block_of s)
  unfolding block_of Bounded BracketBounded
  block_bounded = picks (Bounded s) (λ e. tt) (picks (Bounded s) (λ e. start_bounded (drop 3 s)) tt)

  definition_bounded : (p q : ℕ) → p ≤ q → q ≤ length s → Bounded s (definition s p q)
  unfolding definition Bounded DefinitionBounded
  definition_bounded p q h k =
      let number = aperture_number (slice 3 p s) in
      let ps = parameters_of (drop q s) in
      judges (Bounded s) tt tt (λ formed short. record {
        number = in_range_lem (natural_of (slice 3 p s))
            (neither number.formless (not (is_name (slice p q s))) (neither (number.formless or not (is_name (slice p q s))) ps.formless formed).0).0
            (neither number.long ps.long (neither (number.long or ps.long) (leb 65 ps.count) short).0).0;
        named = record { ordered = h; inside = k };
        given = record { ordered = k; inside = omega arith };
      })

  pub aperture_bounded : Bounded s (aperture_of s)
  unfolding aperture_of Bounded
  aperture_bounded =
      let p : ℕ = past_digits s 3 in
      picks (Bounded s) (λ e. definition_bounded p (place (code ",") s p)
      (first_from_lem (λ x. eqb x (code ",")) s p)
      (first_to (λ x. eqb x (code ",")) s p (first_to (λ b. not (is_digit b)) s 3 (begins_long s (text "ADD") e)))) tt
