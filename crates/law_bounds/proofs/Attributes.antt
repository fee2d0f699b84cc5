-- TF, TA, TO and TD: the name lies after the two letters, before the comma or the end.
-- Assumes nothing.
use Prim.Native.Nat.{ℕ}
use Prim.Native.Char.{code}
use mathlib.Core.List.{List}
use lib.Dec.{eqb}
use Rattle.text.specs.Text.{text}
use Rattle.text.proofs.First.{first_from_lem, first_to}
use Rattle.attribute_commands.specs.Attributes.{attribute_of, deletion_of}
use Rattle.law_bounds.specs.Bounded.{DeedBounded, Bounded}
use Rattle.law_bounds.proofs.Tables.{picks, begins_long}

module _ (s : List ℕ) where
  pub attribute_bounded : Bounded s (attribute_of s)
  unfolding attribute_of Bounded DeedBounded
  attribute_bounded =
      picks (Bounded s)
      (λ named. picks (Bounded s)
      (λ e. record {
        ordered = first_from_lem (λ x. eqb x (code ",")) s 2;
        inside = first_to (λ x. eqb x (code ",")) s 2 (begins_long s (text "TF") e);
      })
      (picks (Bounded s) (λ e. tt) (picks (Bounded s) (λ e. tt) tt)))
      tt

  pub deletion_bounded : Bounded s (deletion_of s)
  unfolding deletion_of Bounded DeedBounded
  deletion_bounded = picks (Bounded s) (λ e. tt) (picks (Bounded s) (λ e. tt) tt)
