-- `formats::coordinate_in` meets its contract: what was read by its digits is the coordinate where the format is plain, and raised where it is not.
-- Assumes nothing.
use Prim.Native.Nat.{ℕ}
use mathlib.Core.Path.{ap, ◌∙◌}
use mathlib.Core.List.{List}
use lib.ListN.{length}
use borrow.Author.Tests.{eq-eqb}
use Rattle.base.proofs.And.{ands}
use Rattle.formats.specs.Raised.{zeros_behind}
use Rattle.formats.proofs.Raised.{few, places_twelve}
use Rattle.formats.proofs.Taken.{taken_plain, taken_twelve, taken_fits, taken_raised}
use Rattle.formats.proofs.coordinate_in.Goals as goal

pub places-requires : goal.places-requires
places-requires c = rw c.in_force-g.ensures (few _)

pub coordinate_at-taken-requires : goal.coordinate_at-taken-requires
coordinate_at-taken-requires c = (c.requires, rw (c.places.ensures, c.in_force-g.ensures) (places_twelve (few _)))

pub returns-then-g-eq6 : goal.returns-then-g-eq6
returns-then-g-eq6 c =
    taken_plain _ _ _ _ _ _ c.in_force-g.ensures c.places.ensures c.coordinate_at-taken.ensures (simp (c.if-not-g.true, eq-eqb _ 6 c.if-g-eq6.true, ands))

pub zeros_behind-zeros-requires : goal.zeros_behind-zeros-requires
zeros_behind-zeros-requires c =
    rw c.in_force-g.ensures (few _)

pub raise-requires : goal.raise-requires
raise-requires c =
    record {
      zeros_bound = taken_twelve _ _ _ _ _ _ c.in_force-g.ensures c.places.ensures c.coordinate_at-taken.ensures _ c.part-text.ensures _ (c.zeros_behind-zeros.ensures ∙ ap (λ (l : List ℕ). zeros_behind c.in_force-g.result (length l)) c.after_sign.ensures);
      zeros_bound_2 = taken_fits _ _ _ _ _ _ c.in_force-g.ensures c.places.ensures c.coordinate_at-taken.ensures _ c.part-text.ensures _ (c.zeros_behind-zeros.ensures ∙ ap (λ (l : List ℕ). zeros_behind c.in_force-g.result (length l)) c.after_sign.ensures);
    }

pub returns : goal.returns
returns c =
    taken_raised _ _ _ _ _ _ c.in_force-g.ensures c.places.ensures c.coordinate_at-taken.ensures _ c.part-text.ensures _ (c.zeros_behind-zeros.ensures ∙ ap (λ (l : List ℕ). zeros_behind c.in_force-g.result (length l)) c.after_sign.ensures) _ _ c.has_minus-minus.ensures c.raise.ensures
