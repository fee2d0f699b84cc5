-- In a format whose coordinates are worth their digits as they are written, what is read by its digits is the coordinate.
-- Assumes nothing.
use Prim.Native.Nat.{ℕ, ◌≤◌}
use mathlib.Core.Path.{◌≡◌, refl, sym}
use mathlib.Core.Bool.{Bool, true, false, not}
use mathlib.Core.List.{List}
use native.Mathlib.Omega.{arith}
use lib.Dec.{eqb}
use Rattle.base.specs.And.{◌and◌}
use Rattle.digits.specs.Coordinate.{coordinate_at}
use Rattle.formats.specs.Format.{in_force, places_of, exact_places}
use Rattle.formats.specs.Values.{taken_in}
use Rattle.formats.specs.declared.Format.{Format}
use Rattle.formats.proofs.Raised.{few, places_twelve}
use Rattle.formats.proofs.Taken.{taken_plain}

module _ (f g : Format) (eg : g ≡ in_force f) where
  pub exact_some : (not g.trailing and eqb g.decimals 6) ≡ true → places_of g ≡ exact_places f
  unfolding exact_places
  exact_some h = rw (sym eg, h) refl

  pub exact_none : (not g.trailing and eqb g.decimals 6) ≡ false → 0 ≡ exact_places f
  unfolding exact_places
  exact_none h = rw (sym eg, h) refl

pub exact_twelve : (f : Format) → exact_places f ≤ 12
unfolding exact_places
exact_twelve f = go (not (in_force f).trailing and eqb (in_force f).decimals 6) refl
  where
    go : (t : Bool) → (not (in_force f).trailing and eqb (in_force f).decimals 6) ≡ t → exact_places f ≤ 12
    go true e = rw e (places_twelve (few f))
    go false e = rw e (omega arith)

pub exact_taken : (f : Format) (s : List ℕ) (at : ℕ) → (exact_places f ≡ 0 → ⊥) → coordinate_at s at (exact_places f) ≡ taken_in f s at
exact_taken f s at some = go (not (in_force f).trailing and eqb (in_force f).decimals 6) refl
  where
    go : (t : Bool) → (not (in_force f).trailing and eqb (in_force f).decimals 6) ≡ t → coordinate_at s at (exact_places f) ≡ taken_in f s at
    go true e = taken_plain f (in_force f) s at (exact_places f) (coordinate_at s at (exact_places f)) refl (sym (exact_some f (in_force f) refl e)) refl e
    go false e = absurd (some (sym (exact_none f (in_force f) refl e)))
