-- The coordinate that was read by its digits at a place, raised, is the one that stands there in the format.
-- Assumes nothing.
use Rattle.std.specs.Prelude.{Ok, Result, ℤ}
use Prim.Native.Nat.{ℕ, ◌*◌, ◌^◌, ◌≤◌, ◌<◌}
use mathlib.Core.Path.{◌≡◌, refl, sym, ap, ◌∙◌}
use mathlib.Core.Bool.{Bool, true, false, not, false≢true}
use mathlib.Core.List.{List}
use lib.Dec.{eqb}
use lib.IntN.{ℤ, nat_abs}
use lib.ListN.{length}
use lib.Seq.{slice}
use borrow.Author.Tests.{eqb-true}
use Rattle.base.specs.And.{◌and◌}
use Rattle.base.proofs.And.{and_l, and_r}
use Rattle.digits.specs.Sign.{has_minus, after_sign}
use Rattle.digits.specs.Coordinate.{coordinate_of, coordinate_end, coordinate_at}
use Rattle.digits.specs.declared.answers.Taken.{Taken}
use Rattle.formats.specs.Format.{in_force, places_of}
use Rattle.formats.specs.Values.{coordinate_in, taken_in}
use Rattle.formats.specs.Raised.{zeros_behind, raised}
use Rattle.formats.specs.declared.Format.{Format}
use Rattle.formats.proofs.Raised.{few, whole_raised, whole_plain, whole_fits, zeros_twelve}
use Rattle.digits.specs.declared.answers.NumberError.{NumberError}

not-true : (b : Bool) → not b ≡ true → b ≡ false
not-true true e = absurd (false≢true e)
not-true false e = refl

module _ (f g : Format) (s : List ℕ) (at limit : ℕ) (taken : Taken) (eg : g ≡ in_force f) (el : limit ≡ places_of g) (et : taken ≡ coordinate_at s at limit) where
  next_is : taken.next ≡ coordinate_end s at
  unfolding coordinate_at
  next_is = ap (λ (t : Taken). t.next) et

  limit_is : limit ≡ places_of (in_force f)
  limit_is = el ∙ ap places_of eg

  read_is : taken.coordinate ≡ coordinate_of (slice at (coordinate_end s at) s) (places_of (in_force f))
  unfolding coordinate_at
  read_is = ap (λ (t : Taken). t.coordinate) et ∙ ap (coordinate_of (slice at (coordinate_end s at) s)) limit_is

  -- leading zeros left out and six places after the point
  pub taken_plain : (not g.trailing and eqb g.decimals 6) ≡ true → taken ≡ taken_in f s at
  unfolding taken_in coordinate_in coordinate_of
  taken_plain h =
      let zeros : g.trailing ≡ false = not-true _ (and_l (not g.trailing) (eqb g.decimals 6) h) in
      let six : g.decimals ≡ 6 = eqb-true _ _ (and_r (not g.trailing) (eqb g.decimals 6) h) in
      let t = slice at (coordinate_end s at) s in
      let same : taken.coordinate ≡ coordinate_in f t =
      read_is ∙ whole_plain (in_force f) (has_minus t) (after_sign t) (ap (λ (g : Format). g.trailing) (sym eg) ∙ zeros) (ap (λ (g : Format). g.decimals) (sym eg) ∙ six) in
      λ i. record { coordinate = same i; next = next_is i }

  -- any other
  module _ (t : List ℕ) (ep : t ≡ slice at taken.next s) (zeros : ℕ) (ez : zeros ≡ zeros_behind g (length (after_sign t))) where
    text_is : t ≡ slice at (coordinate_end s at) s
    text_is = ep ∙ ap (λ (n : ℕ). slice at n s) next_is

    zeros_are : zeros ≡ zeros_behind (in_force f) (length (after_sign t))
    zeros_are = ez ∙ ap (λ (g : Format). zeros_behind g (length (after_sign t))) eg

    reads : taken.coordinate ≡ coordinate_of t (places_of (in_force f))
    reads = read_is ∙ ap (λ (t : List ℕ). coordinate_of t (places_of (in_force f))) (sym text_is)

    pub taken_twelve : zeros ≤ 12
    taken_twelve = rw zeros_are (zeros_twelve (in_force f) (few f) true (after_sign t))

    pub taken_fits : (z : ℤ) → taken.coordinate ≡ Ok z → nat_abs z * 10 ^ zeros < 10 ^ 12
    unfolding coordinate_of
    taken_fits z q = rw zeros_are (whole_fits (in_force f) (few f) (has_minus t) (after_sign t) z (sym reads ∙ q))

    pub taken_raised : (minus : Bool) (c : Result ℤ NumberError) → minus ≡ has_minus t → c ≡ raised minus zeros taken.coordinate → record { coordinate = c; next = taken.next } ≡ taken_in f s at
    unfolding taken_in coordinate_in coordinate_of
    taken_raised minus c em ec =
        let as_read : raised minus zeros taken.coordinate ≡ raised (has_minus t) (zeros_behind (in_force f) (length (after_sign t))) (coordinate_of t (places_of (in_force f))) =
        λ i. raised (em i) (zeros_are i) (reads i) in
        let same : c ≡ coordinate_in f (slice at (coordinate_end s at) s) =
        ec ∙ as_read ∙ whole_raised (in_force f) (has_minus t) (after_sign t) ∙ ap (coordinate_in f) text_is in
        λ i. record { coordinate = same i; next = next_is i }
