-- The outcome of a call for a run, one law for each way out.
-- Assumes nothing.
use Rattle.std.specs.Prelude.{Err, Ok}
use Prim.Native.Nat.{ℕ, ◌+◌, ◌≤◌, ◌<◌}
use mathlib.Core.Path.{◌≡◌, refl, sym, ap, ◌∙◌}
use mathlib.Core.List.{List, []}
use native.Mathlib.Omega.{arith}
use lib.IntN.{ℤ}
use lib.ListN.{length, drop, replicate}
use borrow.Author.Tests.{lt-ltb, le-ltb}
use Rattle.shapes.specs.Primitives.{primitives_in}
use Rattle.shapes.specs.Shapes.{lookup_of}
use Rattle.shapes.specs.declared.Primitive.{Primitive}
use Rattle.shapes.specs.declared.Shape.{Shape}
use Rattle.shapes.specs.Runs.{primitives_by, slots, fetch_by, fetch_of, fetched}
use Rattle.shapes.proofs.Slots.{slots_past, slots_behind}
use Rattle.shapes.proofs.Sound.{lookup_sound}
use Rattle.shapes.specs.declared.LookupError.TheVariants as lookup_error
use Rattle.shapes.specs.declared.FetchError.TheVariants as fetch_error

module _ (head a : List ℕ) (n : List ℤ) (number i words : ℕ) (out : List ℕ) where
  module _ {s : Shape} (e : lookup_of head a n number ≡ Ok s) where
    pub fetch_done : (at : ℕ) → i < s.primitives → (primitives_in n at (s.first + s.count)).list ≡ drop i (primitives_in n s.first (s.first + s.count)).list →
        out ≡ slots (primitives_in n at (s.first + s.count)).list 0 words →
        (Ok _ ≡ fetch_of head a n number i) × (out ≡ fetched head a n number i words)
    unfolding fetch_of fetch_by fetched
    fetch_done at h q o =
        let d = lookup_sound head a n number s e in
        let l : List Primitive = (primitives_in n s.first (s.first + s.count)).list in
        let few : i < length (primitives_by n (Ok s)) = omega (arith, h, d.count) in (
          rw (e, lt-ltb i (length (primitives_by n (Ok s))) few) refl,
          rw e (o ∙ ap (λ x. slots x 0 words) q ∙ slots_behind l i words ∙ ap (λ x. slots x i words) (sym (d.list (omega (arith, h))))),
        )

    pub fetch_past : s.primitives ≤ i → out ≡ replicate words 0 → (Err fetch_error.Past ≡ fetch_of head a n number i) × (out ≡ fetched head a n number i words)
    unfolding fetch_of fetch_by fetched
    fetch_past h o =
        let d = lookup_sound head a n number s e in
        let few : length (primitives_by n (Ok s)) ≤ i = omega (arith, h, d.count) in
        (rw (e, le-ltb i (length (primitives_by n (Ok s))) few) refl, rw e (o ∙ sym (slots_past (primitives_by n (Ok s)) i words few)))

  pub fetch_unknown : lookup_of head a n number ≡ Err lookup_error.Unknown → out ≡ replicate words 0 → (Err fetch_error.Unknown ≡ fetch_of head a n number i) × (out ≡ fetched head a n number i words)
  unfolding fetch_of fetch_by fetched primitives_by
  fetch_unknown e o = (rw e refl, rw e (o ∙ sym (slots_past [] i words (omega arith))))

  pub fetch_not : lookup_of head a n number ≡ Err lookup_error.NotSheet → out ≡ replicate words 0 → (Err fetch_error.NotSheet ≡ fetch_of head a n number i) × (out ≡ fetched head a n number i words)
  unfolding fetch_of fetch_by fetched primitives_by
  fetch_not e o = (rw e refl, rw e (o ∙ sym (slots_past [] i words (omega arith))))
