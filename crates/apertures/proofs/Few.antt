-- No AD has more parameters that were rounded than bytes from its comma on.
-- Assumes nothing.
use Prim.Native.Nat.{ℕ, suc, ◌+◌, ◌≤◌}
use Prim.Native.Char.{code}
use mathlib.Core.Bool.{Bool, true, false}
use mathlib.Core.List.{List, [], ◌∷◌}
use native.Mathlib.Omega.{arith}
use lib.Dec.{eqb}
use lib.ListN.{length}
use Rattle.text.specs.Pieces.{onto, parted, pieces}
use Rattle.command.specs.Numbers.{size_of}
use Rattle.command.proofs.Rounded.{counted_within}
use Rattle.apertures.specs.Parameters.{more, gathered, parameters_of}
use Rattle.apertures.specs.declared.Parameters.{Parameters}

onto_few : (b : ℕ) (ts : List (List ℕ)) → length (onto b ts) ≤ suc (length ts)
unfolding onto
onto_few b [] = omega arith
onto_few b (t ∷ ts) = omega arith

parted_few : (m : ℕ) (s : List ℕ) → length (parted m s) ≤ suc (length s)
unfolding parted
parted_few m [] = omega arith
parted_few m (b ∷ s) = go (parted_few m s) (eqb b m)
  where
    go : length (parted m s) ≤ suc (length s) → (x : Bool) → length {A = List ℕ} (elim x [ true ↦ [] ∷ parted m s | false ↦ onto b (parted m s) ]) ≤ suc (suc (length s))
    go h true = omega arith
    go h false = omega (arith, onto_few b (parted m s))

pieces_few : (m : ℕ) (s : List ℕ) → length (pieces m s) ≤ length s
unfolding pieces
pieces_few m [] = omega arith
pieces_few m (b ∷ s) = parted_few m s

gathered_few : (p : Parameters) (ts : List (List ℕ)) → (gathered p ts).rounded ≤ p.rounded + length ts
unfolding gathered more
gathered_few p [] = omega arith
gathered_few p (t ∷ ts) = omega (arith, counted_within (size_of t).rounded, gathered_few (more p (size_of t)) ts)

pub parameters_few : (s : List ℕ) → (parameters_of s).rounded ≤ length s
unfolding parameters_of
parameters_few s =
    let h = gathered_few (record { formless = false; long = false; count = 0; rounded = 0 }) (pieces (code "X") s) in
    omega (arith, pieces_few (code "X") s)
