-- The counts with one command more.
-- Assumes nothing.
use Prim.Native.Nat.{ℕ, ◌+◌}
use mathlib.Core.Path.{◌≡◌}
use mathlib.Core.List.{List, [], ◌∷◌, ◌++◌}
use native.Mathlib.Omega.{arith}
use Rattle.sequence.specs.declared.Placed.{Placed}
use Rattle.layer.specs.Made.{made_of}
use Rattle.layer.specs.Work.{items_by, apertures_by, operations_in, apertures_in, sets_of, designators_in}

pub operations_append : (cs ds : List Placed) → operations_in (cs ++ ds) ≡ operations_in cs + operations_in ds
unfolding operations_in
operations_append [] ds = omega arith
operations_append (c ∷ cs) ds = let h = operations_append cs ds in omega arith

pub apertures_append : (cs ds : List Placed) → apertures_in (cs ++ ds) ≡ apertures_in cs + apertures_in ds
unfolding apertures_in
apertures_append [] ds = omega arith
apertures_append (c ∷ cs) ds = let h = apertures_append cs ds in omega arith

pub designators_append : (file : List ℕ) (cs ds : List Placed) → designators_in file (cs ++ ds) ≡ designators_in file cs + designators_in file ds
unfolding designators_in
designators_append file [] ds = omega arith
designators_append file (c ∷ cs) ds = let h = designators_append file cs ds in omega arith

module _ (c : Placed) where
  pub operations_one : operations_in (c ∷ []) ≡ items_by (made_of c.command)
  unfolding operations_in
  operations_one = omega arith

  pub apertures_one : apertures_in (c ∷ []) ≡ apertures_by (made_of c.command)
  unfolding apertures_in
  apertures_one = omega arith

  pub designators_one : (file : List ℕ) → designators_in file (c ∷ []) ≡ sets_of file c ".C" + sets_of file c ".P"
  unfolding designators_in
  designators_one file = omega arith
