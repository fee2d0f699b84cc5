-- Blocks are worked out in order, and in one 9 comes before 10: by induction over the blocks.
-- Assumes nothing.
use Prim.Native.Nat.{ℕ, ◌≤◌}
use mathlib.Core.Path.{◌≡◌, refl, ap}
use mathlib.Core.Bool.{Bool, true, false, cond}
use mathlib.Core.List.{List, [], ◌∷◌, ◌++◌}
use native.Mathlib.Omega.{arith}
use lib.Dec.{eqb}
use lib.IntN.{ℤ}
use borrow.Author.Tests.{eqb-true, eqb-false}
use Rattle.macros.specs.Work.{Effect, verdict, primitive_done, block_done, behind, worked_out}
use Rattle.law_kept.specs.Macros.{Worked, nothing, one, FirstAtFault, MacroOrder}

behind_one : {vs : List ℤ} {b : List ℕ} {bs : List (List ℕ)} {number : ℕ} → (block_done vs b).fault ≡ 0 → FirstAtFault (block_done vs b).variables bs number →
    FirstAtFault vs (b ∷ bs) number
behind_one {b = b} e k = record {
  before = b ∷ k.before;
  block = k.block;
  after = k.after;
  order = ap (λ l. b ∷ l) k.order;
  variables = k.variables;
  worked = one e k.worked;
  fault = k.fault;
}

first_at_fault : (vs : List ℤ) (bs : List (List ℕ)) → 1 ≤ (worked_out vs bs).fault → FirstAtFault vs bs (worked_out vs bs).fault
unfolding worked_out behind
first_at_fault vs [] some = absurd (omega arith)
first_at_fault vs (b ∷ bs) some = go (first_at_fault (block_done vs b).variables bs) (eqb (block_done vs b).fault 0) refl some
  where
    go : (1 ≤ (worked_out (block_done vs b).variables bs).fault → FirstAtFault (block_done vs b).variables bs (worked_out (block_done vs b).variables bs).fault) →
        (t : Bool) → eqb (block_done vs b).fault 0 ≡ t →
        1 ≤ (elim t as (λ _. Effect) [ true ↦ behind (block_done vs b) (worked_out (block_done vs b).variables bs) | false ↦ block_done vs b ]).fault →
        FirstAtFault vs (b ∷ bs) (elim t as (λ _. Effect) [ true ↦ behind (block_done vs b) (worked_out (block_done vs b).variables bs) | false ↦ block_done vs b ]).fault
    go ih true e some = behind_one (eqb-true (block_done vs b).fault 0 e) (ih some)
    go ih false e some = record { before = []; block = b; after = bs; order = refl; variables = vs; worked = nothing; fault = refl }

none_at_fault : (vs : List ℤ) (bs : List (List ℕ)) → (worked_out vs bs).fault ≡ 0 → Worked vs bs (worked_out vs bs).variables
unfolding worked_out behind
none_at_fault vs [] q = nothing
none_at_fault vs (b ∷ bs) q = go (none_at_fault (block_done vs b).variables bs) (eqb (block_done vs b).fault 0) refl q
  where
    go : ((worked_out (block_done vs b).variables bs).fault ≡ 0 → Worked (block_done vs b).variables bs (worked_out (block_done vs b).variables bs).variables) →
        (t : Bool) → eqb (block_done vs b).fault 0 ≡ t →
        (elim t as (λ _. Effect) [ true ↦ behind (block_done vs b) (worked_out (block_done vs b).variables bs) | false ↦ block_done vs b ]).fault ≡ 0 →
        Worked vs (b ∷ bs) (elim t as (λ _. Effect) [ true ↦ behind (block_done vs b) (worked_out (block_done vs b).variables bs) | false ↦ block_done vs b ]).variables
    go ih true e q = one (eqb-true (block_done vs b).fault 0 e) (ih q)
    go ih false e q = absurd (eqb-false (block_done vs b).fault 0 e q)

pub macro_order : MacroOrder
unfolding primitive_done verdict
macro_order = record {
  first = first_at_fault;
  fine = none_at_fault;
  nine = λ vs t e. rw e;
  ten = λ vs t e k. rw (e, k);
}
