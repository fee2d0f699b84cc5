-- "But blocks of a macro are worked out in order: the first at fault decides, in it 9 before 10" (01, Numbers the reader answers).
use Rattle.std.specs.Prelude.{ℕ, ◌≤◌, ◌≡◌, true, false, List, [], ◌∷◌, ◌++◌, ℤ, drop, take}
use Prim.Native.Char.{code}
use Rattle.text.specs.First.{place}
use Rattle.primitives.specs.Asked.{none, asked}
use Rattle.primitives.specs.Rules.{code_of, keeps}
use Rattle.macros.specs.Work.{parameters_in, values_of, primitive_done, block_done, worked_out}

-- blocks that are each at no fault lead from values of the variables to others
pub data Worked : List ℤ → List (List ℕ) → List ℤ → Type 0 where
  nothing : {vs : List ℤ} → Worked vs [] vs
  one : {vs us : List ℤ} {b : List ℕ} {bs : List (List ℕ)} → (block_done vs b).fault ≡ 0 → Worked (block_done vs b).variables bs us → Worked vs (b ∷ bs) us

-- of blocks, one is at fault, and all before it are not
pub record FirstAtFault (vs : List ℤ) (bs : List (List ℕ)) (number : ℕ) : Type 0 where
  pub before : List (List ℕ)
  pub block : List ℕ
  pub after : List (List ℕ)
  pub order : bs ≡ before ++ block ∷ after
  pub variables : List ℤ
  pub worked : Worked vs before variables
  pub fault : (block_done variables block).fault ≡ number

-- the number of blocks is that of the first at fault; a primitive is 9 where one of its expressions has no value, and 10 only where
-- all have values and its rule is not kept
pub record MacroOrder : Type 0 where
  pub first : (vs : List ℤ) (bs : List (List ℕ)) → 1 ≤ (worked_out vs bs).fault → FirstAtFault vs bs (worked_out vs bs).fault
  pub fine : (vs : List ℤ) (bs : List (List ℕ)) → (worked_out vs bs).fault ≡ 0 → Worked vs bs (worked_out vs bs).variables
  pub nine : (vs : List ℤ) (t : List ℕ) → (values_of vs (parameters_in (drop (place (code ",") t 0) t))).fine ≡ false → (primitive_done vs t).fault ≡ 9
  pub ten : (vs : List ℤ) (t : List ℕ) → (values_of vs (parameters_in (drop (place (code ",") t 0) t))).fine ≡ true →
      keeps (code_of (take (place (code ",") t 0) t)) (asked none (values_of vs (parameters_in (drop (place (code ",") t 0) t))).values) ≡ false →
      (primitive_done vs t).fault ≡ 10
