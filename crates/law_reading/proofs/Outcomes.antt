-- The outcome of an AD is nothing, 9 or 10.
-- Assumes nothing.
use Rattle.std.specs.Prelude.{None, Option, Some, ℤ}
use Prim.Native.Nat.{ℕ}
use mathlib.Core.Path.{◌≡◌, refl}
use mathlib.Core.Bool.{Bool, true, false, cond}
use mathlib.Core.List.{List, [], ◌∷◌}
use lib.Dec.{eqb}
use lib.IntN.{ℤ}
use lib.ListN.{get_or}
use Rattle.base.specs.Choose.{pick}
use Rattle.text.specs.Text.{byte}
use Rattle.macro_tokens.specs.LineEnds.{without_leading}
use Rattle.primitives.specs.Asked.{none, asked}
use Rattle.macros.specs.Given.{variables_of}
use Rattle.macros.specs.Work.{Effect, blocks_in, verdict, primitive_done, assigned, assignment_done, block_done, behind, worked_out}
use Rattle.templates.specs.Templates.{kind_of, keeps}
use Rattle.law_reading.specs.State.{Template}
use Rattle.law_reading.specs.Apertures.{blocks_of, is_standard, values_of, outcome_of}

pub data Verdict : ℕ → Type 0 where
  fine : Verdict 0
  nine : Verdict 9
  ten : Verdict 10

told_verdict : (fine kept : Bool) → Verdict (verdict fine kept)
unfolding verdict
told_verdict true true = fine
told_verdict true false = ten
told_verdict false kept = nine

assigned_verdict : (variables : List ℤ) (n : ℕ) (r : Option ℤ) → Verdict (assigned variables n r).fault
unfolding assigned
assigned_verdict variables n None = nine
assigned_verdict variables n (Some z) = fine

block_verdict : (variables : List ℤ) (s : List ℕ) → Verdict (block_done variables s).fault
unfolding block_done assignment_done primitive_done pick
block_verdict variables s = go (byte "0" (get_or (without_leading s) 0 0)) (byte "$" (get_or (without_leading s) 0 0))
  where
    go : (a b : Bool) → Verdict (pick a (record { fault = 0; variables = variables; written = [] }) (pick b (assignment_done variables (without_leading s)) (primitive_done variables (without_leading s)))).fault
    go true b = fine
    go false true = assigned_verdict variables _ _
    go false false = told_verdict _ _

worked_verdict : (variables : List ℤ) (ss : List (List ℕ)) → Verdict (worked_out variables ss).fault
unfolding worked_out behind
worked_verdict variables [] = fine
worked_verdict variables (s ∷ ss) = go (worked_verdict (block_done variables s).variables ss) (eqb (block_done variables s).fault 0)
  where
    go : Verdict (worked_out (block_done variables s).variables ss).fault → (t : Bool) →
        Verdict (elim t as (λ _. Effect) [ true ↦ behind (block_done variables s) (worked_out (block_done variables s).variables ss) | false ↦ block_done variables s ]).fault
    go ih true = ih
    go ih false = block_verdict variables s

pub outcome_verdict : (name s : List ℕ) (ms : List Template) → Verdict (outcome_of name s ms).fault
unfolding outcome_of
outcome_verdict name s ms = go (is_standard name) refl
  where
    standard : (t : Bool) → Verdict (cond t 0 10)
    standard true = fine
    standard false = ten

    go : (t : Bool) → is_standard name ≡ t → Verdict (outcome_of name s ms).fault
    go true e = rw e (standard (keeps (kind_of name) (asked none (values_of s))))
    go false e = rw e (worked_verdict (variables_of s) (blocks_in (blocks_of name ms)))
