-- What a block at no fault leaves among the numbers: nothing, or a primitive with as many parameters as its code has.
-- Assumes nothing.
use Rattle.std.specs.Prelude.{None, Option, Some, ℤ}
use Prim.Native.Nat.{ℕ, ◌+◌, ◌*◌, ◌/◌, ◌≤◌, ◌<◌}
use Prim.Native.Char.{code}
use mathlib.Core.Path.{◌≡◌, refl, sym, ap, ◌∙◌}
use mathlib.Core.Bool.{Bool, true, false, cond}
use mathlib.Core.List.{List, [], ◌∷◌}
use native.Mathlib.Omega.{arith}
use lib.Dec.{eqb, leb}
use lib.IntN.{ℤ, pos, nat_abs}
use lib.ListN.{length, get_or, take, drop}
use borrow.Author.Tests.{eqb-true, leb-true}
use Rattle.base.specs.And.{◌and◌}
use Rattle.base.specs.Or.{◌or◌}
use Rattle.base.specs.Choose.{pick, choose}
use Rattle.base.proofs.And.{and_l, and_r}
use Rattle.text.specs.First.{place}
use Rattle.text.specs.Text.{byte}
use Rattle.macro_tokens.specs.LineEnds.{without_leading}
use Rattle.primitives.specs.Asked.{none, asked}
use Rattle.primitives.specs.Heading.{most_parameters, heading}
use Rattle.primitives.specs.Rules.{whole_between, circle, vector_line, center_line, outline, polygon, thermal, code_of, keeps}
use Rattle.primitives.specs.declared.Asked.{Asked}
use Rattle.macros.specs.Work.{Effect, verdict, assigned, assignment_done, primitive_done, block_done, parameters_in, values_of}
use Rattle.macros.proofs.Working.{code_small}
use Rattle.shapes.specs.Primitives.{count_fits}
use Rattle.law_shapes.specs.Figures.{Figure, figure_of, figures_in}

-- how many parameters primitives have
pub record Ample (count : ℕ) : Type 0 where
  pub least : 4 ≤ count
  pub most : count ≤ most_parameters

pub data Writes : List ℤ → List Figure → Type 0 where
  nothing : Writes [] []
  one : {c : ℕ} {zs : List ℤ} → c < 100 → Ample (length zs) → count_fits c (length zs) (nat_abs (get_or zs 1 (pos 0))) ≡ true →
      Writes (pos (heading c (length zs)) ∷ zs) (record { code = c; parameters = zs } ∷ [])

contradicts : {A : Type 0} → false ≡ true → A
contradicts e = absurd (let z : ◌≡◌ {A = ℕ} 0 1 = cc in omega arith)

-- a primitive that keeps its rule has as many parameters as its code has
module _ (q : Asked) where
  abbrev second : ℕ
  second = nat_abs q.second.millionths

  rows_fit : (b1 b4 b5 b7 b20 b21 : Bool) →
      choose ((b1, circle q) ∷ (b4, outline q) ∷ (b5, polygon q) ∷ (b7, thermal q) ∷ (b20, vector_line q) ∷ (b21, center_line q) ∷ []) false ≡ true →
      choose
      ((b1, eqb q.count 4 or eqb q.count 5) ∷ (b4, eqb q.count (5 + 2 * (second / 1000000))) ∷ (b5, eqb q.count 6) ∷ (b7, eqb q.count 6)
      ∷ (b20, eqb q.count 7) ∷ (b21, eqb q.count 6) ∷ [])
      false ≡ true
  unfolding pick circle outline polygon thermal vector_line center_line
  rows_fit true b4 b5 b7 b20 b21 e = and_l _ _ e
  rows_fit false true b5 b7 b20 b21 e = and_r _ _ (and_r _ _ (and_l _ _ e))
  rows_fit false false true b7 b20 b21 e = and_l _ _ (and_l _ _ e)
  rows_fit false false false true b20 b21 e = and_l _ _ e
  rows_fit false false false false true b21 e = and_l _ _ e
  rows_fit false false false false false true e = and_l _ _ (and_l _ _ e)
  rows_fit false false false false false false e = contradicts e

  few : (k : ℕ) → eqb q.count k ≡ true → 4 ≤ k → k ≤ most_parameters → Ample q.count
  few k e l m = let f = eqb-true q.count k e in record { least = omega arith; most = omega arith }

  either_few : (t u : Bool) → eqb q.count 4 ≡ t → eqb q.count 5 ≡ u → (t or u) ≡ true → Ample q.count
  unfolding ◌or◌
  either_few true u f g e = few 4 f (omega arith) (omega arith)
  either_few false true f g e = few 5 g (omega arith) (omega arith)
  either_few false false f g e = contradicts e

  rows_few : (b1 b4 b5 b7 b20 b21 : Bool) →
      choose ((b1, circle q) ∷ (b4, outline q) ∷ (b5, polygon q) ∷ (b7, thermal q) ∷ (b20, vector_line q) ∷ (b21, center_line q) ∷ []) false ≡ true → Ample q.count
  unfolding pick circle outline polygon thermal vector_line center_line whole_between
  rows_few true b4 b5 b7 b20 b21 e = either_few (eqb q.count 4) (eqb q.count 5) refl refl (and_l _ _ e)
  rows_few false true b5 b7 b20 b21 e =
      let w = and_r _ _ (and_l _ _ e) in
      let m = leb-true second 5000000000 (and_r _ _ (and_r _ _ (and_l _ _ w))) in
      few (5 + 2 * (second / 1000000)) (and_r _ _ w) (omega arith) (omega arith)
  rows_few false false true b7 b20 b21 e = few 6 (and_l _ _ (and_l _ _ e)) (omega arith) (omega arith)
  rows_few false false false true b20 b21 e = few 6 (and_l _ _ e) (omega arith) (omega arith)
  rows_few false false false false true b21 e = few 7 (and_l _ _ e) (omega arith) (omega arith)
  rows_few false false false false false true e = few 6 (and_l _ _ (and_l _ _ e)) (omega arith) (omega arith)
  rows_few false false false false false false e = contradicts e

  pub keeps_fit : (c : ℕ) → keeps c q ≡ true → count_fits c q.count second ≡ true
  unfolding keeps count_fits
  keeps_fit c e = rows_fit (eqb c 1) (eqb c 4) (eqb c 5) (eqb c 7) (eqb c 20) (eqb c 21) e

  pub keeps_few : (c : ℕ) → keeps c q ≡ true → Ample q.count
  unfolding keeps
  keeps_few c e = rows_few (eqb c 1) (eqb c 4) (eqb c 5) (eqb c 7) (eqb c 20) (eqb c 21) e

-- all have values and the rule is kept
verdict_kept : (fine kept : Bool) → verdict fine kept ≡ 0 → kept ≡ true
unfolding verdict
verdict_kept true true e = refl
verdict_kept true false e = absurd (omega (arith, e))
verdict_kept false kept e = absurd (omega (arith, e))

module _ (zs : List ℤ) (c : ℕ) (k : keeps c (asked none zs) ≡ true) where
  asked_few : Ample (length zs)
  unfolding asked
  asked_few = keeps_few (asked none zs) c k

  asked_fits : count_fits c (length zs) (nat_abs (get_or zs 1 (pos 0))) ≡ true
  unfolding asked none
  asked_fits = keeps_fit (asked none zs) c k

module _ (vs : List ℤ) where
  primitive_writes : (t : List ℕ) → (primitive_done vs t).fault ≡ 0 → Writes (primitive_done vs t).written (figure_of vs t ∷ [])
  unfolding primitive_done figure_of
  primitive_writes t e =
      let comma : ℕ = place (code ",") t 0 in
      let zs : List ℤ = (values_of vs (parameters_in (drop comma t))).values in
      let k = verdict_kept (values_of vs (parameters_in (drop comma t))).fine (keeps (code_of (take comma t)) (asked none zs)) e in
      one (code_small (take comma t)) (asked_few zs (code_of (take comma t)) k) (asked_fits zs (code_of (take comma t)) k)

  assigned_writes : (n : ℕ) (r : Option ℤ) → Writes (assigned vs n r).written []
  unfolding assigned
  assigned_writes n None = nothing
  assigned_writes n (Some z) = nothing

  assignment_writes : (t : List ℕ) → Writes (assignment_done vs t).written []
  unfolding assignment_done
  assignment_writes t = assigned_writes _ _

  -- by what the block begins with
  case_writes : (t : List ℕ) (x y : Bool) →
      (choose ((x, record { fault = 0; variables = vs; written = [] }) ∷ (y, assignment_done vs t) ∷ []) (primitive_done vs t)).fault ≡ 0 →
      Writes (choose ((x, record { fault = 0; variables = vs; written = [] }) ∷ (y, assignment_done vs t) ∷ []) (primitive_done vs t)).written
      (choose ((x, []) ∷ (y, []) ∷ []) (figure_of vs t ∷ []))
  unfolding pick
  case_writes t true y e = nothing
  case_writes t false true e = assignment_writes t
  case_writes t false false e = primitive_writes t e

  pub block_writes : (s : List ℕ) → (block_done vs s).fault ≡ 0 → Writes (block_done vs s).written (figures_in vs s)
  unfolding block_done figures_in
  block_writes s e = case_writes (without_leading s) (byte "0" (get_or (without_leading s) 0 0)) (byte "$" (get_or (without_leading s) 0 0)) e
