-- What a macro's aperture exposes, by the rules of AD alone (01, Macros): of each primitive among the macro's blocks, in their order, its code
-- and its parameters in millionths, worked out with the variables as the blocks before it leave them.
use Rattle.std.specs.Prelude.{ℕ, ◌+◌, List, [], ◌∷◌, ◌++◌, ℤ, take, drop, get_or}
use Prim.Native.Char.{code}
use Rattle.std.proofs.Math.Seq.{slice}
use Rattle.base.specs.Choose.{choose}
use Rattle.text.specs.First.{place}
use Rattle.text.specs.Text.{byte}
use Rattle.macro_tokens.specs.LineEnds.{without_leading}
use Rattle.primitives.specs.Rules.{code_of}
use Rattle.macros.specs.Work.{parameters_in, values_of, block_done}
use Rattle.shapes.specs.declared.Primitive.{Primitive}

pub record Figure : Type 0 where
  pub code : ℕ
  pub parameters : List ℤ

-- a primitive's text, worked out
unfoldable pub figure_of : List ℤ → List ℕ → Figure
figure_of variables t =
    let comma : ℕ = place (code ",") t 0 in
    record { code = code_of (take comma t); parameters = (values_of variables (parameters_in (drop comma t))).values }

-- a comment and an assignment expose nothing
unfoldable pub figures_in : List ℤ → List ℕ → List Figure
figures_in variables s =
    let t : List ℕ = without_leading s in
    choose ((byte "0" (get_or t 0 0), []) ∷ (byte "$" (get_or t 0 0), []) ∷ []) (figure_of variables t ∷ [])

unfoldable pub figures_of : List ℤ → List (List ℕ) → List Figure
figures_of variables [] = []
figures_of variables (s ∷ ss) = figures_in variables s ++ figures_of (block_done variables s).variables ss

-- a primitive that is answered, its parameters read from the numbers
unfoldable pub figure_at : List ℤ → Primitive → Figure
figure_at n p = record { code = p.code; parameters = slice p.first (p.first + p.count) n }
