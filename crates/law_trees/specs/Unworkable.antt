-- The expressions of a macro, and how one of them makes AD refuse with 9: an operation of its tree refuses (01, Macros).
use Rattle.std.specs.Prelude.{ℕ, ◌≡◌, List, [], ◌∷◌, map, ℤ, drop, get_or, None}
use Prim.Native.Char.{code}
use Rattle.text.specs.First.{place, after}
use Rattle.text.specs.Text.{byte}
use Rattle.base.specs.Choose.{choose}
use Rattle.macro_tokens.specs.LineEnds.{without_leading}
use Rattle.macros.specs.Work.{parameters_in, block_done}
use Rattle.law_trees.specs.Tree.{deepest}
use Rattle.law_trees.specs.Understood.{Understood}
use Rattle.law_trees.specs.Worth.{comes_to}

-- the texts of a block's expressions
unfoldable pub expressions_of : List ℕ → List (List ℕ)
expressions_of s =
    let t : List ℕ = without_leading s in
    choose
    ((byte "0" (get_or t 0 0), [])
    ∷ (byte "$" (get_or t 0 0), after "=" t ∷ [])
    ∷ [])
    (map without_leading (parameters_in (drop (place (code ",") t 0) t)))

-- an operation of the expression's tree refuses
pub record Unworkable (variables : List ℤ) (t : List ℕ) : Type 0 where
  pub expression : Understood t
  pub refused : comes_to variables deepest expression.tree ≡ None

-- one of these is so
pub data Any {A : Type 0} (P : A → Type 0) : List A → Type 0 where
  here : {x : A} {xs : List A} → P x → Any P (x ∷ xs)
  further : {x : A} {xs : List A} → Any P xs → Any P (x ∷ xs)

-- one of the expressions of a block is so, with the variables as the blocks before it leave them
pub data Fails : List ℤ → List (List ℕ) → Type 0 where
  now : {variables : List ℤ} {s : List ℕ} {ss : List (List ℕ)} → Any (Unworkable variables) (expressions_of s) → Fails variables (s ∷ ss)
  later : {variables : List ℤ} {s : List ℕ} {ss : List (List ℕ)} → Fails (block_done variables s).variables ss → Fails variables (s ∷ ss)
