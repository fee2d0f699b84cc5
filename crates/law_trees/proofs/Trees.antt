-- Whatever AM takes for an expression is understood, the walk grows its tree and the grammar reads the tree to its end; and AM takes every
-- tree to depth 16 whose numbers and variables are in range.
-- Assumes nothing.
use Rattle.std.specs.Prelude.{None, Option, Some, ℤ}
use Prim.Native.Nat.{ℕ, ◌≤◌}
use mathlib.Core.Path.{◌≡◌, refl, sym, ap, ◌∙◌}
use mathlib.Core.Bool.{false}
use mathlib.Core.List.{List, []}
use lib.IntN.{ℤ}
use lib.ListN.{length}
use Rattle.macro_tokens.specs.Tokens.{tokens}
use Rattle.macro_tokens.proofs.Few.{tokens_few}
use Rattle.macro_form.specs.Expression.{expression_form}
use Rattle.expression.specs.Grammar.{plus_minus, times_over, head, kept}
use Rattle.expression.specs.Value.{whole, value_of}
use Rattle.law_trees.specs.Formed.{InRange}
use Rattle.law_trees.specs.Sound.{Sound}
use Rattle.law_trees.specs.Tree.{Expression, deepest}
use Rattle.law_trees.specs.Understood.{Understood}
use Rattle.law_trees.specs.Worth.{comes_to}
use Rattle.law_trees.specs.Written.{written}
use Rattle.law_trees.proofs.Built.{tokens_tree}
use Rattle.law_trees.proofs.Evaluated.{tree_reads}
use Rattle.law_trees.proofs.Formed.{tree_form_lem, tree_shallow}

whole_kept : (r : Option ℤ) → whole (kept r []) ≡ r
unfolding whole kept
whole_kept None = refl
whole_kept (Some a) = refl

-- the value of a tree's text
pub tree_value : (t : List ℕ) (e : Expression deepest) → written deepest e [] ≡ tokens t → (variables : List ℤ) → value_of variables t ≡ comes_to variables deepest e
unfolding value_of plus_minus times_over head
tree_value t e q variables =
    let h = tokens_few t in
    let k : length (written deepest e []) ≤ length t = rw q h in
    rw (sym q) (ap whole (tree_reads (length t) variables deepest e [] refl refl k) ∙ whole_kept (comes_to variables deepest e))

pub understood : (t : List ℕ) → Sound (expression_form t) → Understood t
unfolding expression_form
understood t s =
    let b = tokens_tree (tokens t) s in
    record { tree = b.0; text = b.1; form = tree_form_lem t b.0 b.1; value = tree_value t b.0 b.1 }

-- no 4, no 5 and no 15
pub taken : (t : List ℕ) (e : Expression deepest) → written deepest e [] ≡ tokens t → InRange deepest e → Sound (expression_form t) × ((expression_form t).long ≡ false)
taken t e q r = rw (tree_form_lem t e q) (record { form = r.form; depth = tree_shallow deepest e }, r.range)
