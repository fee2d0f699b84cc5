-- No text has more decimals than bytes.
-- Assumes nothing.
use Prim.Native.Nat.{ℕ, suc, ◌+◌, ◌-◌, ◌<◌, ◌≤◌}
use Prim.Native.Char.{code}
use mathlib.Core.Path.{◌≡◌}
use mathlib.Core.Bool.{Bool, true, false, not}
use mathlib.Core.List.{List, [], ◌∷◌}
use native.Mathlib.Omega.{arith}
use lib.Dec.{eqb}
use lib.ListN.{length, take, drop, get_or, length-drop}
use lib.Seq.{slice, length-slice}
use Rattle.digits.specs.Digits.{is_number}
use Rattle.text.specs.First.{place, after_byte, after}
use Rattle.text.specs.Pieces.{onto, parted, pieces}
use Rattle.text.specs.Text.{byte}
use Rattle.text.proofs.First.{first_from_lem, first_to}
use Rattle.base.specs.Choose.{pick}
use Rattle.command.proofs.Rounded.{counted_within}
use Rattle.macro_tokens.specs.LineEnds.{without_leading}
use Rattle.macro_tokens.specs.Tokens.{tokens}
use Rattle.macro_tokens.specs.declared.Token.{Token}
use Rattle.macro_tokens.specs.declared.Token.TheVariants.{End, Number, Variable, Plus, Minus, Times, Over, Open, Close, Unknown}
use Rattle.macro_tokens.proofs.Few.{tokens_few, leading_short}
use Rattle.macro_form.specs.Expression.{start, after_operand, after_operator, opened, closed, unknown, step, walked, finished, expression_form}
use Rattle.macro_form.specs.Blocks.{good, joined, gathered, parameter_form, primitive_form, numbered, assignment_form, block_form, blocks_form}
use Rattle.macro_form.specs.declared.Form.{Form}
use Rattle.macro_form.specs.declared.Walk.{Walk}

-- a token is one number at most
pub one_more : (w : Walk) (t : Token) → (step w t).rounded ≤ w.rounded + 1
unfolding step after_operand after_operator opened closed unknown
one_more w End = omega arith
one_more w (Number n) = omega (arith, counted_within n.rounded)
one_more w (Variable n) = omega (arith, counted_within false)
one_more w Plus = omega arith
one_more w Minus = omega arith
one_more w Times = omega arith
one_more w Over = omega arith
one_more w Open = omega arith
one_more w Close = omega arith
one_more w Unknown = omega arith

walked_few : (w : Walk) (ts : List Token) → (walked w ts).rounded ≤ w.rounded + length ts
unfolding walked
walked_few w [] = omega arith
walked_few w (t ∷ ts) = omega (arith, one_more w t, walked_few (step w t) ts)

pub expression_few : (t : List ℕ) → (expression_form t).rounded ≤ length t
unfolding expression_form finished start
expression_few t = omega (arith, walked_few start (tokens t), tokens_few t)

pub parameter_few : (t : List ℕ) → (parameter_form t).rounded ≤ length t
unfolding parameter_form
parameter_few t = omega (arith, expression_few (without_leading t), leading_short t)

-- the bytes of these texts together
extent : List (List ℕ) → ℕ
extent [] = 0
extent (t ∷ ts) = length t + extent ts

onto_extent : (b : ℕ) (ts : List (List ℕ)) → extent (onto b ts) ≤ suc (extent ts)
unfolding onto extent
onto_extent b [] = omega arith
onto_extent b (t ∷ ts) = omega arith

parted_extent : (m : ℕ) (s : List ℕ) → extent (parted m s) ≤ length s
unfolding parted extent
parted_extent m [] = omega arith
parted_extent m (b ∷ s) = go (parted_extent m s) (eqb b m)
  where
    go : extent (parted m s) ≤ length s → (x : Bool) → extent (elim x [ true ↦ [] ∷ parted m s | false ↦ onto b (parted m s) ]) ≤ suc (length s)
    go h true = omega arith
    go h false = omega (arith, onto_extent b (parted m s))

pieces_extent : (m : ℕ) (s : List ℕ) → extent (pieces m s) ≤ length s
unfolding pieces extent
pieces_extent m [] = omega arith
pieces_extent m (b ∷ s) = omega (arith, parted_extent m s)

module _ (form : List ℕ → Form) (few : (t : List ℕ) → (form t).rounded ≤ length t) where
  gathered_few : (f : Form) (ts : List (List ℕ)) → (gathered form f ts).rounded ≤ f.rounded + extent ts
  unfolding gathered joined extent
  gathered_few f [] = omega arith
  gathered_few f (t ∷ ts) = omega (arith, few t, gathered_few (joined f (form t)) ts)

  -- the piece from a mark to the next one
  pub piece : (m : ℕ) (s : List ℕ) (at next : ℕ) → at < length s → next ≡ place m s (at + 1) →
      ((form (slice (at + 1) next s)).rounded + (at + 1) ≤ next) × (next ≤ length s)
  piece m s at next h e =
      let low : at + 1 ≤ next = omega (arith, e, first_from_lem (λ b. eqb b m) s (at + 1)) in
      let high : next ≤ length s = omega (arith, e, first_to (λ b. eqb b m) s (at + 1) (omega arith)) in
      (omega (arith, few (slice (at + 1) next s), length-slice (at + 1) next s high), high)

primitive_few : (t : List ℕ) → (primitive_form t).rounded ≤ length t
unfolding primitive_form
primitive_few t =
    let comma : ℕ = place (code ",") t 0 in
    let code-form : Form = record { formless = not (is_number (take comma t)); long = false; deep = false; rounded = 0 } in
    let h = gathered_few parameter_form parameter_few code-form (pieces (code ",") (drop comma t)) in
    omega (arith, pieces_extent (code ",") (drop comma t), length-drop comma t)

assignment_few : (t : List ℕ) → (assignment_form t).rounded ≤ length t
unfolding assignment_form joined numbered after_byte
assignment_few t =
    let equals : ℕ = place (code "=") t 0 in
    omega (arith, expression_few (after "=" t), length-drop 1 (drop equals t), length-drop equals t)

pub block_few : (s : List ℕ) → (block_form s).rounded ≤ length s
unfolding block_form good pick
block_few s = go (byte "0" (get_or t 0 0)) (byte "$" (get_or t 0 0))
  where
    t : List ℕ
    t = without_leading s

    go : (comment assigns : Bool) → (pick comment good (pick assigns (assignment_form t) (primitive_form t))).rounded ≤ length s
    go true b = omega arith
    go false true = omega (arith, assignment_few t, leading_short s)
    go false false = omega (arith, primitive_few t, leading_short s)

pub blocks_few : (s : List ℕ) → (blocks_form s).rounded ≤ length s
unfolding blocks_form good
blocks_few s = omega (arith, gathered_few block_form block_few good (pieces (code "*") s), pieces_extent (code "*") s)
