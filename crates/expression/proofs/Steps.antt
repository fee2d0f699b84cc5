-- The steps of the three evaluators, over plain values: how a factor begins, what a sign leads, and no parenthesis left to open.
-- Assumes nothing.
use Prim.Native.Nat.{ℕ, zero, suc, ◌-◌, ◌<◌}
use mathlib.Core.Path.{◌≡◌, refl, sym, ap, ◌∙◌}
use mathlib.Core.Bool.{Bool, true, false}
use mathlib.Core.List.{List}
use native.Mathlib.Omega.{arith}
use lib.Dec.{ltb}
use lib.IntN.{ℤ, pos}
use lib.ListN.{length, drop}
use borrow.Author.Tests.{ltb-true, ltb-false}
use Rattle.decimal.specs.declared.answers.Amount.{Amount}
use Rattle.macro_tokens.specs.Tokens.{tokens, lexed}
use Rattle.macro_tokens.specs.declared.Token.{Token}
use Rattle.expression.specs.Grammar.{Reading, head, tail, plus_minus, following, negated, leading, leaf_of, begun, closed, factor, expression, expression_at}
use Rattle.expression.specs.Reading.{Fits, Reads, Follows, Negates, as_read, next_of}
use Rattle.expression.specs.declared.Leaf.{Leaf}
use Rattle.expression.specs.declared.Leaf.TheVariants as leaf
use Rattle.expression.specs.declared.Operator.{Operator}
use Rattle.expression.specs.declared.Worked.{Worked}
use Rattle.expression.proofs.Seen.{head_seen, tail_seen, lexed_onward, lexed_none}
use Rattle.expression.proofs.Sizes.{lexed_small, leaf_small}
use Rattle.expression.proofs.Told.{stayed}

module _ (n : ℕ) (variables : List ℤ) (inner : List Token → Reading) (s : List ℕ) (at : ℕ) where
  begins : (f : Leaf) → f ≡ leaf_of variables (lexed s at).token →
      factor n variables inner (tokens (drop at s)) ≡ begun inner f (tokens (drop (lexed s at).next s))
  unfolding factor
  begins f e = rw (head_seen s at, tail_seen s at, sym e)

  pub factor_nothing : leaf.Nothing ≡ leaf_of variables (lexed s at).token →
      Reads s at (record { fine = false; value = record { millionths = pos 0 }; next = (lexed s at).next }) (factor n variables inner (tokens (drop at s)))
  unfolding as_read begun
  factor_nothing e =
      record { says = sym (begins leaf.Nothing e); further = lexed_onward s at; small = omega arith }

  pub factor_value : Fits variables → (a : Amount) → leaf.Value a ≡ leaf_of variables (lexed s at).token →
      Reads s at (record { fine = true; value = a; next = (lexed s at).next }) (factor n variables inner (tokens (drop at s)))
  unfolding as_read begun
  factor_value fits a e =
      record {
        says = sym (begins (leaf.Value a) e);
        further = lexed_onward s at;
        small = (rw (sym e) at (leaf_small variables fits (lexed s at).token (lexed_small s at))).size;
      }

  pub factor_open : leaf.Open ≡ leaf_of variables (lexed s at).token → (w r : Worked) →
      Reads s (lexed s at).next w (inner (tokens (drop (lexed s at).next s))) → Reads s w.next r (closed (as_read s w)) →
      Reads s at r (factor n variables inner (tokens (drop at s)))
  unfolding begun
  factor_open e w r i c =
      let a = i.further in
      let b = c.further in
      let d = lexed_onward s at in
      record {
        says = c.says ∙ ap closed i.says ∙ sym (begins leaf.Open e);
        further = omega arith;
        small = c.small;
      }

  -- what opens a parenthesis is a token
  pub open_inside : leaf.Open ≡ leaf_of variables (lexed s at).token → at < length s
  unfolding leaf_of
  open_inside e = by (ltb at (length s)) refl
    where
      by : (t : Bool) → ltb at (length s) ≡ t → at < length s
      by true f = ltb-true at (length s) f
      by false f =
          let z : leaf.Open ≡ leaf.Nothing = e ∙ ap (leaf_of variables) (lexed_none s at (ltb-false at (length s) f)).0 in
          let y : ◌≡◌ {A = ℕ} 0 1 = cc in
          absurd (omega arith)

module _ (term : List Token → Reading) (s : List ℕ) (at : ℕ) (o : Operator) (t w : Worked) where
  -- a sign, or none, and the term after it
  pub sign_leads : Follows plus_minus s at o → Reads s o.next t (term (tokens (drop o.next s))) → Negates o.second t w →
      Reads s at w (leading term (following (plus_minus (head (tokens (drop at s)))) (tail (tokens (drop at s)))) (tokens (drop at s)))
  unfolding leading next_of
  sign_leads f r m =
      let a = f.further in
      let b = r.further in
      let d = m.next in
      record { says = rw (sym f.says) (by o.any refl); further = omega arith; small = m.small }
    where
      by : (x : Bool) → o.any ≡ x → as_read s w ≡ leading term (next_of s o) (tokens (drop at s))
      by true e = rw e (m.says s ∙ ap (negated o.second) r.says)
      by false e = rw e (m.says s ∙ rw (f.plain e) (sym (stayed (as_read s t))) ∙ r.says ∙ ap (λ (k : ℕ). term (tokens (drop k s))) (f.none e))

module _ (n : ℕ) (variables : List ℤ) (s : List ℕ) (at : ℕ) where
  pub none_left : (depth : ℕ) → depth ≡ 0 →
      Reads s at (record { fine = false; value = record { millionths = pos 0 }; next = at }) (expression_at n variables depth (tokens (drop at s)))
  unfolding as_read expression_at
  none_left depth e = record { says = rw e; further = omega arith; small = omega arith }

  pub some_left : (depth : ℕ) → (depth ≡ 0 → ⊥) →
      expression_at n variables depth (tokens (drop at s)) ≡ expression n variables (expression_at n variables (depth - 1)) (tokens (drop at s))
  unfolding expression_at
  some_left zero h = absurd (h refl)
  some_left (suc depth) h = let e : suc depth - 1 ≡ depth = omega arith in rw e
