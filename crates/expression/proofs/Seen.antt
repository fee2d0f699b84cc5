-- The first token from a place on, and those after it; the operator at a place.
-- Assumes nothing.
use Prim.Native.Nat.{ℕ, ◌<◌, ◌≤◌}
use mathlib.Core.Path.{◌≡◌, refl, sym, ap, ◌∙◌}
use mathlib.Core.Bool.{Bool, true, false, false≢true}
use mathlib.Core.List.{List}
use native.Mathlib.Omega.{arith}
use lib.Dec.{ltb}
use lib.ListN.{length, drop}
use borrow.Author.Tests.{ltb-true, ltb-false, le-ltb}
use Rattle.macro_tokens.specs.Tokens.{tokens, lexed}
use Rattle.macro_tokens.specs.declared.Token.{Token}
use Rattle.macro_tokens.specs.declared.Token.TheVariants.{End}
use Rattle.macro_tokens.proofs.Tokens.{tokens_next, tokens_end, lexed_further}
use Rattle.expression.specs.Grammar.{head, tail, go, following}
use Rattle.expression.specs.Reading.{Follows, operator_of, next_of}
use Rattle.expression.specs.declared.Sign.{Sign}
use Rattle.expression.specs.declared.Sign.TheVariants as sign

module _ (s : List ℕ) (at : ℕ) where
  pub lexed_none : length s ≤ at → ((lexed s at).token ≡ End) × ((lexed s at).next ≡ at)
  unfolding lexed
  lexed_none h = rw (le-ltb at (length s) h) (refl, refl)

  pub head_seen : head (tokens (drop at s)) ≡ (lexed s at).token
  unfolding head
  head_seen = go (ltb at (length s)) refl
    where
      go : (t : Bool) → ltb at (length s) ≡ t → head (tokens (drop at s)) ≡ (lexed s at).token
      go true e = rw (tokens_next s at (ltb-true at (length s) e))
      go false e = let h = ltb-false at (length s) e in rw (tokens_end s at h) (sym (lexed_none h).0)

  pub tail_seen : tail (tokens (drop at s)) ≡ tokens (drop (lexed s at).next s)
  unfolding tail
  tail_seen = go (ltb at (length s)) refl
    where
      go : (t : Bool) → ltb at (length s) ≡ t → tail (tokens (drop at s)) ≡ tokens (drop (lexed s at).next s)
      go true e = rw (tokens_next s at (ltb-true at (length s) e))
      go false e = let h = ltb-false at (length s) e in rw (tokens_end s at h, (lexed_none h).1) (sym (tokens_end s at h))

  pub lexed_onward : at ≤ (lexed s at).next
  lexed_onward = go (ltb at (length s)) refl
    where
      go : (t : Bool) → ltb at (length s) ≡ t → at ≤ (lexed s at).next
      go true e = let h = lexed_further s at (ltb-true at (length s) e) in omega arith
      go false e = let h = (lexed_none (ltb-false at (length s) e)).1 in omega arith

  -- a token that is none of a rank's where the text ends is inside the text where it is one of them
  module _ (rank : Token → Sign) (blank : rank End ≡ sign.Nothing) where
    any_inside : (g : Sign) → rank (lexed s at).token ≡ g → (operator_of g at (lexed s at).next).any ≡ true → at < length s
    unfolding operator_of
    any_inside g e a = go (ltb at (length s)) refl g e a
      where
        go : (t : Bool) → ltb at (length s) ≡ t → (g : Sign) → rank (lexed s at).token ≡ g → (operator_of g at (lexed s at).next).any ≡ true → at < length s
        go true f g e a = ltb-true at (length s) f
        go false f sign.Nothing e a = absurd (false≢true a)
        go false f sign.First e a = absurd (let z : sign.Nothing ≡ sign.First = sym blank ∙ ap rank (sym (lexed_none (ltb-false at (length s) f)).0) ∙ e in let y : ◌≡◌ {A = ℕ} 0 1 = cc in omega arith)
        go false f sign.Second e a = absurd (let z : sign.Nothing ≡ sign.Second = sym blank ∙ ap rank (sym (lexed_none (ltb-false at (length s) f)).0) ∙ e in let y : ◌≡◌ {A = ℕ} 0 1 = cc in omega arith)

    says : (g : Sign) (next : ℕ) → next_of s (operator_of g at next) ≡ following g (tokens (drop next s))
    unfolding next_of operator_of following
    says sign.Nothing next = refl
    says sign.First next = refl
    says sign.Second next = refl

    onward : (g : Sign) (next : ℕ) → at ≤ next → at ≤ (operator_of g at next).next
    unfolding operator_of
    onward sign.Nothing next h = omega arith
    onward sign.First next h = h
    onward sign.Second next h = h

    beyond : (g : Sign) (next : ℕ) → ((operator_of g at next).any ≡ true → at < next) → (operator_of g at next).any ≡ true → at < (operator_of g at next).next
    unfolding operator_of
    beyond sign.Nothing next h a = absurd (false≢true a)
    beyond sign.First next h a = h a
    beyond sign.Second next h a = h a

    none : (g : Sign) (next : ℕ) → (operator_of g at next).any ≡ false → (operator_of g at next).next ≡ at
    unfolding operator_of
    none sign.Nothing next a = refl
    none sign.First next a = absurd (false≢true (sym a))
    none sign.Second next a = absurd (false≢true (sym a))

    plain : (g : Sign) (next : ℕ) → (operator_of g at next).any ≡ false → (operator_of g at next).second ≡ false
    unfolding operator_of
    plain sign.Nothing next a = refl
    plain sign.First next a = absurd (false≢true (sym a))
    plain sign.Second next a = absurd (false≢true (sym a))

    pub follows : Follows rank s at (operator_of (rank (lexed s at).token) at (lexed s at).next)
    follows =
        let g = rank (lexed s at).token in
        let next = (lexed s at).next in
        record {
          says = rw (head_seen, tail_seen) (says g next);
          inside = any_inside g refl;
          further = onward g next lexed_onward;
          beyond = beyond g next (λ a. let h = lexed_further s at (any_inside g refl a) in omega arith);
          none = none g next;
          plain = plain g next;
        }
