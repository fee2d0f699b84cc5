-- An expression walked through token by token: the next one, and those after it. No more parentheses are open than bytes were passed.
-- Assumes nothing.
use Prim.Native.Nat.{ℕ, ◌+◌, ◌-◌, ◌<◌, ◌≤◌}
use mathlib.Core.Path.{◌≡◌}
use mathlib.Core.List.{List}
use native.Mathlib.Omega.{arith}
use lib.ListN.{length, drop}
use Rattle.macro_tokens.specs.Tokens.{tokens, lexed}
use Rattle.macro_tokens.specs.declared.Token.{Token}
use Rattle.macro_tokens.specs.declared.Token.TheVariants.{End, Number, Variable, Plus, Minus, Times, Over, Open, Close, Unknown}
use Rattle.macro_tokens.proofs.Tokens.{tokens_next, tokens_end}
use Rattle.macro_form.specs.Expression.{after_operand, after_operator, opened, closed, unknown, step, walked}
use Rattle.macro_form.specs.declared.Walk.{Walk}

module _ (s : List ℕ) (at : ℕ) (w : Walk) where
  pub walk_next : at < length s → walked w (tokens (drop at s)) ≡ walked (step w (lexed s at).token) (tokens (drop (lexed s at).next s))
  unfolding walked
  walk_next h = rw (tokens_next s at h)

  pub walk_end : length s ≤ at → walked w (tokens (drop at s)) ≡ w
  unfolding walked
  walk_end h = rw (tokens_end s at h)

pub open_after : (w : Walk) (t : Token) → (step w t).depth ≤ w.depth + 1
unfolding step after_operand after_operator opened closed unknown
open_after w End = omega arith
open_after w (Number n) = omega arith
open_after w (Variable n) = omega arith
open_after w Plus = omega arith
open_after w Minus = omega arith
open_after w Times = omega arith
open_after w Over = omega arith
open_after w Open = omega arith
open_after w Close = omega arith
open_after w Unknown = omega arith
