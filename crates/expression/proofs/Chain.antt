-- A chain of operators of one rank, walked through from the left: its outcome from here on is its outcome from the start.
-- Assumes nothing.
use Rattle.std.specs.Prelude.{Option, ℤ}
use Prim.Native.Nat.{ℕ, zero, suc, ◌-◌, ◌^◌, ◌<◌, ◌≤◌}
use mathlib.Core.Path.{◌≡◌, refl, sym, ap, ◌∙◌}
use mathlib.Core.Bool.{Bool, true, false}
use mathlib.Core.List.{List}
use native.Mathlib.Omega.{arith}
use lib.IntN.{ℤ, nat_abs}
use lib.ListN.{length, drop}
use Rattle.macro_tokens.specs.Tokens.{tokens}
use Rattle.macro_tokens.specs.declared.Token.{Token}
use Rattle.expression.specs.Grammar.{Reading, stop, go, after, joined, chain}
use Rattle.expression.specs.Reading.{Reads, After, Joins, as_read, next_of}
use Rattle.expression.specs.declared.Operator.{Operator}
use Rattle.expression.specs.declared.Sign.{Sign}
use Rattle.expression.specs.declared.Worked.{Worked}

module _ (rank : Token → Sign) (op : Bool → ℤ → ℤ → Option ℤ) (operand : List Token → Reading) where
  pub chain_stop : (n : ℕ) (w : Reading) → after rank w ≡ stop → chain rank op operand n w ≡ w
  unfolding chain
  chain_stop zero w e = refl
  chain_stop (suc n) w e = rw (chain, e)

  pub chain_go : (n : ℕ) (w : Reading) (second : Bool) (ts : List Token) → after rank w ≡ go second ts →
      chain rank op operand (suc n) w ≡ chain rank op operand n (joined (op second) w (operand ts))
  unfolding chain
  chain_go n w second ts e = rw (chain, e)

  -- w is what was read so far of `all`, and o the operator after it
  pub record Chained (s : List ℕ) (at : ℕ) (w : Worked) (o : Operator) (all : Reading) : Type 0 where
    pub turns : ℕ
    pub enough : length s - w.next ≤ turns
    pub same : chain rank op operand turns (as_read s w) ≡ all
    pub further : at ≤ w.next
    pub small : nat_abs w.value.millionths < 10 ^ 12
    pub follows : After rank s w o

  module _ (s : List ℕ) (at : ℕ) where
    pub chain_starts : (w : Worked) (o : Operator) (first : Reading) → Reads s at w first → After rank s w o →
        Chained s at w o (chain rank op operand (length s) first)
    chain_starts w o first r a =
        record {
          turns = length s;
          enough = omega arith;
          same = ap (chain rank op operand (length s)) r.says;
          further = r.further;
          small = r.small;
          follows = a;
        }

    next_go : (o : Operator) → o.any ≡ true → next_of s o ≡ go o.second (tokens (drop o.next s))
    unfolding next_of
    next_go o e = rw e

    next_stop : (o : Operator) → o.any ≡ false → next_of s o ≡ stop
    unfolding next_of
    next_stop o e = rw e

    pub chain_again : (w f w' : Worked) (o o' : Operator) (all : Reading) → Chained s at w o all → o.any ≡ true →
        Reads s o.next f (operand (tokens (drop o.next s))) → Joins (op o.second) w f w' → After rank s w' o' →
        Chained s at w' o' all
    chain_again w f w' o o' all c any r j a = by c.turns c.enough c.same
      where
        by : (n : ℕ) → length s - w.next ≤ n → chain rank op operand n (as_read s w) ≡ all → Chained s at w' o' all
        by zero e q = let h = c.follows.inside any in absurd (omega arith)
        by (suc n) e q =
            let h = c.follows.inside any in
            let b = c.follows.beyond any in
            let k = r.further in
            let x = j.next in
            let y = c.further in
            record {
              turns = n;
              enough = omega arith;
              same =
                  ap (chain rank op operand n) (j.says s ∙ ap (joined (op o.second) (as_read s w)) r.says)
                  ∙ sym (chain_go n (as_read s w) o.second (tokens (drop o.next s)) (sym c.follows.says ∙ next_go o any))
                  ∙ q;
              further = omega arith;
              small = j.small;
              follows = a;
            }

    pub chain_ends : (w : Worked) (o : Operator) (all : Reading) → Chained s at w o all → o.any ≡ false → Reads s at w all
    chain_ends w o all c none =
        record {
          says = sym (chain_stop c.turns (as_read s w) (sym c.follows.says ∙ next_stop o none)) ∙ c.same;
          further = c.further;
          small = c.small;
        }

    -- fewer bytes are left after each operator
    pub chain_falls : (w f w' : Worked) (o : Operator) (all : Reading) → Chained s at w o all → o.any ≡ true →
        o.next ≤ f.next → w'.next ≡ f.next → length s - w'.next < length s - w.next
    chain_falls w f w' o all c any k x =
        let h = c.follows.inside any in
        let b = c.follows.beyond any in
        omega arith
