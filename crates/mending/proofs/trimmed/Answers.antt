use Prim.Native.Nat.{◌-◌}
use mathlib.Core.Path.{◌≡◌, sym, ap, ◌∙◌}
use mathlib.Core.List.{List}
use native.Mathlib.Omega.{arith}
use Prim.Native.Nat.{ℕ}
use lib.ListN.{length, take}
use lib.Seq.{length-take-le, take-take}
use Rattle.base.specs.Breaks.{is_break}
use Rattle.base.proofs.Trimmed.{last_goes, last_stays, last_none}
use Rattle.mending.proofs.trimmed.Goals as goal

-- without its last byte it still is the front
shorter : (s rest : List ℕ) → rest ≡ take (length rest) s → take (length rest - 1) rest ≡ take (length (take (length rest - 1) rest)) s
shorter s rest e =
    let n : length (take (length rest - 1) rest) ≡ length rest - 1 = length-take-le (length rest - 1) rest (omega arith) in
    ap (take (length rest - 1)) e ∙ take-take (length rest - 1) (length rest) s (omega arith) ∙ ap (λ (k : ℕ). take k s) (sym n)

pub returns-then-not-is_break : goal.returns-then-not-is_break
returns-then-not-is_break c =
    let i = c.loop-rest.invariant in
    (sym i.front ∙ sym (last_stays is_break _ c.in-len1-up.len_at_least (sym c.is_break.ensures ∙ c.if-not-is_break.true)) ∙ i.same, i.short)

pub loop-rest-preserved : goal.loop-rest-preserved
loop-rest-preserved c =
    let i = c.loop-rest.invariant in
    record {
      front = shorter _ _ i.front;
      short = omega (arith, length-take-le (length c.loop-rest.rest.now - 1) c.loop-rest.rest.now (omega arith), i.short);
      same = last_goes is_break _ c.in-len1-up.len_at_least (sym c.is_break.ensures ∙ c.if-not-is_break.false) ∙ i.same;
    }

pub returns : goal.returns
returns c =
    let i = c.loop-rest.invariant in
    (sym i.front ∙ sym (last_none is_break _ c.in_default.len_below) ∙ i.same, i.short)
