-- `expression::value_of` meets its contract: what was read of the text is a value where it is the whole text.
-- Assumes nothing.
use Rattle.expression.specs.Value.{whole, value_of}
use Rattle.expression.proofs.Sizes.{stored_small}
use Rattle.expression.proofs.Told.{whole_read, part_read}
use native.Mathlib.Omega.{arith}
use mathlib.Core.Path.{◌≡◌, refl, sym, ap, ◌∙◌}
use Prim.Native.Nat.{ℕ}
use Rattle.expression.proofs.value_of.Goals as goal

pub expression-w-requires : goal.expression-w-requires
expression-w-requires c = c.requires

pub returns-then-both : goal.returns-then-both
unfolding value_of
returns-then-both c =
    let w = c.expression-w in
    let a = c.args in
    rw (stored_small w.result.value.millionths w.ensures.small)
    (record {
      says = sym (whole_read a.t.now w.result (sym c.both.ensures ∙ c.if-both.true)) ∙ ap whole w.ensures.says;
      small = λ z e. let f : w.result.value.millionths ≡ z = cc in rw (sym f) w.ensures.small;
    })

pub returns : goal.returns
unfolding value_of
returns c =
    let w = c.expression-w in
    let a = c.args in
    record {
      says = sym (part_read a.t.now w.result _ _ refl refl (sym c.both.ensures ∙ c.if-both.false)) ∙ ap whole w.ensures.says;
      small = λ z e. let y : ◌≡◌ {A = ℕ} 0 1 = cc in absurd (omega arith);
    }
