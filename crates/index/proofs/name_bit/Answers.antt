-- `index::name_bit` meets its contract: past the first byte the key has no bits, and before that its bits are those of the bytes.
use Prim.Native.Nat.{ℕ, ◌/◌, ◌%◌, ◌^◌}
use mathlib.Core.Path.{sym, ap, ◌∙◌}
use native.Mathlib.Omega.{arith}
use Rattle.index.specs.Tree.{is_high}
use Rattle.index.proofs.NameKeys.{key_none, key_bit}
use Rattle.index.proofs.name_bit.Goals as goal

pub returns-then-to-from : goal.returns-then-to-from
returns-then-to-from c =
    let a = c.args in
    let p = c.requires in
    sym (ap is_high (key_none a.file.now (λ i. omega (arith, c.type_inv.file i)) a.d a.from a.to p.0 p.1 (omega arith)))

pub returns : goal.returns
returns c =
    let a = c.args in
    let p = c.requires in
    c.bit_of.ensures ∙ ap (λ (b : ℕ). is_high (b / 2 ^ (a.d % 8))) c.byte_at.ensures
    ∙ sym (key_bit a.file.now (λ i. omega (arith, c.type_inv.file i)) a.d a.from a.to p.1 (omega arith))
