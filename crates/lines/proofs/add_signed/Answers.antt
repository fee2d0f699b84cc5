-- `lines::add_signed` meets its contract: a word from 2^63 on is negative.
use Prim.Native.Nat.{◌-◌}
use native.Mathlib.Omega.{arith}
use mathlib.Core.Path.{◌≡◌, sym, ap, ◌∙◌}
use mathlib.Core.List.{◌++◌}
use Rattle.text.specs.Text.{text}
use Rattle.lines.specs.Line.{decimal_of}
use Rattle.lines.proofs.Laws.{behind, is_also, negative, positive}
use Rattle.lines.proofs.add_signed.Goals as goal

pub returns-then-w-ge9223372036854775808 : goal.returns-then-w-ge9223372036854775808
returns-then-w-ge9223372036854775808 c =
    let n : c.wrapping_neg.result ≡ 18446744073709551616 - c.args.w = omega (arith, c.wrapping_neg.ensures, c.wrapping_neg.type_inv, c.if-w-ge9223372036854775808.true) in
    is_also (ap (λ m. text "-" ++ decimal_of m) n ∙ sym (negative c.args.w c.if-w-ge9223372036854775808.true)) (behind c.add-from.ensures c.add_number.ensures)

pub returns : goal.returns
returns c =
    is_also (sym (positive c.args.w c.if-w-ge9223372036854775808.false)) c.add_number-2.ensures
