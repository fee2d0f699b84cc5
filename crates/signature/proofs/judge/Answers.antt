-- `signature::judge` meets its contract: at each return the tests that led there pick the case of `judged`.
use mathlib.Core.Bool.{true, false}
use mathlib.Core.Path.{◌≡◌, sym, ◌∙◌}
use Rattle.hexadecimal.specs.Digits.{same_digits}
use Rattle.hexadecimal.specs.Hex.{hex_of}
use Rattle.digest.specs.Runs.{finished}
use Rattle.signature.specs.Form.{is_signature, digits_of}
use Rattle.signature.specs.Held.{text_of}
use Rattle.signature.specs.Signature.{signed}
use Rattle.signature.proofs.Judged.{judged_signed, judged_other, judged_none}
use Rattle.signature.proofs.judge.Goals as goal

pub returns-then-same_digits : goal.returns-then-same_digits
unfolding text_of digits_of signed
returns-then-same_digits c =
    let a = c.args in
    let t = c.up_to-t.ensures in
    let e : is_signature (text_of a.h) ≡ true = rw t at (sym c.is_signature.ensures ∙ c.if-is_signature.true) in
    let f : same_digits (digits_of (text_of a.h)) (hex_of (finished a.s)) ≡ true =
    rw (c.hex.ensures, c.finish-d.ensures, c.part.ensures, t) at (sym c.same_digits.ensures ∙ c.if-same_digits.true) in
    rw c.finish-d.ensures (sym (judged_signed a.place (text_of a.h) (finished a.s) e f))

pub returns-then-is_signature : goal.returns-then-is_signature
unfolding text_of digits_of
returns-then-is_signature c =
    let a = c.args in
    let t = c.up_to-t.ensures in
    let e : is_signature (text_of a.h) ≡ true = rw t at (sym c.is_signature.ensures ∙ c.if-is_signature.true) in
    let f : same_digits (digits_of (text_of a.h)) (hex_of (finished a.s)) ≡ false =
    rw (c.hex.ensures, c.finish-d.ensures, c.part.ensures, t) at (sym c.same_digits.ensures ∙ c.if-same_digits.false) in
    c.refuse.ensures ∙ sym (judged_other a.place (text_of a.h) (finished a.s) e f)

pub returns : goal.returns
unfolding text_of
returns c =
    let a = c.args in
    let e : is_signature (text_of a.h) ≡ false = rw c.up_to-t.ensures at (sym c.is_signature.ensures ∙ c.if-is_signature.false) in
    c.refuse-2.ensures ∙ sym (judged_none a.place (text_of a.h) (finished a.s) e)
