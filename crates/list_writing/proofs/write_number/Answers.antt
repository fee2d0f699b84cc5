-- `list_writing::write_number` meets its contract: the digits of the word are those of the number, and are written from a room of their own.
-- Assumes nothing.
use mathlib.Core.Path.{◌≡◌, sym, ap, ◌∙◌}
use native.Mathlib.Nat.{zero-add}
use native.Mathlib.Omega.{arith}
use lib.IntN.{ℤ}
use lib.ListN.{length}
use mir.Syntax.{w64}
use mir.Val.{of_z}
use mir.Facts.{to_z-of_z}
use Rattle.lines.specs.Line.{signed_of}
use Rattle.law_components.proofs.Steps.{numeral_word, length_numeral}
use Rattle.law_components.proofs.Written.{is_also, begins_with}
use Rattle.list_writing.proofs.write_number.Goals as goal

pub slice_bounds-digits-end : goal.slice_bounds-digits-end
slice_bounds-digits-end c =
    let z : ℤ = c.args.z in
    let f : c.add_signed-n.result ≡ length (signed_of c.word.result) = c.add_signed-n.ensures.end ∙ zero-add _ in
    let k : length c.add_signed-n.new.out ≡ 21 = c.add_signed-n.auto.out in
    let w : c.word.result ≡ of_z w64 z = c.word.ensures ∙ ap (of_z w64) (to_z-of_z c.ranges.z) in
    omega (arith, f, k, ap length (ap signed_of w ∙ numeral_word z c.ranges.z), length_numeral z)

pub slice_bounds-write-end : goal.slice_bounds-write-end
slice_bounds-write-end c =
    let f = c.add_signed-n.ensures in
    f.end ∙ zero-add _ ∙ sym (ap length (begins_with f))

pub returns : goal.returns
returns c =
    let z : ℤ = c.args.z in
    let f = c.add_signed-n.ensures in
    let w : c.word.result ≡ of_z w64 z = c.word.ensures ∙ ap (of_z w64) (to_z-of_z c.ranges.z) in
    is_also (begins_with f ∙ ap signed_of w ∙ numeral_word z c.ranges.z) c.write.ensures
