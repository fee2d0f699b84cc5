-- `lines::item_line` meets its contract.
use Prim.Native.Nat.{◌-◌, ◌≤◌}
use mathlib.Core.Path.{◌≡◌, sym}
use native.Mathlib.Omega.{arith}
use lib.ListN.{length}
use lib.Seq.{length-take-le}
use Rattle.place.specs.Item.{item_width}
use Rattle.lines.proofs.Decimal.{length_decimal}
use Rattle.lines.proofs.Laws.{over, itself, no_field, field_more, line_whole, length_field}
use Rattle.lines.proofs.item_line.Goals as goal

pub loop-i-init : goal.loop-i-init
loop-i-init c =
    let A = c.args in
    let f = c.add_number-at.ensures in
    (omega arith, omega (arith, f.end, length_decimal A.k), no_field _ _ A.k A.words.now _ (itself f))

pub add_field-at-requires : goal.add_field-at-requires
add_field-at-requires c = let v = c.loop-i.invariant in omega arith

pub loop-i-preserved : goal.loop-i-preserved
loop-i-preserved c =
    let A = c.args in
    let i = c.loop-i.i in
    let v = c.loop-i.invariant in
    let g = c.add_field-at.ensures in (
      omega (arith, g.end),
      omega (arith, g.end, length_field i c.word_at.result),
      field_more _ _ A.k A.words.now _ i _ _ _ c.word_at.ensures v.2 g,
    )

pub add-requires : goal.add-requires
add-requires c = let v = c.loop-i.invariant in omega arith

pub returns : goal.returns
returns c =
    let A = c.args in
    let v = c.loop-i.invariant in
    let i : c.loop-i.i ≡ item_width = omega arith in
    let g = c.add_number-at.ensures in
    let f = over g (line_whole _ _ A.k A.words.now _ _ _ (rw i at v.2) c.add.ensures) (omega (arith, c.add.ensures.end)) in
    let l : c.add.result ≤ length c.add.new.out = omega (arith, c.add.ensures.end, c.add.auto.out) in
    record {
      prefix_len = (l, sym (length-take-le _ _ l));
      out_after = f.is;
    }
