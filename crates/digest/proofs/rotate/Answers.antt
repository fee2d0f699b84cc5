-- `digest::rotate` meets its contract: the two shifted words have no bit in common (`or_adds`).
use Rattle.std.proofs.Common.{◌≡◌, ◌+◌, ◌-◌, ◌%◌, ◌∙◌, arith}
use Rattle.digest.specs.Word.{rotated}
use Rattle.digest.proofs.Rotation.{or_adds}
use Rattle.digest.proofs.rotate.Goals as goal

pub returns : goal.returns
unfolding rotated
returns c =
    let s = c.args.s in
    let up : s % 32 ≡ s = omega arith in
    let down : (32 - s) % 32 ≡ 32 - s = omega arith in
    let e : 32 - s + s ≡ 32 = omega arith in
    let f : s + (32 - s) ≡ 32 = omega arith in
    (rw (up, down) at c.rotate_left.ensures) ∙ (rw e at (or_adds (32 - s) s c.args.x (rw f c.ranges.x.fits)))
