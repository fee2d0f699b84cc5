use mathlib.Core.Path.{refl}
use native.Mathlib.Omega.{arith}
use lib.ListN.{length-set}
use Rattle.hexadecimal.specs.Hex.{hex_of}
use Rattle.hexadecimal.proofs.Digits.{digits_more}
use Rattle.hexadecimal.proofs.hex.Goals as goal

pub loop-i-init : goal.loop-i-init
unfolding hex_of
loop-i-init c = record { long = refl; so_far = refl }

pub loop-i-preserved : goal.loop-i-preserved
loop-i-preserved c =
    let l = c.loop-i in
    record {
      long = simp length-set l.invariant.long;
      so_far = rw (c.digit_of.ensures, c.digit_of-in-loop-i.ensures) (digits_more c.args.d l.h l.i (omega arith) (omega arith) l.invariant.so_far);
    }
