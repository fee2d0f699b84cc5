-- `place::step_to` meets its contract: the two distances are small enough to be signed.
use Rattle.place.specs.Copies.{step}
use Rattle.points.specs.Points.{pt}
use Rattle.ints.specs.Ints.{signed}
use Rattle.ints.proofs.Bounded.{back_of}
use lib.IntN.{pos}
use native.Mathlib.Omega.{arith}
use mathlib.Core.Bool.{false}
use Prim.Native.Nat.{◌*◌}
use Rattle.place.proofs.step_to.Goals as goal

pub returns : goal.returns
unfolding step signed
returns c = let A = c.args in
    λ k. record {
      flip = false;
      angle = 0;
      clear = false;
      at = pt (back_of c.with_sign.result (pos (A.i * A.s.dx)) c.with_sign.ensures.0 (omega arith) k)
          (back_of c.with_sign-2.result (pos (A.j * A.s.dy)) c.with_sign-2.ensures.0 (omega arith) k);
    }
