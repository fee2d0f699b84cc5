-- `address::copy_in` meets its contract: a quotient is no more than what is divided.
use native.Mathlib.Nat.{div-le_self}
use native.Mathlib.Omega.{arith}
use Rattle.address.proofs.copy_in.Goals as goal

pub overflow_add-copy : goal.overflow_add-copy
overflow_add-copy c = let A = c.args in omega (arith, div-le_self A.j A.r.count)
