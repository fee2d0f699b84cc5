-- The laws of a table: its first row decides where its test holds, the rows after it where it fails.
-- Assumes nothing.
use mathlib.Core.Path.{◌≡◌}
use mathlib.Core.Bool.{Bool, true, false}
use Rattle.base.specs.Choose.{pick}

module _ {A : Type 0} {test : Bool} {r : A} where
  pub row_holds : {a : A} (b : A) → test ≡ true → r ≡ a → r ≡ pick test a b
  unfolding pick
  row_holds b t e = rw t e

  pub row_fails : {b : A} (a : A) → test ≡ false → r ≡ b → r ≡ pick test a b
  unfolding pick
  row_fails a t e = rw t e
