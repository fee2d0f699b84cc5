-- What is lent to an AD.
use Rattle.std.specs.Prelude.{ℕ, ◌≡◌, List, ℤ}
use Rattle.progress.specs.Lent.{Lent}

pub record Lends (file a m : List ℕ) (numbers : List ℤ) (w : Lent) : Type 0 where
  pub file_is : w.file ≡ file
  pub apertures_are : w.apertures ≡ a
  pub macros_are : w.macros ≡ m
  pub numbers_are : w.numbers ≡ numbers
