-- The laws of tables: what holds of each answer, where its test says what it says, holds of the answer that is picked.
-- Assumes nothing.
use Prim.Native.Nat.{ℕ, ◌≤◌}
use mathlib.Core.Path.{◌≡◌, refl, sym, ap}
use mathlib.Core.Bool.{Bool, true, false, false≢true}
use mathlib.Core.List.{List}
use native.Mathlib.Omega.{arith}
use lib.ListN.{length, take, length-take}
use Rattle.base.specs.Bytes.{same_bytes}
use Rattle.base.specs.Or.{◌or◌}
use Rattle.base.proofs.Lists.{same_is}
use Rattle.base.specs.Choose.{pick}
use Rattle.command.specs.Numbers.{judged}
use Rattle.command.specs.Flaws.{not_form, too_long}
use Rattle.command.specs.declared.Command.{Command}

module _ {A : Type 0} (Keeps : A → Type 0) where
  pub picks : {test : Bool} {a b : A} → (test ≡ true → Keeps a) → Keeps b → Keeps (pick test a b)
  unfolding pick
  picks {test = true} held other = held refl
  picks {test = false} held other = other

module _ (Keeps : Command → Type 0) where
  pub judges : {formless long : Bool} {c : Command} → Keeps not_form → Keeps too_long → (formless ≡ false → long ≡ false → Keeps c) → Keeps (judged formless long c)
  unfolding judged pick
  judges {formless = true} four five keeps = four
  judges {formless = false} {long = true} four five keeps = five
  judges {formless = false} {long = false} four five keeps = keeps refl refl

-- a text that begins with these bytes has as many
pub begins_long : (s w : List ℕ) → same_bytes (take (length w) s) w ≡ true → length w ≤ length s
begins_long s w e = omega (arith, ap length (same_is (take (length w) s) w e), length-take (length w) s)

-- where one of two tests at least would be told, neither holds
pub neither : (a b : Bool) → (a or b) ≡ false → (a ≡ false) × (b ≡ false)
unfolding ◌or◌
neither true b e = absurd (false≢true (sym e))
neither false b e = (refl, e)
