-- An aperture more that is no block, as AD leaves it, changes nothing that the store shows.
-- Assumes nothing.
use Prim.Native.Nat.{ℕ, suc, ◌<◌}
use mathlib.Core.Path.{◌≡◌, refl}
use mathlib.Core.Bool.{false}
use mathlib.Core.List.{List}
use native.Mathlib.Omega.{arith}
use Rattle.place.specs.Mark.{Sheet}
use Rattle.sheet.specs.Records.{aperture_of}
use Rattle.sheet.specs.Valid.{is_block}
use Rattle.law_open_store.proofs.Steps.{built_same}
use Rattle.law_open_store.proofs.Push.{lengths_added}
use Rattle.build.specs.declared.Builder.{Builder}
use Rattle.law_built_store.specs.Shown.{Holds}

module _ (s : Sheet) (e a : List ℕ) (room n : ℕ) (b : Builder) (holds : Holds s e a room n b) (a' : List ℕ)
    (same : (c : ℕ) → c < n → aperture_of a c ≡ aperture_of a' c) (none : is_block a' n ≡ false)
    (distinct : (c d : ℕ) → c < suc n → d < suc n → (aperture_of a' c).number ≡ (aperture_of a' d).number → c ≡ d) where
  pub aperture_more : Holds s e a' room (suc n) b
  aperture_more = built_same s e a room n b.closed b.high b.start b.height b.items holds (suc n) e a'
      (record { same_closed = λ i l. refl; same_stack = λ p l. refl; same_blocks = λ c l q. same c l; same_open = same })
      holds.as_long (omega arith) (λ c l m. let z : c ≡ n = omega arith in rw z none) distinct (lengths_added a a' n same none)
