-- Numbers written one after the other, as far as there is room.
use Rattle.std.specs.Prelude.{ℕ, ◌+◌, true, cond, List, [], ◌∷◌, ltb, ℤ, length, set}
use Rattle.macros.specs.declared.Pen.{Pen}

-- after one number more; past the room nothing is written
unfoldable pub penned : ℕ → Pen → Pen
penned room p = cond (ltb p.at room) (record { at = p.at + 1; over = p.over }) (record { at = p.at; over = true })

unfoldable pub pens : ℕ → Pen → List ℤ → Pen
pens room p [] = p
pens room p (z ∷ zs) = pens room (penned room p) zs

unfoldable pub laid : List ℤ → Pen → List ℤ → List ℤ
laid l p [] = l
laid l p (z ∷ zs) = laid (set l p.at z) (penned (length l) p) zs
