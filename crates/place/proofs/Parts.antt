-- Parts written one after the other, and the items that they put out.
-- Assumes nothing.
use Prim.Native.Nat.{ℕ, zero, suc, ◌+◌, ◌<◌}
use mathlib.Core.Path.{◌≡◌, refl, sym, ap, ◌∙◌}
use mathlib.Core.List.{List, [], ◌∷◌, ◌++◌, map, append_assoc}
use native.Mathlib.Nat.{add-zero}
use native.Mathlib.Omega.{arith}
use Rattle.base.specs.Run.{run}
use Rattle.place.specs.Outer.{flashed_by}
use Rattle.place.specs.Copies.{copies}
use Rattle.place.specs.Parts.{Parts, none, item, flashed, repeated, ◌then◌, items_in, pieces}
use Rattle.place.specs.declared.Item.{Item}

-- items one after the other
unfoldable pub in_row : List Item → Parts
in_row [] = none
in_row (t ∷ ts) = item t (in_row ts)

pub then_none : (ps : Parts) → ps then none ≡ ps
unfolding ◌then◌
then_none none = refl
then_none (item t ps) = ap (item t) (then_none ps)
then_none (flashed place m b ps) = ap (flashed place m b) (then_none ps)
then_none (repeated r b ps) = ap (repeated r b) (then_none ps)

pub then_assoc : (ps qs rs : Parts) → (ps then qs) then rs ≡ ps then (qs then rs)
unfolding ◌then◌
then_assoc none qs rs = refl
then_assoc (item t ps) qs rs = ap (item t) (then_assoc ps qs rs)
then_assoc (flashed place m b ps) qs rs = ap (flashed place m b) (then_assoc ps qs rs)
then_assoc (repeated r b ps) qs rs = ap (repeated r b) (then_assoc ps qs rs)

-- one piece more
pub pieces_snoc : (f : ℕ → Parts) (p n : ℕ) → pieces f p (suc n) ≡ pieces f p n then f (p + n)
unfolding pieces ◌then◌
pieces_snoc f p zero = rw (add-zero p) (then_none (f p))
pieces_snoc f p (suc n) =
    let q : suc p + n ≡ p + suc n = omega arith in
    rw (← q) (ap (λ ps. f p then ps) (pieces_snoc f (suc p) n) ∙ sym (then_assoc (f p) (pieces f (suc p) n) (f (suc p + n))))

-- the same pieces, wherever they lie
pub pieces_cong : (f g : ℕ → Parts) (p q n : ℕ) → ((i : ℕ) → i < n → f (p + i) ≡ g (q + i)) → pieces f p n ≡ pieces g q n
unfolding pieces
pieces_cong f g p q zero h = refl
pieces_cong f g p q (suc n) h =
    let h0 : f p ≡ g q = simp add-zero at (h 0 (omega arith)) in
    let ih = pieces_cong f g (suc p) (suc q) n (λ i l. let a : p + suc i ≡ suc p + i = omega arith in let b : q + suc i ≡ suc q + i = omega arith in rw (a, b) at (h (suc i) (omega arith))) in
    cc

-- the items of parts one after the other
pub items_then : (ps qs : Parts) → items_in (ps then qs) ≡ items_in ps ++ items_in qs
unfolding items_in ◌then◌
items_then none qs = refl
items_then (item t ps) qs = ap (λ ts. t ∷ ts) (items_then ps qs)
items_then (flashed place m b ps) qs =
    let ts = map (flashed_by place m) (items_in b) in
    ap (λ us. ts ++ us) (items_then ps qs) ∙ sym (append_assoc ts (items_in ps) (items_in qs))
items_then (repeated r b ps) qs =
    let ts = copies r (items_in b) in
    ap (λ us. ts ++ us) (items_then ps qs) ∙ sym (append_assoc ts (items_in ps) (items_in qs))

pub items_pieces : (f : ℕ → Parts) (p n : ℕ) → items_in (pieces f p n) ≡ run (λ i. items_in (f i)) p n
unfolding items_in pieces run
items_pieces f p zero = refl
items_pieces f p (suc n) = items_then (f p) (pieces f (suc p) n) ∙ ap (λ us. items_in (f p) ++ us) (items_pieces f (suc p) n)
