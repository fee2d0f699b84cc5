-- The first two fields of a value, by the place of a comma.
-- Assumes nothing.
use Prim.Native.Nat.{ℕ, zero, suc, ◌+◌}
use Prim.Native.Char.{code}
use mathlib.Core.Path.{◌≡◌, refl, sym, ap, ◌∙◌}
use mathlib.Core.Bool.{Bool, true, false}
use mathlib.Core.List.{List, [], ◌∷◌}
use native.Mathlib.Omega.{arith}
use lib.Dec.{eqb}
use lib.ListN.{length, take, drop, get_or}
use lib.Seq.{slice}
use Rattle.text.specs.First.{first_in, place, before_byte, after_byte}
use Rattle.text.specs.Pieces.{parted, pieces}
use Rattle.text.proofs.Pieces.{pieces_next}
use Rattle.law_components.specs.Values.{Value, held, bytes_of, field}

-- a byte more before a text puts its marks one further
first_further : (test : ℕ → Bool) (s : List ℕ) (at : ℕ) → first_in test s (at + 1) ≡ suc (first_in test s at)
unfolding first_in
first_further test [] at = omega arith
first_further test (b ∷ s) at = go (test b) (first_further test s (at + 1))
  where
    go : (t : Bool) → first_in test s (at + 1 + 1) ≡ suc (first_in test s (at + 1)) →
        elim t as (λ _. ℕ) [ true ↦ at + 1 | false ↦ first_in test s (at + 1 + 1) ] ≡ suc (elim t as (λ _. ℕ) [ true ↦ at | false ↦ first_in test s (at + 1) ])
    go true ih = omega arith
    go false ih = ih

module _ (m : ℕ) (s : List ℕ) where
  parted_first : parted m s ≡ before_byte m s ∷ pieces m (drop (place m s 0) s)
  unfolding pieces before_byte
  parted_first =
      pieces_next m (m ∷ s) 0 (omega arith)
      ∙ ap (λ n. slice 1 n (m ∷ s) ∷ pieces m (drop n (m ∷ s))) (first_further (λ b. eqb b m) s 0)

  after_pieces : (t : List ℕ) → get_or (pieces m t) 0 [] ≡ get_or (parted m (drop 1 t)) 0 []
  unfolding pieces parted
  after_pieces [] = refl
  after_pieces (b ∷ t) = refl

pub field_first : (s : List ℕ) → field 0 (held s) ≡ before_byte (code ",") s
unfolding field bytes_of
field_first s = ap (λ l. get_or l 0 []) (parted_first (code ",") s)

pub field_second : (s : List ℕ) → field 1 (held s) ≡ before_byte (code ",") (after_byte (code ",") s)
unfolding field bytes_of after_byte
field_second s =
    ap (λ l. get_or l 1 []) (parted_first (code ",") s)
    ∙ after_pieces (code ",") s (drop (place (code ",") s 0) s)
    ∙ ap (λ l. get_or l 0 []) (parted_first (code ",") (after_byte (code ",") s))
