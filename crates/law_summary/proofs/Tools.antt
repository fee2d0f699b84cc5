-- How many apertures have a number: of more apertures, of those that a block's end leaves, and of the one that Dn selects.
-- Assumes nothing.
use Prim.Native.Nat.{ℕ, zero, suc, ◌+◌, ◌≤◌}
use mathlib.Core.Path.{◌≡◌, refl, sym, ap, ◌∙◌}
use mathlib.Core.Bool.{Bool, true, false, cond, not, false≢true}
use mathlib.Core.List.{List, [], ◌∷◌, ◌++◌}
use native.Mathlib.Omega.{arith}
use lib.Dec.{eqb}
use borrow.Author.Tests.{eqb-true, not-true}
use Rattle.base.specs.And.{◌and◌}
use Rattle.base.specs.Or.{◌or◌}
use Rattle.base.proofs.And.{and_l, false_and, and_false}
use Rattle.law_bounds.proofs.Tables.{neither}
use Rattle.graphics.specs.Graphics.{no_aperture}
use Rattle.graphics.specs.declared.Selected.{Selected}
use Rattle.law_reading.specs.State.{Aperture}
use Rattle.law_reading.specs.Apertures.{open_block, block, is_taken, selected, aperture_from, block_of, closing}
use Rattle.law_summary.specs.Tools.{how_many, of_block, numbered, tools, blocks}

pub many_append : (is : Aperture → Bool) (l m : List Aperture) → how_many is (l ++ m) ≡ how_many is l + how_many is m
unfolding how_many
many_append is [] m = omega arith
many_append is (a ∷ l) m = let ih = many_append is l m in omega arith

pub many_one : (is : Aperture → Bool) (a : Aperture) → how_many is (a ∷ []) ≡ cond (is a) 1 0
unfolding how_many
many_one is a = omega arith

-- an aperture is a block or is none
one_split : (t b : Bool) → cond (t and not b) 1 0 + cond (t and b) 1 0 ≡ cond t 1 0
unfolding ◌and◌
one_split true true = refl
one_split true false = refl
one_split false b = refl

pub tools_blocks : (n : ℕ) (known : List Aperture) → tools n known + blocks n known ≡ numbered n known
unfolding how_many
tools_blocks n [] = refl
tools_blocks n (a ∷ known) = let ih = tools_blocks n known in let one = one_split (eqb n a.number) (of_block a) in omega arith

pub not_taken : (n : ℕ) (known : List Aperture) → is_taken n known ≡ false → numbered n known ≡ 0
unfolding is_taken how_many
not_taken n [] e = refl
not_taken n (a ∷ known) e = let both = neither _ _ e in let ih = not_taken n known both.1 in rw both.0 (omega arith)

-- ---- one aperture more, of a new number

module _ (known : List Aperture) (a : Aperture) (fresh : numbered a.number known ≡ 0) where
  pub added_distinct : ((n : ℕ) → numbered n known ≤ 1) → (n : ℕ) → numbered n (known ++ (a ∷ [])) ≤ 1
  added_distinct h n = go (eqb n a.number) refl
    where
      all : numbered n (known ++ (a ∷ [])) ≡ numbered n known + cond (eqb n a.number) 1 0
      all = many_append _ known (a ∷ []) ∙ ap (λ (k : ℕ). numbered n known + k) (many_one (λ a. eqb n a.number) a)

      go : (t : Bool) → eqb n a.number ≡ t → numbered n (known ++ (a ∷ [])) ≤ 1
      go true e = let z : numbered n known ≡ 0 = rw (eqb-true n a.number e) fresh in let w = rw e at all in omega arith
      go false e = let w = rw e at all in let z = h n in omega arith

  module _ (n : ℕ) (some : 1 ≤ numbered n known) where
    other : eqb n a.number ≡ false
    other = go (eqb n a.number) refl
      where
        go : (t : Bool) → eqb n a.number ≡ t → t ≡ false
        go true e = let z : numbered n known ≡ 0 = rw (eqb-true n a.number e) fresh in absurd (omega arith)
        go false e = refl

    pub added_numbered : numbered n (known ++ (a ∷ [])) ≡ numbered n known
    added_numbered =
        let all = many_append (λ a. eqb n a.number) known (a ∷ []) ∙ ap (λ (k : ℕ). numbered n known + k) (many_one (λ a. eqb n a.number) a) in
        let w = rw other at all in
        omega arith

    pub added_tools : tools n (known ++ (a ∷ [])) ≡ tools n known
    added_tools =
        let all = many_append (λ a. eqb n a.number and not (of_block a)) known (a ∷ []) ∙ ap (λ (k : ℕ). tools n known + k) (many_one (λ a. eqb n a.number and not (of_block a)) a) in
        let w = rw (other, false_and (not (of_block a))) at all in
        omega arith

-- ---- a block that closes: its aperture keeps its number, and stays a block

still_block : (n : ℕ) (a : Aperture) (rest : ℕ) → eqb n a.number ≡ true → cond (eqb n a.number and not (of_block a)) 1 0 + rest ≡ 0 → of_block a ≡ true
unfolding ◌and◌
still_block n a rest e z = go (of_block a) refl
  where
    go : (t : Bool) → of_block a ≡ t → t ≡ true
    go true q = refl
    go false q = absurd (let w = rw (e, q) at z in omega arith)

block_of_lem : (n items height : ℕ) → of_block (block_of n items height) ≡ true
unfolding of_block block_of ◌or◌
block_of_lem n items height = refl

module _ (n items height : ℕ) where
  pub closed_numbered : (m : ℕ) (known : List Aperture) → numbered m (closing n items height known) ≡ numbered m known
  unfolding how_many closing block_of
  closed_numbered m [] = refl
  closed_numbered m (a ∷ known) = go (closed_numbered m known) (eqb n a.number) refl
    where
      go : numbered m (closing n items height known) ≡ numbered m known → (t : Bool) → eqb n a.number ≡ t → cond (eqb m (cond t (block_of n items height) a).number) 1 0 + numbered m (closing n items height known) ≡ cond (eqb m a.number) 1 0 + numbered m known
      go ih true e = λ i. cond (eqb m (eqb-true n a.number e i)) 1 0 + ih i
      go ih false e = rw ih

  pub closed_tools : (m : ℕ) (known : List Aperture) → tools n known ≡ 0 → tools m (closing n items height known) ≡ tools m known
  unfolding how_many closing
  closed_tools m [] z = refl
  closed_tools m (a ∷ known) z = go (closed_tools m known (omega arith)) (eqb n a.number) refl
    where
      go : tools m (closing n items height known) ≡ tools m known → (t : Bool) → eqb n a.number ≡ t → cond (eqb m (cond t (block_of n items height) a).number and not (of_block (cond t (block_of n items height) a))) 1 0 + tools m (closing n items height known)
          ≡ cond (eqb m a.number and not (of_block a)) 1 0 + tools m known
      go ih true e =
          let b = still_block n a (tools n known) e z in
          rw (block_of_lem n items height, and_false (eqb m (block_of n items height).number), b, and_false (eqb m a.number), ih)
      go ih false e = rw ih

-- ---- the aperture that Dn selects

pub selects : (i n : ℕ) (known : List Aperture) → (aperture_from i n known).set ≡ true → (aperture_from i n known).block ≡ false →
    ((aperture_from i n known).number ≡ n) × (1 ≤ tools n known)
unfolding aperture_from how_many no_aperture selected of_block ◌or◌ ◌and◌
selects i n [] s b = absurd (false≢true s)
selects i n (a ∷ known) s b = go (eqb n a.number) refl s b (λ s b. selects (suc i) n known s b)
  where
    go : (t : Bool) → eqb n a.number ≡ t → (cond t (selected i a) (aperture_from (suc i) n known)).set ≡ true → (cond t (selected i a) (aperture_from (suc i) n known)).block ≡ false →
        ((aperture_from (suc i) n known).set ≡ true → (aperture_from (suc i) n known).block ≡ false → ((aperture_from (suc i) n known).number ≡ n) × (1 ≤ tools n known)) →
        ((cond t (selected i a) (aperture_from (suc i) n known)).number ≡ n) × (1 ≤ cond (t and not (of_block a)) 1 0 + tools n known)
    go true e s b ih =
        let o : eqb a.kind 0 ≡ false = not-true _ s in
        let c : eqb a.kind 6 ≡ false = b in
        let one : ◌≡◌ {A = ℕ} (cond (not (eqb a.kind 0 or eqb a.kind 6)) 1 0) 1 = rw (o, c) in
        (sym (eqb-true n a.number e), omega arith)
    go false e s b ih = let w = ih s b in (w.0, let h = w.1 in omega arith)

-- a solid circle or rectangle is no block
solid_kind : (k n : ℕ) → ((eqb k 1 and eqb n 1) or (eqb k 2 and eqb n 2)) ≡ true → eqb k block ≡ false
unfolding ◌or◌
solid_kind k n s = go (eqb k 1 and eqb n 1) refl s
  where
    go : (t : Bool) → (eqb k 1 and eqb n 1) ≡ t → (t or (eqb k 2 and eqb n 2)) ≡ true → eqb k block ≡ false
    go true e s = rw (eqb-true k 1 (and_l _ _ e))
    go false e s = rw (eqb-true k 2 (and_l _ _ s))

pub selects_solid : (i n : ℕ) (known : List Aperture) → ((aperture_from i n known).circle or (aperture_from i n known).rectangle) ≡ true →
    (aperture_from i n known).block ≡ false
unfolding aperture_from no_aperture selected
selects_solid i n [] s = refl
selects_solid i n (a ∷ known) s = go (eqb n a.number) s (selects_solid (suc i) n known)
  where
    go : (t : Bool) → ((cond t (selected i a) (aperture_from (suc i) n known)).circle or (cond t (selected i a) (aperture_from (suc i) n known)).rectangle) ≡ true →
        (((aperture_from (suc i) n known).circle or (aperture_from (suc i) n known).rectangle) ≡ true → (aperture_from (suc i) n known).block ≡ false) →
        (cond t (selected i a) (aperture_from (suc i) n known)).block ≡ false
    go true s ih = solid_kind a.kind a.len s
    go false s ih = ih s
