-- Which aperture a number finds when a record is added, and when a block closes.
-- Assumes nothing.
use Prim.Native.Nat.{ℕ, suc}
use mathlib.Core.Path.{◌≡◌, refl, sym, ap, ◌∙◌, subst}
use mathlib.Core.Bool.{Bool, true, false, cond, false≢true}
use mathlib.Core.List.{List, [], ◌∷◌, ◌++◌}
use lib.Dec.{eqb}
use borrow.Author.Tests.{eq-eqb, ne_eqb, eqb-true, eqb-false}
use Rattle.base.specs.And.{◌and◌}
use Rattle.base.specs.Or.{◌or◌}
use Rattle.graphics.specs.Graphics.{no_aperture}
use Rattle.graphics.specs.declared.Selected.{Selected}
use Rattle.law_reading.specs.State.{Aperture}
use Rattle.law_reading.specs.Apertures.{block, is_taken, selected, aperture_from, block_of, closing}

-- no aperture is no block
none_block : no_aperture.block ≡ true → ⊥
unfolding no_aperture
none_block e = false≢true e

none_false : no_aperture.block ≡ false
unfolding no_aperture
none_false = refl

-- one that is found as a block has the number asked for
pub found_number : (i n : ℕ) (known : List Aperture) → (aperture_from i n known).block ≡ true → (aperture_from i n known).number ≡ n
unfolding aperture_from selected
found_number i n [] e = absurd (none_block e)
found_number i n (a ∷ known) e = go (found_number (suc i) n known) (eqb n a.number) refl e
  where
    go : ((aperture_from (suc i) n known).block ≡ true → (aperture_from (suc i) n known).number ≡ n) → (t : Bool) → eqb n a.number ≡ t →
        (cond t (selected i a) (aperture_from (suc i) n known)).block ≡ true → (cond t (selected i a) (aperture_from (suc i) n known)).number ≡ n
    go ih true q e = sym (eqb-true n a.number q)
    go ih false q e = ih e

-- a record after the others is found only where no other is
module _ (a : Aperture) where
  pub found_stays : (i n : ℕ) (known : List Aperture) → (aperture_from i n known).block ≡ true → aperture_from i n (known ++ a ∷ []) ≡ aperture_from i n known
  unfolding aperture_from
  found_stays i n [] e = absurd (none_block e)
  found_stays i n (b ∷ known) e = go (found_stays (suc i) n known) (eqb n b.number) e
    where
      go : ((aperture_from (suc i) n known).block ≡ true → aperture_from (suc i) n (known ++ a ∷ []) ≡ aperture_from (suc i) n known) → (t : Bool) →
          (cond t (selected i b) (aperture_from (suc i) n known)).block ≡ true →
          cond t (selected i b) (aperture_from (suc i) n (known ++ a ∷ [])) ≡ cond t (selected i b) (aperture_from (suc i) n known)
      go ih true e = refl
      go ih false e = ih e

  pub taken_stays : (n : ℕ) (known : List Aperture) → is_taken n known ≡ true → is_taken n (known ++ a ∷ []) ≡ true
  unfolding is_taken ◌or◌
  taken_stays n [] e = absurd (false≢true e)
  taken_stays n (b ∷ known) e = go (taken_stays n known) (eqb n b.number) e
    where
      go : (is_taken n known ≡ true → is_taken n (known ++ a ∷ []) ≡ true) → (t : Bool) → (t or is_taken n known) ≡ true → (t or is_taken n (known ++ a ∷ [])) ≡ true
      go ih true e = refl
      go ih false e = ih e

  pub taken_found : (i n : ℕ) (known : List Aperture) → is_taken n known ≡ true → aperture_from i n (known ++ a ∷ []) ≡ aperture_from i n known
  unfolding is_taken ◌or◌ aperture_from
  taken_found i n [] e = absurd (false≢true e)
  taken_found i n (b ∷ known) e = go (taken_found (suc i) n known) (eqb n b.number) e
    where
      go : (is_taken n known ≡ true → aperture_from (suc i) n (known ++ a ∷ []) ≡ aperture_from (suc i) n known) → (t : Bool) → (t or is_taken n known) ≡ true →
          cond t (selected i b) (aperture_from (suc i) n (known ++ a ∷ [])) ≡ cond t (selected i b) (aperture_from (suc i) n known)
      go ih true e = refl
      go ih false e = ih e

  -- one that is no block is found as none
  module _ (other : eqb a.kind block ≡ false) where
    pub added_found : (i n : ℕ) (known : List Aperture) → (aperture_from i n (known ++ a ∷ [])).block ≡ true → aperture_from i n (known ++ a ∷ []) ≡ aperture_from i n known
    unfolding aperture_from selected
    added_found i n [] e = absurd (go (eqb n a.number) e)
      where
        go : (t : Bool) → (cond t (selected i a) no_aperture).block ≡ true → ⊥
        go true e = false≢true (sym other ∙ e)
        go false e = none_block e
    added_found i n (b ∷ known) e = go (added_found (suc i) n known) (eqb n b.number) e
      where
        go : ((aperture_from (suc i) n (known ++ a ∷ [])).block ≡ true → aperture_from (suc i) n (known ++ a ∷ []) ≡ aperture_from (suc i) n known) → (t : Bool) →
            (cond t (selected i b) (aperture_from (suc i) n (known ++ a ∷ []))).block ≡ true →
            cond t (selected i b) (aperture_from (suc i) n (known ++ a ∷ [])) ≡ cond t (selected i b) (aperture_from (suc i) n known)
        go ih true e = refl
        go ih false e = ih e

    -- and its own number finds no block where it was not taken
    pub new_found : (i n : ℕ) (known : List Aperture) → is_taken n known ≡ false → (aperture_from i n (known ++ a ∷ [])).block ≡ false
    unfolding aperture_from selected is_taken ◌or◌
    new_found i n [] e = go (eqb n a.number)
      where
        go : (t : Bool) → (cond t (selected i a) no_aperture).block ≡ false
        go true = other
        go false = none_false
    new_found i n (b ∷ known) e = go (new_found (suc i) n known) (eqb n b.number) e
      where
        go : (is_taken n known ≡ false → (aperture_from (suc i) n (known ++ a ∷ [])).block ≡ false) → (t : Bool) → (t or is_taken n known) ≡ false →
            (cond t (selected i b) (aperture_from (suc i) n (known ++ a ∷ []))).block ≡ false
        go ih true e = absurd (false≢true (sym e))
        go ih false e = ih e

  pub new_taken : (known : List Aperture) → is_taken a.number (known ++ a ∷ []) ≡ true
  unfolding is_taken ◌or◌
  new_taken [] = rw (eq-eqb a.number a.number refl)
  new_taken (b ∷ known) = go (new_taken known) (eqb a.number b.number)
    where
      go : is_taken a.number (known ++ a ∷ []) ≡ true → (t : Bool) → (t or is_taken a.number (known ++ a ∷ [])) ≡ true
      go ih true = refl
      go ih false = ih

-- a block n that closes, with so many items and a height
module _ (n items height : ℕ) where
  pub closing_taken : (m : ℕ) (known : List Aperture) → is_taken m (closing n items height known) ≡ is_taken m known
  unfolding is_taken closing block_of
  closing_taken m [] = refl
  closing_taken m (a ∷ known) = go (closing_taken m known) (eqb n a.number) refl
    where
      go : is_taken m (closing n items height known) ≡ is_taken m known → (t : Bool) → eqb n a.number ≡ t →
          (eqb m (cond t (block_of n items height) a).number or is_taken m (closing n items height known)) ≡ (eqb m a.number or is_taken m known)
      go ih true q = λ i. eqb m (eqb-true n a.number q i) or ih i
      go ih false q = λ i. eqb m a.number or ih i

  pub closing_other : (i m : ℕ) (known : List Aperture) → (m ≡ n → ⊥) → aperture_from i m (closing n items height known) ≡ aperture_from i m known
  unfolding aperture_from closing block_of
  closing_other i m [] ne = refl
  closing_other i m (a ∷ known) ne = go (closing_other (suc i) m known ne) (eqb n a.number) refl
    where
      go : aperture_from (suc i) m (closing n items height known) ≡ aperture_from (suc i) m known → (t : Bool) → eqb n a.number ≡ t →
          cond (eqb m (cond t (block_of n items height) a).number) (selected i (cond t (block_of n items height) a)) (aperture_from (suc i) m (closing n items height known))
          ≡ cond (eqb m a.number) (selected i a) (aperture_from (suc i) m known)
      go ih true q =
          let apart : eqb m n ≡ false = ne_eqb m n ne in
          let same : eqb m a.number ≡ false = ap (eqb m) (sym (eqb-true n a.number q)) ∙ apart in
          rw (apart, same) ih
      go ih false q = ap (cond (eqb m a.number) (selected i a)) ih

  pub closing_same : (i : ℕ) (known : List Aperture) → (aperture_from i n (closing n items height known)).block ≡ true → (aperture_from i n (closing n items height known)).items ≡ items
  unfolding aperture_from closing block_of selected
  closing_same i [] e = absurd (none_block e)
  closing_same i (a ∷ known) e = go (closing_same (suc i) known) (eqb n a.number) refl e
    where
      go : ((aperture_from (suc i) n (closing n items height known)).block ≡ true → (aperture_from (suc i) n (closing n items height known)).items ≡ items) →
          (t : Bool) → eqb n a.number ≡ t →
          (cond (eqb n (cond t (block_of n items height) a).number) (selected i (cond t (block_of n items height) a)) (aperture_from (suc i) n (closing n items height known))).block ≡ true →
          (cond (eqb n (cond t (block_of n items height) a).number) (selected i (cond t (block_of n items height) a)) (aperture_from (suc i) n (closing n items height known))).items ≡ items
      go ih true q e = rw (eq-eqb n n refl)
      go ih false q e = rw q (ih (rw q at e))
