-- The first row that holds, of a table whose numbers rise, is the lowest rule broken.
-- Assumes nothing.
use Prim.Native.Nat.{ℕ, suc, ◌≤◌, ◌<◌}
use mathlib.Core.Path.{◌≡◌, refl, sym, ap, ◌∙◌, subst}
use mathlib.Core.Bool.{Bool, true, false, cond}
use mathlib.Core.List.{List, [], ◌∷◌}
use mathlib.Core.Logic.{◌⊎◌, inl, inr, ⊎_elim}
use native.Mathlib.Omega.{arith}
use lib.Dec.{leb, eqb}
use lib.ListN.{length}
use borrow.Author.Tests.{leb-true, eqb-true}
use Rattle.base.specs.And.{◌and◌}
use Rattle.base.proofs.And.{and_l, and_r}
use Rattle.base.specs.Choose.{pick}
use Rattle.base.specs.Faults.{first_fault}
use Rattle.operation_rules.specs.Order.{order, rank_in, rank, rises_from, rises}
use Rattle.law_kept.specs.Order.{Broken, here, further, Lowest}

abbrev Rows : Type 0
Rows = List (Bool × ℕ)

-- the first row, or one after it
pub broken_cases : {n : ℕ} {row : Bool × ℕ} {rows : Rows} → Broken n (row ∷ rows) → ((row.0 ≡ true) × (row.1 ≡ n)) ⊎ Broken n rows
broken_cases (here e q) = inl (e, q)
broken_cases (further b) = inr b

broken_none : {n : ℕ} → Broken n [] → ⊥
broken_none b = elim b [ ]

module _ (k : ℕ) (row : Bool × ℕ) (rows : Rows) (h : rises_from k (row ∷ rows) ≡ true) where
  head_rises : k ≤ rank row.1
  unfolding rises_from
  head_rises = leb-true k (rank row.1) (and_l (leb k (rank row.1)) (rises_from (suc (rank row.1)) rows) h)

  rest_rises : rises_from (suc (rank row.1)) rows ≡ true
  unfolding rises_from
  rest_rises = and_r (leb k (rank row.1)) (rises_from (suc (rank row.1)) rows) h

-- a table that rises from k on ends in the order
rises_to : (rows : Rows) (k : ℕ) → rises_from k rows ≡ true → k ≤ length order
unfolding rises_from
rises_to [] k h = leb-true k (length order) h
rises_to (row ∷ rows) k h =
    let l = rises_to rows (suc (rank row.1)) (rest_rises k row rows h) in
    let m = head_rises k row rows h in
    omega arith

-- and every rule of it that is broken stands there
broken_from : {n : ℕ} (rows : Rows) (k : ℕ) → rises_from k rows ≡ true → Broken n rows → k ≤ rank n
broken_from [] k h b = absurd (broken_none b)
broken_from {n = n} (row ∷ rows) k h b =
    let m = head_rises k row rows h in
    ⊎_elim (λ e. subst (λ (x : ℕ). k ≤ rank x) e.1 m)
    (λ c. let l = broken_from rows (suc (rank row.1)) (rest_rises k row rows h) c in omega arith)
    (broken_cases b)

broken_to : {n : ℕ} (rows : Rows) (k : ℕ) → rises_from k rows ≡ true → Broken n rows → rank n < length order
broken_to [] k h b = absurd (broken_none b)
broken_to {n = n} (row ∷ rows) k h b =
    let r = rest_rises k row rows h in
    ⊎_elim (λ e. subst (λ (x : ℕ). rank x < length order) e.1 (rises_to rows (suc (rank row.1)) r)) (λ c. broken_to rows (suc (rank row.1)) r c)
    (broken_cases b)

-- 0 is no rule's number
ranked_some : (n : ℕ) → rank n < length order → n ≡ 0 → ⊥
unfolding order rank_in
ranked_some n l e = let m : rank 0 < length order = subst (λ (x : ℕ). rank x < length order) e l in omega arith

lowest_from : (rows : Rows) (k : ℕ) → rises_from k rows ≡ true → Lowest rows (first_fault rows)
unfolding pick
lowest_from [] k h = record { one = λ l. absurd (omega arith); none = λ e other b. broken_none b; least = λ other b. absurd (broken_none b) }
lowest_from (row ∷ rows) k h = go (lowest_from rows (suc (rank row.1)) (rest_rises k row rows h)) row.0 refl
  where
    rest : rises_from (suc (rank row.1)) rows ≡ true
    rest = rest_rises k row rows h

    go : Lowest rows (first_fault rows) → (t : Bool) → row.0 ≡ t → Lowest (row ∷ rows) (pick t row.1 (first_fault rows))
    go ih true e = record {
      one = λ l. here e refl;
      none = λ z other b. ranked_some row.1 (rises_to rows (suc (rank row.1)) rest) z;
      least = λ other b.
          ⊎_elim (λ c. subst (λ (x : ℕ). rank row.1 ≤ rank x) c.1 (omega arith))
          (λ c. let l = broken_from rows (suc (rank row.1)) rest c in omega arith)
          (broken_cases b);
    }
    go ih false e = record {
      one = λ l. further (ih.one l);
      none = λ z other b. ⊎_elim (λ c. absurd (let z : ◌≡◌ {A = ℕ} 0 1 = cc in omega arith)) (λ c. ih.none z other c) (broken_cases b);
      least = λ other b. ⊎_elim (λ c. absurd (let z : ◌≡◌ {A = ℕ} 0 1 = cc in omega arith)) (λ c. ih.least other c) (broken_cases b);
    }

first_fault_least : (rows : Rows) → rises rows ≡ true → Lowest rows (first_fault rows)
first_fault_least rows h = lowest_from rows 0 h

-- a rank says which number it is
rank_is : (ms : List ℕ) (m n : ℕ) → rank_in ms m ≡ rank_in ms n → rank_in ms m < length ms → m ≡ n
unfolding rank_in
rank_is [] m n e l = absurd (omega arith)
rank_is (a ∷ ms) m n e l = go (rank_is ms m n) (eqb m a) refl (eqb n a) refl e l
  where
    go : (rank_in ms m ≡ rank_in ms n → rank_in ms m < length ms → m ≡ n) → (t : Bool) → eqb m a ≡ t → (u : Bool) → eqb n a ≡ u →
        cond t 0 (suc (rank_in ms m)) ≡ cond u 0 (suc (rank_in ms n)) → cond t 0 (suc (rank_in ms m)) < length (a ∷ ms) → m ≡ n
    go ih true p true q e l = eqb-true m a p ∙ sym (eqb-true n a q)
    go ih true p false q e l = absurd (omega arith)
    go ih false p true q e l = absurd (omega arith)
    go ih false p false q e l = ih (omega arith) (omega arith)

-- so two numbers of the order with the same rank are one
pub rank_one : (m n : ℕ) → rank m ≤ rank n → rank n ≤ rank m → rank m < length order → m ≡ n
rank_one m n a b l = rank_is order m n (omega arith) l

-- of a table this is the lowest rule broken, and all its rules are in the order
pub record Ruled (rows : Rows) (number : ℕ) : Type 0 where
  pub lowest : Lowest rows number
  pub known : {n : ℕ} → Broken n rows → rank n < length order

-- so it is of the first row that holds, where the numbers rise
pub rising : (rows : Rows) → rises rows ≡ true → Ruled rows (first_fault rows)
rising rows h = record { lowest = first_fault_least rows h; known = λ b. broken_to rows 0 h b }
