-- Of two tables one after the other the lowest rule broken is the sooner of the lowest of each: the order in which faults are tested is
-- that of the numbers of a command's rules, computed for each two of them.
-- Assumes nothing.
use Prim.Native.Nat.{ℕ, suc, ◌≤◌, ◌<◌}
use mathlib.Core.Path.{◌≡◌, refl, sym, ap, ◌∙◌, subst}
use mathlib.Core.Bool.{Bool, true, false, cond, false≢true}
use mathlib.Core.List.{List, [], ◌∷◌, ◌++◌}
use mathlib.Core.Logic.{◌⊎◌, inl, inr, ⊎_elim}
use native.Mathlib.Omega.{arith}
use lib.Dec.{eqb, leb, ltb}
use lib.ListN.{length}
use borrow.Author.Tests.{eqb-true, leb-true}
use Rattle.base.specs.And.{◌and◌}
use Rattle.base.specs.Or.{◌or◌}
use Rattle.base.specs.Choose.{pick}
use Rattle.base.specs.Faults.{Table}
use Rattle.base.proofs.And.{and_l, and_r}
use Rattle.faults.specs.Order.{rank_of, tested_before, sooner}
use Rattle.faults.proofs.Laws.{Sooner, sooner_first}
use Rattle.operation_rules.specs.Order.{order, rank_in, rank}
use Rattle.law_kept.specs.Order.{Broken, here, further, Lowest}
use Rattle.law_kept.proofs.Order.{broken_cases, Ruled}

-- what is broken of two tables is broken of one of them
broken_left : {n : ℕ} {rows : Table} (more : Table) → Broken n rows → Broken n (rows ++ more)
broken_left more (here e q) = here e q
broken_left more (further b) = further (broken_left more b)

broken_right : {n : ℕ} (rows : Table) {more : Table} → Broken n more → Broken n (rows ++ more)
broken_right [] b = b
broken_right (row ∷ rows) b = further (broken_right rows b)

broken_either : {n : ℕ} (rows : Table) {more : Table} → Broken n (rows ++ more) → Broken n rows ⊎ Broken n more
broken_either [] b = inr b
broken_either (row ∷ rows) b =
    ⊎_elim (λ c. inl (here c.0 c.1)) (λ c. ⊎_elim (λ d. inl (further d)) (λ d. inr d) (broken_either rows c)) (broken_cases b)

-- a test holds of each of these numbers
abbrev all_of : (ℕ → Bool) → List ℕ → Bool
all_of test [] = true
all_of test (n ∷ ns) = test n and all_of test ns

all_at : (test : ℕ → Bool) (ns : List ℕ) (n : ℕ) → rank_in ns n < length ns → all_of test ns ≡ true → test n ≡ true
unfolding rank_in
all_at test [] n l h = absurd (omega arith)
all_at test (m ∷ ms) n l h = go (λ l. all_at test ms n l (and_r (test m) (all_of test ms) h)) (eqb n m) refl l
  where
    go : (rank_in ms n < length ms → test n ≡ true) → (t : Bool) → eqb n m ≡ t → cond t 0 (suc (rank_in ms n)) < length (m ∷ ms) → test n ≡ true
    go ih true e l = ap test (eqb-true n m e) ∙ and_l (test m) (all_of test ms) h
    go ih false e l = ih (omega arith)

-- one is tested before the other, or its rank is no lower
abbrev agrees : ℕ → ℕ → Bool
agrees a b = tested_before a b or leb (rank b) (rank a)

all_agree : all_of (λ a. all_of (agrees a) order) order ≡ true
unfolding order rank_in tested_before rank_of pick ◌and◌ ◌or◌
all_agree = refl

untested_above : (a b : ℕ) → rank a < length order → rank b < length order → tested_before a b ≡ false → rank b ≤ rank a
unfolding ◌or◌
untested_above a b l k e =
    let h : agrees a b ≡ true = all_at (agrees a) order b k (all_at (λ a. all_of (agrees a) order) order a l all_agree) in
    leb-true (rank b) (rank a) (rw e at h)

positive : {n : ℕ} → (n ≡ 0 → ⊥) → 1 ≤ n
positive h = omega arith

-- the fault of two tables
module _ {rows more : Table} {a b : ℕ} (first : Ruled rows a) (second : Ruled more b) where
  both_known : {n : ℕ} → Broken n (rows ++ more) → rank n < length order
  both_known c = ⊎_elim (λ d. first.known d) (λ d. second.known d) (broken_either rows c)

  sooner_broken : 1 ≤ sooner a b → Broken (sooner a b) (rows ++ more)
  sooner_broken l =
      ⊎_elim (λ e. subst (λ (n : ℕ). Broken n (rows ++ more)) (sym e) (broken_left more (first.lowest.one (omega arith))))
      (λ e. subst (λ (n : ℕ). Broken n (rows ++ more)) (sym e) (broken_right rows (second.lowest.one (omega arith))))
      (sooner_first a b).one

  -- it is no higher than the fault of the first, where there is one, and of the second
  below_first : (a ≡ 0 → ⊥) → rank (sooner a b) ≤ rank a
  below_first is =
      let there = sooner_broken (positive (λ z. is ((sooner_first a b).none z).0)) in
      untested_above a (sooner a b) (first.known (first.lowest.one (positive is))) (both_known there) ((sooner_first a b).first is)

  below_second : (b ≡ 0 → ⊥) → rank (sooner a b) ≤ rank b
  below_second is =
      let there = sooner_broken (positive (λ z. is ((sooner_first a b).none z).1)) in
      untested_above b (sooner a b) (second.known (second.lowest.one (positive is))) (both_known there) ((sooner_first a b).other is)

  sooner_least : (other : ℕ) → Broken other (rows ++ more) → rank (sooner a b) ≤ rank other
  sooner_least other c =
      ⊎_elim (λ d. let l = below_first (λ e. first.lowest.none e other d) in let m = first.lowest.least other d in omega arith)
      (λ d. let l = below_second (λ e. second.lowest.none e other d) in let m = second.lowest.least other d in omega arith)
      (broken_either rows c)

  pub sooner_ruled : Ruled (rows ++ more) (sooner a b)
  sooner_ruled = record {
    lowest = record {
      one = sooner_broken;
      none = λ e other c.
          let z = (sooner_first a b).none e in
          ⊎_elim (λ d. first.lowest.none z.0 other d) (λ d. second.lowest.none z.1 other d) (broken_either rows c);
      least = sooner_least;
    };
    known = λ c. both_known c;
  }
