-- The blocks are listed height by height: each record that is passed, and each height, is one more; there are no more than records.
-- Assumes nothing.
use Prim.Native.Nat.{ℕ, zero, suc, ◌+◌, ◌*◌, ◌/◌, ◌≤◌, ◌<◌}
use mathlib.Core.Path.{◌≡◌, refl, sym, ap, ◌∙◌}
use mathlib.Core.Bool.{Bool, true, false, cond, true≢false}
use mathlib.Core.List.{List}
use mathlib.Core.Logic.{⊎_elim}
use native.Mathlib.Nat.{zero-add, add-zero, not-suc-le-zero, eq-or-lt_of_le, le_refl, le_trans}
use native.Mathlib.Numerals.{add-one}
use native.Mathlib.Omega.{arith}
use lib.Dec.{eqb, ltb}
use lib.ListN.{length, set}
use lib.Seq.{get_or-set_same, get_or-set_other}
use borrow.Author.Tests.{eq-eqb, eqb-true, ltb-true, ltb-false}
use Rattle.base.specs.And.{◌and◌}
use Rattle.base.specs.Run.{sums}
use Rattle.base.proofs.And.{and_l, and_r, and_i}
use Rattle.base.proofs.Run.{sums_snoc, below_snoc}
use Rattle.sheet.specs.Containers.{block_of}
use Rattle.sheet.specs.Meaning.{flag_word}
use Rattle.sheet.specs.Valid.{is_block}
use Rattle.sheet.proofs.Every.{sums_grow}
use Rattle.summary_by_aperture.specs.Listed.{is_at, is_lower, count_at, count_lower, listed_at, with_listed, Stands, Listed}

-- ---- no more blocks than records

-- numbers that are no more together than a third are so when they are added up
sums_under : (F G H : ℕ → ℕ) (p n : ℕ) → ((i : ℕ) → F i + G i ≤ H i) → sums F p n + sums G p n ≤ sums H p n
unfolding sums
sums_under F G H p zero h = omega arith
sums_under F G H p (suc n) h = let here = h p in let rest = sums_under F G H (suc p) n h in omega arith

sums_ones : (F : ℕ → ℕ) (p n : ℕ) → ((i : ℕ) → F i ≤ 1) → sums F p n ≤ n
unfolding sums
sums_ones F p zero h = omega arith
sums_ones F p (suc n) h = let here = h p in let rest = sums_ones F (suc p) n h in omega arith

flag_one : (t : Bool) → flag_word t ≤ 1
unfolding flag_word
flag_one true = omega arith
flag_one false = omega arith

-- a block of height h is none that is lower, and lower than h + 1
step_of : (t : Bool) (x h : ℕ) → flag_word (t and ltb x h) + flag_word (t and eqb x h) ≤ flag_word (t and ltb x (h + 1))
unfolding flag_word ◌and◌
step_of false x h = omega arith
step_of true x h = go (ltb x h) (eqb x h) (ltb x (h + 1)) refl refl refl
  where
    go : (l e m : Bool) → ltb x h ≡ l → eqb x h ≡ e → ltb x (h + 1) ≡ m → cond l 1 0 + cond e 1 0 ≤ cond m 1 0
    go true true m p q r = let a = ltb-true x h p in let b = eqb-true x h q in absurd (omega arith)
    go true false true p q r = omega arith
    go true false false p q r = let a = ltb-true x h p in let b = ltb-false x (h + 1) r in absurd (omega arith)
    go false true true p q r = omega arith
    go false true false p q r = let a = eqb-true x h q in let b = ltb-false x (h + 1) r in absurd (omega arith)
    go false false m p q r = omega arith

module _ (a : List ℕ) (h n : ℕ) where
  lower_few : count_lower a h n ≤ n
  unfolding count_lower
  lower_few = sums_ones (λ b. flag_word (is_lower a h b)) 0 n (λ b. flag_one (is_lower a h b))

  lower_more : count_lower a h n + count_at a h n ≤ count_lower a (h + 1) n
  unfolding count_lower count_at is_lower is_at
  lower_more = sums_under (λ b. flag_word (is_lower a h b)) (λ b. flag_word (is_at a h b)) (λ b. flag_word (is_lower a (h + 1) b)) 0 n
      (λ b. step_of (is_block a b) (block_of a b).height h)

listed_room : (a : List ℕ) (h n b : ℕ) → b ≤ n → count_lower a h n + count_at a h b ≤ n
unfolding count_at
listed_room a h n b l =
    let g = sums_grow (λ b. flag_word (is_at a h b)) 0 b n l in
    let m = lower_more a h n in
    let f = lower_few a (h + 1) n in
    let at : count_at a h n ≡ sums (λ b. flag_word (is_at a h b)) 0 n = refl in
    omega arith

-- a list is no longer than the records
pub listed_few : (a s : List ℕ) (n h b m : ℕ) → b ≤ n → Listed a s n h b m → m ≤ n
listed_few a s n h b m l d = le_trans d.few (listed_room a h n b l)

count_next : (a : List ℕ) (h b : ℕ) → count_at a h (b + 1) ≡ count_at a h b + flag_word (is_at a h b)
unfolding count_at
count_next a h b = rw (add-one b) (sums_snoc (λ b. flag_word (is_at a h b)) 0 b ∙ ap (λ c. sums (λ b. flag_word (is_at a h b)) 0 b + flag_word (is_at a h c)) (zero-add b))

-- ---- words that are the same list the same

stands_same : (s t : List ℕ) (n m c : ℕ) → ((i : ℕ) → i < m → listed_at t n i ≡ listed_at s n i) → Stands s n m c → Stands t n m c
stands_same s t n m c h st = record { at = st.at; before = st.before; is = h st.at st.before ∙ st.is }

stands_more : (s : List ℕ) (n m c : ℕ) → Stands s n m c → Stands s n (m + 1) c
stands_more s n m c st = record { at = st.at; before = let l = st.before in omega arith; is = st.is }

pub listed_same : (a s t : List ℕ) (n h b m : ℕ) → ((i : ℕ) → i < m → listed_at t n i ≡ listed_at s n i) → Listed a s n h b m → Listed a t n h b m
listed_same a s t n h b m same l = record {
  few = l.few;
  inside = λ i li. rw (same i li) (l.inside i li);
  block = λ i li. rw (same i li) (l.block i li);
  lower = λ c lc bl hc. stands_same s t n m c same (l.lower c lc bl hc);
  same = λ c lc bl hc. stands_same s t n m c same (l.same c lc bl hc);
  behind = λ i li c lc bl hc. stands_same s t n i c (λ j lj. same j (omega arith)) (l.behind i li c lc bl (rw (← same i li) hc));
}

-- ---- one record more, one height more

module _ (a : List ℕ) (h b : ℕ) where
  at_block : is_at a h b ≡ true → is_block a b ≡ true
  unfolding is_at
  at_block z = and_l _ _ z

  at_height : is_at a h b ≡ true → (block_of a b).height ≡ h
  unfolding is_at
  at_height z = eqb-true _ _ (and_r _ _ z)

  is_at_lem : (c : ℕ) → c ≡ b → is_block a c ≡ true → (block_of a c).height ≡ h → is_at a h b ≡ true
  unfolding is_at
  is_at_lem c x bl hc = and_i _ _ (rw x at bl) (eq-eqb _ _ (rw x at hc))

module _ (a : List ℕ) (n : ℕ) where
  -- nothing is lower than 0
  pub listed_start : (s : List ℕ) → Listed a s n 0 0 0
  listed_start s = record {
    few = omega arith;
    inside = λ i l. absurd (not-suc-le-zero l);
    block = λ i l. absurd (not-suc-le-zero l);
    lower = λ c l bl hc. absurd (not-suc-le-zero hc);
    same = λ c l bl hc. absurd (not-suc-le-zero l);
    behind = λ i l. absurd (not-suc-le-zero l);
  }

  pub listed_height : (s : List ℕ) (h m : ℕ) → Listed a s n h n m → Listed a s n (h + 1) 0 m
  listed_height s h m d = record {
    few = let f = d.few in let g = lower_more a h n in omega arith;
    inside = d.inside;
    block = d.block;
    lower = λ c lc bl hc. ⊎_elim
        (λ (z : (block_of a c).height ≡ h). d.same c (omega arith) bl z)
        (λ (z : (block_of a c).height < h). d.lower c lc bl z)
        (eq-or-lt_of_le (let k : (block_of a c).height ≤ h = omega arith in k));
    same = λ c lc bl hc. absurd (not-suc-le-zero lc);
    behind = d.behind;
  }

  module _ (s : List ℕ) (h b m : ℕ) (room : n ≤ length s / 8) (l : b < n) (d : Listed a s n h b m) where
    pub listed_more : Listed a (with_listed a n h b m s) n h (b + 1) (m + flag_word (is_at a h b))
    unfolding with_listed flag_word
    listed_more = go (is_at a h b) refl
      where
        next : List ℕ
        next = set s (n * 6 + m) b

        slot : n * 6 + m < length s
        slot = let f = d.few in let r = listed_room a h n b (omega arith) in omega arith

        here : listed_at next n m ≡ b
        here = get_or-set_same s (n * 6 + m) b 0 slot

        there : (i : ℕ) → i < m → listed_at next n i ≡ listed_at s n i
        there i li = get_or-set_other s (n * 6 + m) (n * 6 + i) b 0 (λ (x : n * 6 + i ≡ n * 6 + m). omega arith)

        old : (c k : ℕ) → k ≤ m → Stands s n k c → Stands next n k c
        old c k lk = stands_same s next n k c (λ i li. there i (omega arith))

        go : (t : Bool) → is_at a h b ≡ t → Listed a (cond t next s) n h (b + 1) (m + cond t 1 0)
        go true z = record {
          few = let f = d.few in let k = count_next a h b in let one : flag_word (is_at a h b) ≡ 1 = ap flag_word z in omega arith;
          inside = λ i li. below_snoc (λ i. listed_at next n i < n) m (λ i li. rw (there i li) (d.inside i li)) (rw here l) i (omega arith);
          block = λ i li. below_snoc (λ i. is_block a (listed_at next n i) ≡ true) m (λ i li. rw (there i li) (d.block i li)) (rw here (at_block a h b z)) i (omega arith);
          lower = λ c lc bl hc. stands_more next n m c (old c m (le_refl m) (d.lower c lc bl hc));
          same = λ c lc bl hc. ⊎_elim
              (λ (x : c ≡ b). record { at = m; before = omega arith; is = here ∙ sym x })
              (λ (x : c < b). stands_more next n m c (old c m (le_refl m) (d.same c x bl hc)))
              (eq-or-lt_of_le (let k : c ≤ b = omega arith in k));
          behind = λ i li. below_snoc (λ i. (c : ℕ) → c < n → is_block a c ≡ true → (block_of a c).height < (block_of a (listed_at next n i)).height → Stands next n i c) m
              (λ i li c lc bl hc. old c i (omega arith) (d.behind i li c lc bl (rw (there i li) at hc)))
              (λ c lc bl hc. old c m (le_refl m) (d.lower c lc bl (rw (here, at_height a h b z) at hc)))
              i (omega arith);
        }
        go false z = rw (add-zero m) (record {
          few = let f = d.few in let k = count_next a h b in let none : flag_word (is_at a h b) ≡ 0 = ap flag_word z in omega arith;
          inside = d.inside;
          block = d.block;
          lower = d.lower;
          same = λ c lc bl hc. ⊎_elim
              (λ (x : c ≡ b). absurd (true≢false (sym (is_at_lem a h b c x bl hc) ∙ z)))
              (λ (x : c < b). d.same c x bl hc)
              (eq-or-lt_of_le (let k : c ≤ b = omega arith in k));
          behind = d.behind;
        })
