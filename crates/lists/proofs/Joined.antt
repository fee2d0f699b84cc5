-- Lists asked for in several runs join to the same items, are zero items where the call is refused, and hold what the words of a run hold.
-- Assumes nothing.
use Prim.Native.Nat.{ℕ, zero, suc, ◌+◌, ◌*◌, ◌/◌, ◌%◌, ◌≤◌}
use native.Mathlib.Omega.{arith}
use mathlib.Core.Path.{◌≡◌, refl, sym, ap, ◌∙◌}
use mathlib.Core.List.{List, [], ◌∷◌, ◌++◌, append-nil}
use lib.ListN.{length, get_or, replicate, get_or-eq_default}
use Rattle.base.specs.Run.{run}
use Rattle.place.specs.declared.Item.{Item}
use Rattle.place.specs.Item.{item_width, zero_item}
use Rattle.descend.specs.Slots.{item_words, slot, slots, fetched}
use Rattle.descend.proofs.Slots.{run_join}
use Rattle.lists.specs.Lists.{number_of, held, slot_of, listed, filled, words_of}
use Rattle.lists.proofs.Answers.{none_behind}

-- n slots from item k on, and m from item k + n on, are n + m slots
pub lists_join : (head e a : List ℕ) (k n m : ℕ) → filled head e a k n ++ filled head e a (k + n) m ≡ filled head e a k (n + m)
unfolding filled listed
lists_join head e a k n m = run_join (λ i. slot_of (held head e a) i ∷ []) k n m

past_all : (ts : List Item) (i n : ℕ) → length ts ≤ i → listed ts i n ≡ replicate n zero_item
unfolding listed run slot_of
past_all ts i zero l = refl
past_all ts i (suc n) l = λ j. get_or-eq_default ts zero_item l j ∷ past_all ts (suc i) n (omega arith) j

-- "20 and 21 zero the lent .. list"
pub refused_zeroes : (head e a : List ℕ) (k n : ℕ) → (number_of head e a k ≡ 0 → ⊥) → filled head e a k n ≡ replicate n zero_item
unfolding filled
refused_zeroes head e a k n nz = past_all (held head e a) k n (none_behind head e a k nz)

words_run : (ts : List Item) (k n : ℕ) → words_of (listed ts k n) ≡ run (slot ts) k n
unfolding words_of listed slot_of slot run
words_run ts k zero = refl
words_run ts k (suc n) = ap (λ l. item_words (get_or ts k zero_item) ++ l) (words_run ts (suc k) n)

words_slots : (ts : List Item) (k n : ℕ) → words_of (listed ts k n) ≡ slots ts k (n * item_width)
unfolding slots
words_slots ts k n =
    let q : n * item_width / item_width ≡ n = omega arith in
    let r : n * item_width % item_width ≡ 0 = omega arith in
    rw (q, r) (words_run ts k n ∙ sym (append-nil (run (slot ts) k n)))

-- a lent list of n items and n times fifteen lent words (`descend::sheet_run`) hold the same
pub same_words_lem : (head e a : List ℕ) (k n : ℕ) → words_of (filled head e a k n) ≡ fetched head e a k (n * item_width)
unfolding filled held fetched
same_words_lem head e a k n = words_slots (held head e a) k n
