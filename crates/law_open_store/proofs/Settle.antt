-- A container whose entries have come to lie after the closed ones is closed, and has the parts that it had while it was open.
-- Assumes nothing.
use Prim.Native.Nat.{ℕ, zero, suc, ◌+◌, ◌-◌, ◌≤◌, ◌<◌}
use mathlib.Core.Path.{◌≡◌, refl, sym, ap, ◌∙◌}
use mathlib.Core.Bool.{true}
use mathlib.Core.List.{List}
use mathlib.Core.Logic.{⊎_elim}
use native.Mathlib.Nat.{zero-add, le_refl, eq-or-lt_of_le, not-suc-le-zero}
use native.Mathlib.Omega.{arith}
use Rattle.base.specs.Run.{sums}
use Rattle.base.proofs.Run.{sums_cong, sums_snoc}
use Rattle.place.specs.Parts.{Parts}
use Rattle.sheet.specs.Records.{entry_of, role_of}
use Rattle.sheet.specs.Containers.{block_of, body_of}
use Rattle.sheet.specs.Valid.{most, ok_container, ok_block}
use Rattle.sheet.specs.declared.Container.{Container}
use Rattle.sheet.specs.declared.Role.TheVariants.{Uses, Repeats}
use Rattle.sheet.proofs.Conditions.{entry_use, entry_repeat}
use Rattle.sheet.proofs.Build.{ok_same, open_same, open_close}
use Rattle.sheet.specs.Open.{stacked}
use Rattle.sheet.specs.Parts.{parts}
use Rattle.law_open_store.specs.Open.{Level}
use Rattle.law_open_store.proofs.Frame.{Agrees, open_ok, open_container, block_kept, fuel, kept_parts}
use Rattle.law_open_store.proofs.Steps.{same_block}

-- sums that differ in one number
pub sums_raise : (F G : ℕ → ℕ) (n b x : ℕ) → b < n → G b ≡ F b + x → ((i : ℕ) → i < n → (i ≡ b → ⊥) → G i ≡ F i) → sums G 0 n ≡ sums F 0 n + x
sums_raise F G zero b x l at others = absurd (not-suc-le-zero l)
sums_raise F G (suc n) b x l at others =
    let f = rw (zero-add n) at (sums_snoc F 0 n) in
    let g = rw (zero-add n) at (sums_snoc G 0 n) in
    let rest = sums_raise F G n b x in
    ⊎_elim
    (λ (q : suc b ≡ suc n).
    let same : b ≡ n = omega arith in
    let here = rw same at at in
    let each = sums_cong G F 0 n (λ i li. rw (zero-add i) (others i (omega arith) (λ z. let z' : i ≡ b = z in absurd (omega arith)))) in
    omega arith)
    (λ (m : suc b < suc n).
    let last = others n (le_refl _) (λ z. let z' : n ≡ b = z in absurd (omega arith)) in
    let ih = rest (omega arith) at (λ i li. others i (omega arith)) in
    omega arith)
    (eq-or-lt_of_le l)

module _ (e a : List ℕ) (room closed high n limit : ℕ) (blocks_ok : (b : ℕ) → b < n → ok_block e a closed n b ≡ true)
    (e' a' : List ℕ) (agree : Agrees room closed high n limit e a e' a')
    (start len h t : ℕ) (here : Parts) (level : Level e a room n start len h t here)
    (settled : (i : ℕ) → i < len → entry_of e (room - suc (start + i)) ≡ entry_of e' (closed + i)) where
  abbrev pub container : Container
  container = record { first = closed; len = len; items = t; height = h }

  pub settled_ok : t ≤ most → ok_container e' a' (closed + len) n container ≡ true
  settled_ok few = open_container e' a' (closed + len) n container (le_refl _) few
      (ok_same a' n h (stacked e room start) (λ i. entry_of e' (closed + i)) len t settled
      (open_ok a a' n n h h (le_refl _) (le_refl _) (λ q. q) agree.same_blocks _ len t level.ok))

  pub settled_shows : (g : ℕ) → h ≤ suc g →
      ((i : ℕ) → i < len → role_of (stacked e room start i).kind ≡ Repeats → parts e a 9 (body_of (stacked e room start i)) ≡ parts e' a' g (body_of (stacked e room start i))) →
      parts e' a' (suc g) container ≡ here
  settled_shows g tall repeated =
      open_close e' a' g (stacked e room start) container settled
      ∙ sym (open_same a a' (parts e a 9) (parts e' a' g) (stacked e room start) (stacked e room start) len (λ i l. refl) used repeated)
      ∙ level.shows
    where
      used : (i : ℕ) → i < len → role_of (stacked e room start i).kind ≡ Uses →
          parts e a 9 (block_of a (stacked e room start i).who) ≡ parts e' a' g (block_of a' (stacked e room start i).who)
      used i l q =
          let u = entry_use a n h _ (level.ok.each_ok i l) q in
          let k = block_kept e a closed n blocks_ok _ u.who_in u.block in
          let eight = k.1 in
          let lower = u.lower in
          fuel e a closed n blocks_ok _ k.0 9 g (omega arith) (omega arith)
          ∙ kept_parts e a closed n blocks_ok room high limit n closed e' a' agree (le_refl _) (le_refl _) _ k.0 g
          ∙ ap (parts e' a' g) (same_block a a' _ (agree.same_blocks _ u.who_in u.block))

  -- where nothing repeats
  pub settled_low : (g : ℕ) → h ≤ suc g → h ≤ 9 → parts e' a' (suc g) container ≡ here
  settled_low g tall low = settled_shows g tall
      (λ i l q. let ten = (entry_repeat a n h _ (level.ok.each_ok i l) q).at_top in absurd (omega arith))
