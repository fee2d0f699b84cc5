-- The table of apertures where a block closes: its record says so, and all others stay.
-- Assumes nothing.
use Prim.Native.Nat.{ℕ, zero, suc, ◌+◌, ◌*◌, ◌≤◌, ◌<◌}
use mathlib.Core.Path.{◌≡◌, refl, sym, ap, ◌∙◌}
use mathlib.Core.Bool.{Bool, true, false, cond}
use mathlib.Core.List.{List, [], ◌∷◌}
use native.Mathlib.Omega.{arith}
use lib.Dec.{eqb, ltb}
use lib.ListN.{length, get_or}
use borrow.Author.Tests.{ltb-true, ltb-false, eqb-true, eqb-false, eq-eqb, ne_eqb}
use Rattle.base.specs.Run.{run}
use Rattle.index.specs.Tree.{link_of}
use Rattle.index.specs.Numbers.{Numbered}
use Rattle.index.proofs.Seek.{link_words}
use Rattle.sheet.specs.Records.{aperture_width, aperture_of, aperture_room, stored}
use Rattle.sheet.specs.declared.Aperture as store
use Rattle.sheet.proofs.Stored.{stored_below, stored_above, stored_long}
use Rattle.sheet.proofs.Apertures.{aperture_number_lem}
use Rattle.law_built_store.proofs.Closed.{block_written, others_kept}
use Rattle.tables.proofs.Numbers.{numbered_agree}
use Rattle.operation_rules.specs.Counts.{most}
use Rattle.graphics.specs.declared.Selected.{Selected}
use Rattle.law_reading.specs.State.{Aperture}
use Rattle.law_reading.specs.Apertures.{selected, block_of, closing}
use Rattle.progress.specs.Tables.{as_stored, as_read, ApertureTable, Chosen}
use Rattle.progress.proofs.AsRead.{block_as_read, number_as_read}

-- `closing` goes over the records one by one
closing_run : (f g : ℕ → Aperture) (n items height p k : ℕ) → ((j : ℕ) → p ≤ j → j < p + k → cond (eqb n (f j).number) (block_of n items height) (f j) ≡ g j) →
    closing n items height (run (λ i. f i ∷ []) p k) ≡ run (λ i. g i ∷ []) p k
unfolding closing run
closing_run f g n items height p zero each = refl
closing_run f g n items height p (suc k) each =
    let first = each p (omega arith) (omega arith) in
    let rest = closing_run f g n items height (suc p) k (λ j l m. each j (omega arith) (omega arith)) in
    λ x. first x ∷ rest x

module _ (a : List ℕ) (used : ℕ) (known : List Aperture) (t : ApertureTable a used known) (i first len items height : ℕ) (inside : i < used) where
  abbrev a' : List ℕ
  a' = stored a (i * aperture_width + 1) (6 ∷ first ∷ len ∷ items ∷ height ∷ [])

  rooms : used * aperture_width ≤ length a
  rooms = t.indexed.tree.inside

  pub closing_room : i < aperture_room a
  closing_room = let r = rooms in omega arith

  fits : i * aperture_width + 1 + 5 ≤ length a
  fits = let r = rooms in omega arith

  word_kept : (k : ℕ) → (i * aperture_width + 1 ≤ k → i * aperture_width + 6 ≤ k) → get_or a' k 0 ≡ get_or a k 0
  word_kept k out = go (ltb k (i * aperture_width + 1)) refl
    where
      go : (x : Bool) → ltb k (i * aperture_width + 1) ≡ x → get_or a' k 0 ≡ get_or a k 0
      go true q = stored_below a (i * aperture_width + 1) (6 ∷ first ∷ len ∷ items ∷ height ∷ []) fits k (ltb-true k (i * aperture_width + 1) q)
      go false q = let p = out (ltb-false k (i * aperture_width + 1) q) in stored_above a (i * aperture_width + 1) (6 ∷ first ∷ len ∷ items ∷ height ∷ []) fits k (omega arith)

  pub closing_kept : (j : ℕ) → (j ≡ i → ⊥) → aperture_of a' j ≡ aperture_of a j
  closing_kept = others_kept a i first len items height closing_room

  closed : aperture_of a' i ≡ record { number = (aperture_of a i).number; kind = 6; first = first; len = len; items = items; height = height }
  closed = block_written a i first len items height closing_room

  indexed_then : Numbered a' used
  indexed_then =
      let long = stored_long a (i * aperture_width + 1) (6 ∷ first ∷ len ∷ items ∷ height ∷ []) fits in
      let r = rooms in
      numbered_agree a a' used t.indexed (omega arith)
      (λ j key l. let p = link_words j key in word_kept (link_of j key) (λ q. omega arith))
      (λ j l. word_kept (j * aperture_width) (λ q. omega arith))

  -- a statement of the record that closes, and of every other
  either : (P : ℕ → Type 0) → P i → ((j : ℕ) → (j ≡ i → ⊥) → P j) → (j : ℕ) → P j
  either P here there j = go (eqb j i) refl
    where
      go : (x : Bool) → eqb j i ≡ x → P j
      go true q = rw (eqb-true j i q) here
      go false q = there j (eqb-false j i q)

  abbrev n : ℕ
  n = (aperture_of a i).number

  each : (j : ℕ) → j < used → cond (eqb n (as_read (aperture_of a j)).number) (block_of n items height) (as_read (aperture_of a j)) ≡ as_read (aperture_of a' j)
  each = either (λ j. j < used → cond (eqb n (as_read (aperture_of a j)).number) (block_of n items height) (as_read (aperture_of a j)) ≡ as_read (aperture_of a' j))
      (λ l. rw (eq-eqb n (as_read (aperture_of a i)).number (sym (number_as_read (aperture_of a i))), closed) (sym (block_as_read (record { number = n; kind = 6; first = first; len = len; items = items; height = height }) refl)))
      (λ j ne l. rw (ne_eqb n (as_read (aperture_of a j)).number (λ q. ne (t.indexed.distinct j i l inside (sym (aperture_number_lem a j) ∙ sym (number_as_read (aperture_of a j)) ∙ sym q ∙ aperture_number_lem a i))), closing_kept j ne))

  pub table_closed : items ≤ most → height ≤ 8 → ApertureTable a' used (closing n items height known)
  table_closed few low = record {
    indexed = indexed_then;
    records = rw (← t.records) (sym (closing_run (λ j. as_read (aperture_of a j)) (λ j. as_read (aperture_of a' j)) n items height 0 used (λ j l m. each j (omega arith))));
    few = λ j l. either (λ j. j < used → (aperture_of a' j).items ≤ most) (λ m. rw closed few) (λ j ne m. rw (closing_kept j ne) (t.few j m)) j l;
    low = λ j l. either (λ j. j < used → (aperture_of a' j).height ≤ 8) (λ m. rw closed low) (λ j ne m. rw (closing_kept j ne) (t.low j m)) j l;
    unused = λ k l. word_kept k (λ q. omega arith) ∙ t.unused k l;
  }

  -- the aperture that is chosen is no block that is open
  open_unset : (slot : ℕ) (r : store.Aperture) → r.kind ≡ 0 → (selected slot (as_read r)).set ≡ false
  unfolding selected as_read as_stored
  open_unset slot r q = rw q

  pub chosen_closed : (c : Selected) → (aperture_of a i).kind ≡ 0 → Chosen a used c → Chosen a' used c
  chosen_closed c is_open_lem h = record {
    unset = h.unset;
    known = h.known;
    is = λ s. rw (closing_kept c.slot (apart s)) (h.is s);
  }
    where
      apart : c.set ≡ true → c.slot ≡ i → ⊥
      apart s q =
          let none : c.set ≡ false = ap (λ (x : Selected). x.set) (sym (h.is s)) ∙ open_unset c.slot (aperture_of a c.slot) (rw q is_open_lem) in
          let z : true ≡ false = sym s ∙ none in
          let y : ◌≡◌ {A = ℕ} 0 1 = cc in
          omega arith
