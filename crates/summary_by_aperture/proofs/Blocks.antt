-- The rows of the blocks are kept in the order of the list: a block stands after the lower ones, whose rows are kept then.
-- Assumes nothing.
use Prim.Native.Nat.{ℕ, suc, ◌+◌, ◌-◌, ◌*◌, ◌/◌, ◌≤◌, ◌<◌}
use mathlib.Core.Path.{◌≡◌, refl, sym, subst, ◌∙◌}
use mathlib.Core.Bool.{Bool, true, false}
use mathlib.Core.List.{List}
use mathlib.Core.Logic.{⊎_elim}
use native.Mathlib.Nat.{not-suc-le-zero, eq-or-lt_of_le}
use native.Mathlib.Omega.{arith}
use lib.Dec.{eqb}
use lib.ListN.{length}
use borrow.Author.Tests.{eqb-true, eqb-false}
use Rattle.sheet.specs.Records.{stored}
use Rattle.sheet.specs.Containers.{apertures_used, block_of, top_of}
use Rattle.sheet.specs.Meaning.{sheet_items}
use Rattle.sheet.specs.Valid.{is_block, valid}
use Rattle.sheet.proofs.Stored.{stored_above}
use Rattle.sheet.proofs.Sound.{block_sound}
use Rattle.summary_rows.specs.Summed.{row_of}
use Rattle.summary_rows.specs.declared.Row.{Row}
use Rattle.summary_rows.specs.declared.Asked.{Asked}
use Rattle.summary_by_aperture.specs.Kept.{kept_words}
use Rattle.summary_by_aperture.specs.Walk.{run_row, RunReady, top_row, TopReady}
use Rattle.summary_by_aperture.specs.Listed.{listed_at}
use Rattle.summary_by_aperture.specs.Blocks.{with_block, IsKept, Ready, Done}
use Rattle.summary_by_aperture.proofs.Kept.{kept_long, kept_read, kept_other, kept_room}
use Rattle.summary_by_aperture.proofs.Rows.{run_is, run_close, run_ready, top_is, top_ready}
use Rattle.summary_by_aperture.proofs.Listed.{listed_same}

module _ (head e a : List ℕ) (q : Asked) where
  -- the list of 6 words a record, and one after all rows
  listed_kept : (s : List ℕ) (b i : ℕ) (r : Row) → apertures_used head ≤ length s / 8 → b < apertures_used head →
      listed_at (stored s (b * 6) (kept_words r)) (apertures_used head) i ≡ listed_at s (apertures_used head) i
  listed_kept s b i r room l = let k = kept_long r in stored_above s (b * 6) (kept_words r) (omega arith) (apertures_used head * 6 + i) (omega arith)

  pub done_start : (s : List ℕ) (m : ℕ) → Ready head e a s m → Done head e a q m 0 s
  done_start s m w = record { ready = w; kept = λ j l. absurd (not-suc-le-zero l) }

  module _ (m i : ℕ) (s : List ℕ) (d : Done head e a q m i s) (less : i < m) where
    abbrev n : ℕ
    n = apertures_used head

    abbrev b : ℕ
    b = listed_at s n i

    v : valid head e a ≡ true
    v = d.ready.fits.ok

    inside : b < n
    inside = d.ready.listed.inside i less

    is_block_lem : is_block a b ≡ true
    is_block_lem = d.ready.listed.block i less

    -- the rows of lower blocks are kept: they stand before it
    kept_below : (c : ℕ) → c < n → is_block a c ≡ true → (block_of a c).height < (block_of a b).height → IsKept e a s q c
    kept_below c l bl hc = let st = d.ready.listed.behind i less c l bl hc in subst (IsKept e a s q) st.is (d.kept st.at st.before)

    rows_room : n ≤ length s / 6
    rows_room = let w = d.ready.fits.room in omega arith

    low : (block_of a b).height ≤ 9
    low = let h = (block_sound head e a v b inside is_block_lem).1 in omega arith

    pub block_inside : b < apertures_used head
    block_inside = inside

    pub block_run : RunReady e s q (block_of a b)
    block_run = run_ready head e a v q s rows_room (block_of a b) (block_sound head e a v b inside is_block_lem).0 kept_below low

    kept_now : IsKept e a (stored s (b * 6) (kept_words (run_row e s q (block_of a b)))) q b
    kept_now =
        let sound = (block_sound head e a v b inside is_block_lem).0 in
        let one = sound.low in
        record {
          row_is = λ f lf.
              let is : suc (f - 1) ≡ f = omega arith in
              kept_read s b (run_row e s q (block_of a b)) (omega (arith, inside, rows_room)) (run_close head e a v q s rows_room (block_of a b) sound kept_below low)
              ∙ rw is at (run_is head e a v q s rows_room (block_of a b) sound kept_below low (f - 1) (omega arith));
        }

    -- a row that was kept is still, or anew
    kept_again : (c : ℕ) → IsKept e a s q c → (t : Bool) → eqb c b ≡ t → IsKept e a (stored s (b * 6) (kept_words (run_row e s q (block_of a b)))) q c
    kept_again c k true z = subst (IsKept e a (stored s (b * 6) (kept_words (run_row e s q (block_of a b)))) q) (sym (eqb-true c b z)) kept_now
    kept_again c k false z = record { row_is = λ f lf. kept_other s b (run_row e s q (block_of a b)) (omega (arith, inside, rows_room)) c (eqb-false c b z) ∙ k.row_is f lf }

    pub done_more : Done head e a q m (i + 1) (with_block e a q b s)
    unfolding with_block
    done_more =
        let r = run_row e s q (block_of a b) in
        let t = stored s (b * 6) (kept_words r) in
        let room-here : b < length s / 6 = omega (arith, inside, rows_room) in
        let w = d.ready.fits.room in
        let long = kept_room s b r room-here in
        let same : (j : ℕ) → listed_at t n j ≡ listed_at s n j = λ j. listed_kept s b j r w inside in
        record {
          ready = record { fits = record { ok = v; room = rw long w }; listed = listed_same a s t n 9 0 m (λ j l. same j) d.ready.listed };
          kept = λ j l. rw (same j) (⊎_elim
              (λ (x : j ≡ i). rw x kept_now)
              (λ (x : j < i). kept_again (listed_at s n j) (d.kept j x) (eqb (listed_at s n j) b) refl)
              (eq-or-lt_of_le (let k : j ≤ i = omega arith in k)));
        }

  -- all blocks are listed, and lower than 9: the top level
  module _ (m : ℕ) (s : List ℕ) (d : Done head e a q m m s) where
    all_kept : (c : ℕ) → c < apertures_used head → is_block a c ≡ true → IsKept e a s q c
    all_kept c l bl =
        let h = (block_sound head e a d.ready.fits.ok c l bl).1 in
        let st = d.ready.listed.lower c l bl (omega arith) in
        subst (IsKept e a s q) st.is (d.kept st.at st.before)

    rows_room_all : apertures_used head ≤ length s / 6
    rows_room_all = let w = d.ready.fits.room in omega arith

    pub whole_ready : TopReady e s q (top_of head)
    whole_ready = top_ready head e a d.ready.fits.ok q s rows_room_all all_kept

    pub whole_is : top_row e s q (top_of head) ≡ row_of q (sheet_items head e a)
    whole_is = top_is head e a d.ready.fits.ok q s rows_room_all all_kept
