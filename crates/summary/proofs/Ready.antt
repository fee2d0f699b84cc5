-- A sheet is ready to be gathered: its rows count no more than its items, and lie near.
-- Assumes nothing.
use Prim.Native.Nat.{ℕ, zero, suc, ◌+◌, ◌*◌, ◌/◌, ◌≤◌, ◌<◌, ◌^◌}
use mathlib.Core.Path.{◌≡◌, refl, sym, ap, ◌∙◌}
use mathlib.Core.Bool.{Bool, true, false}
use mathlib.Core.List.{List, [], ◌∷◌}
use native.Mathlib.Nat.{add-zero, mul-le-mul, mul-le-mul_left}
use native.Mathlib.Omega.{arith}
use lib.Dec.{eqb, ltb}
use lib.ListN.{get_or, replicate, get_or-replicate, length-replicate, get_or-eq_default}
use borrow.Author.Tests.{ltb-true, ltb-false}
use Rattle.base.specs.Run.{sums}
use Rattle.sheet.specs.Records.{entry_of, role_of}
use Rattle.sheet.specs.Containers.{apertures_used, body_of, top_of}
use Rattle.sheet.specs.Meaning.{drawn, pose_of, repeat_of}
use Rattle.sheet.specs.Valid.{size_as, size_of, size_at, valid}
use Rattle.sheet.specs.declared.Entry.{Entry}
use Rattle.sheet.specs.declared.Container.{Container}
use Rattle.sheet.specs.declared.Role.{Role}
use Rattle.sheet.specs.declared.Role.TheVariants.{Draws, Uses, Repeats, Defines, Unknown}
use Rattle.sheet.proofs.Conditions.{WordsOk, entry_words_lem, entry_repeat, drawn_within, RepeatOk}
use Rattle.sheet.proofs.Sound.{rooms, top_sound, repeat_under}
use Rattle.sheet.specs.Sound.{Sound}
use Rattle.summary_rows.specs.Rows.{no_row, moved_row, copied_row, ExtentWithin, nothing_in}
use Rattle.summary_rows.specs.Summed.{item_row}
use Rattle.summary_rows.specs.declared.Row.{Row}
use Rattle.summary_rows.specs.declared.Asked.{Asked}
use Rattle.summary_rows.proofs.Rows.{extent_within, moved_none}
use Rattle.summary_rows.proofs.Laws.{row_one, row_few, item_near}
use Rattle.summary_by_aperture.specs.Kept.{kept_width, extent_if, row_at}
use Rattle.summary_by_aperture.specs.Walk.{row_as, entry_row, entry_row_at, run_row, top_entry_row, top_row_at, Countable}
use Rattle.summary_by_aperture.proofs.Walk.{row_as_lem}
use Rattle.summary_by_aperture.proofs.Rows.{repeat_steps, repeat_role, merges_count, countable}
use Rattle.summary.specs.Links.{is_linked}
use Rattle.summary.specs.Adds.{Copies, Near, RunNear, EntryNear, TopReady}
use Rattle.summary.proofs.Added.{kept_nothing, repeat_row, other_row}
use Rattle.summary.proofs.Copied.{single_row}

-- ---- one entry

row_size : (a : List ℕ) (q : Asked) (r : Entry) → (entry_row [] q r).count ≤ size_of a r
unfolding row_as size_of size_as no_row
row_size a q r = go (role_of r.kind) refl
  where
    one : (item_row q (drawn r)).count ≤ 1
    one = let e = ap (λ (t : Row). t.count) (row_one q (drawn r)) in let f = row_few q (drawn r ∷ []) in omega arith

    go : (role : Role) → role_of r.kind ≡ role → (entry_row [] q r).count ≤ size_as role a r
    go Draws z = let e = ap (λ (t : Row). t.count) (row_as_lem [] q r z) in let o = one in omega arith
    go Uses z = let e = ap (λ (t : Row). t.count) (row_as_lem [] q r z ∙ ap (moved_row (pose_of r)) (kept_nothing r.who) ∙ moved_none (pose_of r)) in omega arith
    go Repeats z = let e = ap (λ (t : Row). t.count) (row_as_lem [] q r z) in omega arith
    go Defines z = let e = ap (λ (t : Row). t.count) (row_as_lem [] q r z) in omega arith
    go Unknown z = let e = ap (λ (t : Row). t.count) (row_as_lem [] q r z) in omega arith

near_entry : (r : Entry) → WordsOk r → Near r
unfolding row_as no_row
near_entry r w = record { row_near = λ q. go q (role_of r.kind) refl; row_one = λ q. few q (role_of r.kind) refl }
  where
    go : (q : Asked) (role : Role) → role_of r.kind ≡ role → ExtentWithin (10 ^ 15) (entry_row [] q r).extent
    go q Draws z = rw (row_as_lem [] q r z) (extent_within _ (omega arith) (item_near q (drawn r) (drawn_within r w)))
    go q Uses z = rw (row_as_lem [] q r z ∙ ap (moved_row (pose_of r)) (kept_nothing r.who) ∙ moved_none (pose_of r)) nothing_in
    go q Repeats z = rw (row_as_lem [] q r z) nothing_in
    go q Defines z = rw (row_as_lem [] q r z) nothing_in
    go q Unknown z = rw (row_as_lem [] q r z) nothing_in

    few : (q : Asked) (role : Role) → role_of r.kind ≡ role → (entry_row [] q r).count ≤ 1
    few q Draws z = let e = ap (λ (t : Row). t.count) (row_as_lem [] q r z ∙ sym (row_one q (drawn r))) in let f = row_few q (drawn r ∷ []) in omega arith
    few q Uses z = let e = ap (λ (t : Row). t.count) (row_as_lem [] q r z ∙ ap (moved_row (pose_of r)) (kept_nothing r.who) ∙ moved_none (pose_of r)) in omega arith
    few q Repeats z = let e = ap (λ (t : Row). t.count) (row_as_lem [] q r z) in omega arith
    few q Defines z = let e = ap (λ (t : Row). t.count) (row_as_lem [] q r z) in omega arith
    few q Unknown z = let e = ap (λ (t : Row). t.count) (row_as_lem [] q r z) in omega arith

sums_mono : (F G : ℕ → ℕ) (p n : ℕ) → ((i : ℕ) → i < n → F (p + i) ≤ G (p + i)) → sums F p n ≤ sums G p n
unfolding sums
sums_mono F G p zero h = omega arith
sums_mono F G p (suc n) h =
    let here : F p ≤ G p = rw add-zero at (h 0 (omega arith)) in
    let ih = sums_mono F G (suc p) n (λ i l. let e : p + suc i ≡ suc p + i = omega arith in rw e at (h (suc i) (omega arith))) in
    omega arith

module _ (head e a : List ℕ) (v : valid head e a ≡ true) where
  run_near : (k : Container) → Sound head e a k → RunNear e k
  run_near k s = record {
    inside = let w = s.ok.inside in let u = (rooms head e a v).0 in omega arith;
    each = λ i l. near_entry _ (entry_words_lem a _ _ _ (s.ok.each_ok i l));
  }

  run_few : (q : Asked) (k : Container) → Sound head e a k → (run_row e [] q k).count ≤ k.items
  unfolding run_row
  run_few q k s =
      let c = merges_count (entry_row_at e [] q) k.first k.len in
      let m = sums_mono (λ (i : ℕ). (entry_row_at e [] q i).count) (size_at e a) k.first k.len (λ i l. row_size a q (entry_of e (k.first + i))) in
      let t = s.ok.items_are in
      omega arith

  module _ (i : ℕ) (l : i < (top_of head).len) where
    abbrev r : Entry
    r = entry_of e ((top_of head).first + i)

    module _ (z : eqb r.kind 10 ≡ true) where
      repeats : RepeatOk (top_of head).height r
      repeats = entry_repeat a _ _ r ((top_sound head e a v).ok.each_ok i l) (repeat_role r.kind z)

      body_sound : Sound head e a (body_of r)
      body_sound = (repeat_under head e a v (top_of head) (top_sound head e a v) i l (repeat_role r.kind z)).sound

      copies : Copies (repeat_of r)
      unfolding repeat_of
      copies =
          let o = repeats in
          let c = o.counts in
          let all : r.sx * r.sy ≤ 9999 * 9999 = mul-le-mul c.nx_high c.ny_high in
          let high = c.ny_high in
          record { steps = repeat_steps (top_of head).height r o; column = omega arith; whole = omega arith }

      repeat_few : (q : Asked) → (top_entry_row e [] q r).count ≤ size_of a r
      unfolding copied_row repeat_of body_of size_of size_as
      repeat_few q =
          let b : (run_row e [] q (body_of r)).count ≤ r.count = run_few q (body_of r) body_sound in
          let w : r.sx * (r.sy * (run_row e [] q (body_of r)).count) ≤ r.sx * (r.sy * r.count) = mul-le-mul_left r.sx (mul-le-mul_left r.sy b) in
          let e1 = ap (λ (t : Row). t.count) (repeat_row e r z q) in
          rw (repeat_role r.kind z) (omega arith)

    entry_near : EntryNear e r
    entry_near = record {
      near = near_entry r (entry_words_lem a _ _ r ((top_sound head e a v).ok.each_ok i l));
      copies = copies;
      body = λ z. run_near (body_of r) (body_sound z);
    }

    entry_few : (q : Asked) → (top_entry_row e [] q r).count ≤ size_of a r
    entry_few q = go (eqb r.kind 10) refl
      where
        go : (t : Bool) → eqb r.kind 10 ≡ t → (top_entry_row e [] q r).count ≤ size_of a r
        go true z = repeat_few z q
        go false z = let c = ap (λ (t : Row). t.count) (other_row e r z q ∙ single_row (entry_row [] q r)) in let f = row_size a q r in omega arith

  counts : (q : Asked) → Countable (top_row_at e [] q) (top_of head).first (top_of head).len
  counts q =
      let s = top_sound head e a v in
      let c = merges_count (top_row_at e [] q) (top_of head).first (top_of head).len in
      let m = sums_mono (λ (i : ℕ). (top_row_at e [] q i).count) (size_at e a) (top_of head).first (top_of head).len (λ i l. entry_few i l q) in
      let t = s.ok.items_are in
      let w = s.ok.small in
      countable (top_row_at e [] q) (top_of head).first (top_of head).len (omega arith)

  zero_word : (m i : ℕ) → get_or (replicate {A = ℕ} m 0) i 0 ≡ 0
  zero_word m i = go (ltb i m) refl
    where
      go : (t : Bool) → ltb i m ≡ t → get_or (replicate {A = ℕ} m 0) i 0 ≡ 0
      go true z = get_or-replicate m i 0 0 (ltb-true i m z)
      go false z = get_or-eq_default (replicate {A = ℕ} m 0) 0 {n = i} (let h = ltb-false i m z in let e = length-replicate {A = ℕ} m 0 in omega arith)

  empty_row : (m b : ℕ) → row_at (replicate m 0) b ≡ no_row
  unfolding row_at extent_if no_row
  empty_row m b = rw (zero_word m (b * 6), zero_word m (b * 6 + 1))

  pub ready : (m : ℕ) → is_linked a (apertures_used head) ≡ true → apertures_used head ≤ m / kept_width → TopReady e a (apertures_used head) (top_of head) (replicate m 0)
  ready m linked fits = record {
    apertures = (rooms head e a v).1;
    linked = linked;
    fits = rw length-replicate fits;
    empty = λ b l. empty_row m b;
    inside = let w = (top_sound head e a v).ok.inside in let u = (rooms head e a v).0 in omega arith;
    each = entry_near;
    counts = counts;
  }
