-- The rows of a sheet's containers: how far they reach, and that the walk's row of a container is that of its items.
-- Assumes nothing.
use Prim.Native.Nat.{ℕ, zero, suc, ◌+◌, ◌-◌, ◌*◌, ◌/◌, ◌≤◌, ◌<◌, ◌^◌}
use mathlib.Core.Path.{◌≡◌, refl, sym, ap, ◌∙◌}
use mathlib.Core.Bool.{Bool, true, false, cond, true≢false}
use mathlib.Core.List.{List}
use native.Mathlib.Nat.{mul-le-mul, mul-le-mul_left, le_trans, le_refl}
use native.Mathlib.Omega.{arith}
use lib.Dec.{eqb, lit≤}
use lib.ListN.{length}
use borrow.Author.Tests.{eqb-true}
use Rattle.base.specs.Run.{run, sums}
use Rattle.base.proofs.Run.{run_snoc, sums_snoc}
use Rattle.place.specs.declared.Item.{Item}
use Rattle.place.proofs.Laws.{pose_within}
use Rattle.sheet.specs.Records.{entry_of, role_of}
use Rattle.sheet.specs.Containers.{apertures_used, block_of, body_of, top_of}
use Rattle.sheet.specs.Meaning.{drawn, pose_of, repeat_of, puts, entry_items, items, sheet_items}
use Rattle.sheet.specs.Valid.{most, is_block, ok_entry, valid}
use Rattle.sheet.specs.declared.Entry.{Entry}
use Rattle.sheet.specs.declared.Container.{Container}
use Rattle.sheet.specs.declared.Role.{Role}
use Rattle.sheet.specs.declared.Role.TheVariants.{Draws, Uses, Repeats, Defines, Unknown}
use Rattle.sheet.proofs.Every.{sums_grow}
use Rattle.sheet.proofs.Conditions.{entry_words_lem, entry_use, entry_repeat, drawn_within, flash_within, RepeatOk, repeat_kind}
use Rattle.sheet.proofs.Sound.{Under, rooms, top_sound, use_under, repeat_under}
use Rattle.sheet.specs.Sound.{Sound}
use Rattle.sheet.proofs.Expand.{length_items}
use Rattle.summary_rows.specs.Rows.{no_row, merged, moved_row, copied_row, ExtentWithin, Steps}
use Rattle.summary_rows.specs.Summed.{row_of}
use Rattle.summary_rows.specs.declared.Row.{Row}
use Rattle.summary_rows.specs.declared.Asked.{Asked}
use Rattle.summary_rows.proofs.Rows.{extent_within, moved_extent_within, copied_extent_within}
use Rattle.summary_rows.proofs.Laws.{row_append, row_one, row_flashed, row_copies, row_few, item_near, none_near, run_near}
use Rattle.summary_by_aperture.specs.Walk.{merges, row_as, entry_row, entry_row_at, run_row, top_entry_row, top_row_at, top_row, EntryReady, Countable, RunReady, RepeatReady, TopEntryReady, TopReady}
use Rattle.summary_by_aperture.specs.Blocks.{IsKept}
use Rattle.summary_by_aperture.proofs.Walk.{merges_snoc, row_as_lem}

-- ---- a repeat's copies

-- 9,998 steps of at most 10^12
steps_in : (n d : ℕ) → n ≤ 9999 → d ≤ most → (n - 1) * d ≤ 10 ^ 16
steps_in n d l m = let k : n - 1 ≤ 9998 = omega arith in let p : (n - 1) * d ≤ 9998 * most = mul-le-mul k m in omega arith

pub repeat_steps : (h : ℕ) (r : Entry) → RepeatOk h r → Steps (repeat_of r)
unfolding repeat_of
repeat_steps h r o = record {
  nx_low = o.counts.nx_low;
  ny_low = o.counts.ny_low;
  across_in = steps_in r.sx r.cx o.counts.nx_high o.dx_in;
  up_in = steps_in r.sy r.cy o.counts.ny_high o.dy_in;
}

pub repeat_role : (k : ℕ) → eqb k 10 ≡ true → role_of k ≡ Repeats
unfolding role_of
repeat_role k z = rw (eqb-true k 10 z)

-- ---- what an entry puts out, by its role

pub items_as : (a : List ℕ) (below : Container → List Item) (r : Entry) {role : Role} → role_of r.kind ≡ role → entry_items a below r ≡ puts role a below r
unfolding entry_items
items_as a below r e = ap (λ role. puts role a below r) e

-- ---- rows merged one after the other

-- rows of pieces are the row of the pieces' items
pub merges_run : (q : Asked) (F : ℕ → Row) (G : ℕ → List Item) (p n : ℕ) → ((i : ℕ) → i < n → F (p + i) ≡ row_of q (G (p + i))) → merges F p n ≡ row_of q (run G p n)
unfolding merges run row_of
merges_run q F G p zero h = refl
merges_run q F G p (suc n) h =
    merges_snoc F p n ∙ rw (merges_run q F G p n (λ i l. h i (omega arith)), h n (omega arith)) (sym (ap (row_of q) (run_snoc G p n) ∙ row_append q (run G p n) (G (p + n))))

pub merges_count : (F : ℕ → Row) (p n : ℕ) → (merges F p n).count ≡ sums (λ i. (F i).count) p n
unfolding merges sums merged no_row
merges_count F p zero = refl
merges_count F p (suc n) = ap (λ (k : ℕ). (F p).count + k) (merges_count F (suc p) n)

-- where all together count few, so does each, and so do the first of them
pub countable : (F : ℕ → Row) (p n : ℕ) → (merges F p n).count ≤ 10 ^ 12 → Countable F p n
countable F p n h = record {
  one_few = λ i l.
      let g = sums_grow (λ i. (F i).count) p (suc i) n l in
      let t = sums_snoc (λ i. (F i).count) p i in
      let c = merges_count F p n in
      omega arith;
  few = λ i l.
      let g = sums_grow (λ i. (F i).count) p i n l in
      let c = merges_count F p n in
      let d = merges_count F p i in
      omega arith;
}

module _ (head e a : List ℕ) (v : valid head e a ≡ true) (q : Asked) where
  -- ---- how far: a flash adds 2·10^12 at most, a repeat 10^16

  module _ (k : Container) (s : Sound head e a k) (f : ℕ)
      (deeper : (u : Container) → Under head e a k u → ExtentWithin (u.height * 10 ^ 16) (row_of q (items e a f u)).extent) (i : ℕ) (l : i < k.len) where
    entry_near : ExtentWithin (k.height * 10 ^ 16) (row_of q (entry_items a (items e a f) (entry_of e (k.first + i)))).extent
    unfolding puts moved_row copied_row
    entry_near = go (role_of r.kind) refl
      where
        r : Entry
        r = entry_of e (k.first + i)

        go : (role : Role) → role_of r.kind ≡ role → ExtentWithin (k.height * 10 ^ 16) (row_of q (entry_items a (items e a f) r)).extent
        go Draws z =
            let low = s.low in
            rw (items_as a (items e a f) r z, row_one q (drawn r))
            (extent_within _ (omega arith) (item_near q (drawn r) (drawn_within r (entry_words_lem a _ _ r (s.ok.each_ok i l)))))
        go Uses z =
            let u = use_under head e a v k s i l z in
            let lower = u.lower in
            rw (items_as a (items e a f) r z, row_flashed q r.place (pose_of r) (items e a f (block_of a r.who)))
            (extent_within _ (omega arith) (moved_extent_within (pose_of r) _ (flash_within r (entry_words_lem a _ _ r (s.ok.each_ok i l))) (deeper _ u)))
        go Repeats z =
            let u = repeat_under head e a v k s i l z in
            let lower = u.lower in
            let w = repeat_steps k.height r (entry_repeat a _ _ r (s.ok.each_ok i l) z) in
            rw (items_as a (items e a f) r z, row_copies q (repeat_of r) (items e a f (body_of r)) w.nx_low w.ny_low)
            (extent_within _ (omega arith) (copied_extent_within (repeat_of r) _ w.across_in w.up_in (deeper _ u)))
        go Defines z = rw (items_as a (items e a f) r z) (none_near q)
        go Unknown z = rw (items_as a (items e a f) r z) (none_near q)

  pub rows_near : (f : ℕ) (k : Container) → Sound head e a k → k.height ≤ f → ExtentWithin (k.height * 10 ^ 16) (row_of q (items e a f k)).extent
  unfolding items
  rows_near zero k s l = let low = s.low in absurd (omega arith)
  rows_near (suc f) k s l = run_near q (k.height * 10 ^ 16) (λ i. entry_items a (items e a f) (entry_of e i)) k.first k.len
      (λ i li. entry_near k s f (λ u d. let m = d.lower in rows_near f u d.sound (omega arith)) i li)

  -- ---- how many

  pub rows_few : (f : ℕ) (k : Container) → Sound head e a k → k.height ≤ f → (row_of q (items e a f k)).count ≤ k.items
  rows_few f k s l = let n = row_few q (items e a f k) in let m = length_items head e a v f k s l in omega arith

  -- ---- the walk of a container whose lower blocks' rows are kept in t

  module _ (t : List ℕ) (room : apertures_used head ≤ length t / 6) (k : Container) (s : Sound head e a k)
      (kept : (c : ℕ) → c < apertures_used head → is_block a c ≡ true → (block_of a c).height < k.height → IsKept e a t q c) where
    -- an entry that repeats nothing
    module _ (i : ℕ) (l : i < k.len) where
      pub entry_ready : EntryReady t (entry_of e (k.first + i))
      entry_ready = record {
        uses = λ z.
            let r = entry_of e (k.first + i) in
            let ok = s.ok.each_ok i l in
            let u = entry_use a _ _ r ok z in
            let d = use_under head e a v k s i l z in
            let who = u.who_in in
            let high = d.sound.high in
            let is = (kept r.who who u.block u.lower).row_is (block_of a r.who).height (le_refl _) in
            record {
              who_in = omega arith;
              pose_in = pose_within (pose_of r) (lit≤ tt) (flash_within r (entry_words_lem a _ _ r ok));
              near = rw is (extent_within _ (omega arith) (rows_near (block_of a r.who).height (block_of a r.who) d.sound (le_refl _)));
            };
      }

      entry_is : (f : ℕ) → k.height ≤ suc f → (role_of (entry_of e (k.first + i)).kind ≡ Repeats → ⊥) →
          entry_row_at e t q (k.first + i) ≡ row_of q (entry_items a (items e a f) (entry_of e (k.first + i)))
      unfolding puts row_as row_of
      entry_is f lf single = go (role_of r.kind) refl
        where
          r : Entry
          r = entry_of e (k.first + i)

          go : (role : Role) → role_of r.kind ≡ role → entry_row t q r ≡ row_of q (entry_items a (items e a f) r)
          go Draws z = row_as_lem t q r z ∙ sym (ap (row_of q) (items_as a (items e a f) r z) ∙ row_one q (drawn r))
          go Uses z =
              let u = entry_use a _ _ r (s.ok.each_ok i l) z in
              let lower = u.lower in
              let is = (kept r.who u.who_in u.block lower).row_is f (omega arith) in
              row_as_lem t q r z ∙ ap (moved_row (pose_of r)) is
              ∙ sym (ap (row_of q) (items_as a (items e a f) r z) ∙ row_flashed q r.place (pose_of r) (items e a f (block_of a r.who)))
          go Repeats z = absurd (single z)
          go Defines z = row_as_lem t q r z ∙ sym (ap (row_of q) (items_as a (items e a f) r z))
          go Unknown z = row_as_lem t q r z ∙ sym (ap (row_of q) (items_as a (items e a f) r z))

    -- a container below the top level
    module _ (low : k.height ≤ 9) where
      no_repeat : (i : ℕ) → i < k.len → role_of (entry_of e (k.first + i)).kind ≡ Repeats → ⊥
      no_repeat i l z = let ten = (entry_repeat a _ _ (entry_of e (k.first + i)) (s.ok.each_ok i l) z).at_top in omega arith

      pub run_is : (f : ℕ) → k.height ≤ suc f → run_row e t q k ≡ row_of q (items e a (suc f) k)
      unfolding run_row items
      run_is f lf = merges_run q (entry_row_at e t q) (λ i. entry_items a (items e a f) (entry_of e i)) k.first k.len (λ i l. entry_is i l f lf (no_repeat i l))

      run_near_enough : ExtentWithin (k.height * 10 ^ 16) (run_row e t q k).extent
      run_near_enough = rw (run_is k.height (omega arith)) (rows_near (suc k.height) k s (omega arith))

      pub run_few : (run_row e t q k).count ≤ k.items
      run_few = rw (run_is k.height (omega arith)) (rows_few (suc k.height) k s (omega arith))

      pub run_close : ExtentWithin (10 ^ 17) (run_row e t q k).extent
      run_close = extent_within _ (omega arith) run_near_enough

      pub run_ready : RunReady e t q k
      unfolding run_row
      run_ready = record {
        inside = let w = s.ok.inside in let u = (rooms head e a v).0 in omega arith;
        each = entry_ready;
        counts = countable (entry_row_at e t q) k.first k.len (let n = run_few in let m = s.ok.small in omega arith);
      }

  -- ---- the walk of the top level, where the rows of all blocks are kept in t

  module _ (t : List ℕ) (room : apertures_used head ≤ length t / 6) (kept : (c : ℕ) → c < apertures_used head → is_block a c ≡ true → IsKept e a t q c) where
    -- an entry, and the body that it repeats, if it does
    module _ (i : ℕ) (l : i < (top_of head).len) (r : Entry) (here : r ≡ entry_of e ((top_of head).first + i)) where
      ok_here : ok_entry a (apertures_used head) (top_of head).height r ≡ true
      ok_here = rw here ((top_sound head e a v).ok.each_ok i l)

      module _ (z : role_of r.kind ≡ Repeats) where
        under : Under head e a (top_of head) (body_of r)
        under = rw here (repeat_under head e a v (top_of head) (top_sound head e a v) i l (rw (← here) z))

        body_low : (body_of r).height ≤ 9
        unfolding body_of
        body_low = lit≤ tt

        body_is : (f : ℕ) → (body_of r).height ≤ suc f → run_row e t q (body_of r) ≡ row_of q (items e a (suc f) (body_of r))
        body_is = run_is t room (body_of r) under.sound (λ c n b h. kept c n b) body_low

        repeats : RepeatOk (top_of head).height r
        repeats = entry_repeat a (apertures_used head) (top_of head).height r ok_here z

        body_few : (run_row e t q (body_of r)).count ≤ r.count
        unfolding body_of
        body_few = run_few t room (body_of r) under.sound (λ c n b h. kept c n b) body_low

        repeat_ready : RepeatReady e t q r
        repeat_ready =
            let o = repeats in
            let column : r.sy * (run_row e t q (body_of r)).count ≤ r.sy * r.count = mul-le-mul_left r.sy body_few in
            let whole : r.sx * (r.sy * (run_row e t q (body_of r)).count) ≤ r.sx * (r.sy * r.count) = mul-le-mul_left r.sx column in
            record {
              body = run_ready t room (body_of r) under.sound (λ c n b h. kept c n b) body_low;
              near = run_close t room (body_of r) under.sound (λ c n b h. kept c n b) body_low;
              steps = repeat_steps (top_of head).height r o;
              column = le_trans column o.column;
              whole = le_trans whole o.whole;
            }

    top_entry_ready : (i : ℕ) → i < (top_of head).len → TopEntryReady e t q (entry_of e ((top_of head).first + i))
    top_entry_ready i l = record {
      entry_ready = entry_ready t room (top_of head) (top_sound head e a v) (λ c n b h. kept c n b) i l;
      repeats = λ z. repeat_ready i l (entry_of e ((top_of head).first + i)) refl (repeat_role _ z);
    }

    top_entry_is : (i : ℕ) → i < (top_of head).len → top_row_at e t q ((top_of head).first + i) ≡ row_of q (entry_items a (items e a 9) (entry_of e ((top_of head).first + i)))
    unfolding top_entry_row puts
    top_entry_is i l = go (eqb r.kind 10) refl
      where
        r : Entry
        r = entry_of e ((top_of head).first + i)

        go : (b : Bool) → eqb r.kind 10 ≡ b → cond b (copied_row (repeat_of r) (run_row e t q (body_of r))) (entry_row t q r) ≡ row_of q (entry_items a (items e a 9) r)
        go true z =
            let role = repeat_role r.kind z in
            let w = repeat_steps (top_of head).height r (repeats i l r refl role) in
            ap (copied_row (repeat_of r)) (body_is i l r refl role 8 (body_low i l r refl role))
            ∙ sym (ap (row_of q) (items_as a (items e a 9) r role) ∙ row_copies q (repeat_of r) (items e a 9 (body_of r)) w.nx_low w.ny_low)
        go false z = entry_is t room (top_of head) (top_sound head e a v) (λ c n b h. kept c n b) i l 9 (top_sound head e a v).high
            (λ role. true≢false (sym (repeat_kind r.kind role) ∙ z))

    pub top_is : top_row e t q (top_of head) ≡ row_of q (sheet_items head e a)
    unfolding top_row sheet_items items
    top_is = merges_run q (top_row_at e t q) (λ i. entry_items a (items e a 9) (entry_of e i)) (top_of head).first (top_of head).len top_entry_is

    pub top_ready : TopReady e t q (top_of head)
    unfolding top_row sheet_items
    top_ready =
        let s = top_sound head e a v in
        record {
          inside = let w = s.ok.inside in let u = (rooms head e a v).0 in omega arith;
          each = top_entry_ready;
          counts = countable (top_row_at e t q) (top_of head).first (top_of head).len
              (let n = rows_few 10 (top_of head) s s.high in let m = s.ok.small in let is = ap (λ (r : Row). r.count) top_is in omega arith);
        }
