-- What an entry adds to the rows of the aperture records, and what a run of entries and the top level do, entry by entry.
-- Assumes nothing.
use Prim.Native.Nat.{ℕ, suc, ◌+◌, ◌*◌, ◌/◌, ◌≤◌, ◌<◌, ◌^◌}
use mathlib.Core.Path.{◌≡◌, refl, sym, ap, subst, ◌∙◌}
use mathlib.Core.Bool.{Bool, true, false, cond}
use mathlib.Core.List.{List, []}
use native.Mathlib.Nat.{not-suc-le-zero}
use native.Mathlib.Omega.{arith}
use lib.Dec.{eqb, leb}
use lib.ListN.{length}
use borrow.Author.Count.{below_more}
use borrow.Author.Tests.{eqb-true, eqb-false, ne_eqb, le-leb, lt-leb, leb-true, leb-false}
use Rattle.base.specs.And.{◌and◌}
use Rattle.base.specs.Or.{◌or◌}
use Rattle.base.proofs.And.{false_and, and_false}
use Rattle.place.specs.Item.{is_oriented}
use Rattle.place.specs.declared.Repeat.{Repeat}
use Rattle.sheet.specs.Records.{stored, role_of, entry_of, aperture_of}
use Rattle.sheet.specs.Containers.{body_of}
use Rattle.sheet.specs.Meaning.{drawn, pose_of, repeat_of}
use Rattle.sheet.specs.declared.Entry.{Entry}
use Rattle.sheet.specs.declared.Container.{Container}
use Rattle.sheet.specs.declared.Role.{Role}
use Rattle.sheet.specs.declared.Role.TheVariants.{Draws, Uses, Repeats, Defines, Unknown}
use Rattle.sheet.proofs.Apertures.{aperture_number_lem}
use Rattle.sheet.proofs.Every.{sums_grow}
use Rattle.summary_rows.specs.Rows.{no_row, merged, moved_row, copied_row, ExtentWithin}
use Rattle.summary_rows.specs.Summed.{asks, item_row}
use Rattle.summary_rows.specs.declared.Row.{Row}
use Rattle.summary_rows.specs.declared.Asked.{Asked}
use Rattle.summary_rows.specs.declared.Asked.TheVariants.{Aperture}
use Rattle.summary_rows.proofs.Rows.{merged_none, merged_assoc, moved_none, extent_within}
use Rattle.summary_by_aperture.specs.Kept.{kept_width, extent_if, kept_words, row_at}
use Rattle.summary_by_aperture.specs.Walk.{merges, row_as, entry_row, entry_row_at, run_row, top_entry_row, top_row_at, top_row}
use Rattle.summary_by_aperture.proofs.Kept.{kept_read, kept_other}
use Rattle.summary_by_aperture.proofs.Walk.{merges_snoc, merges_none, merges_more, row_as_lem}
use Rattle.summary_by_aperture.proofs.Rows.{merges_count}
use Rattle.summary.specs.Links.{record_of, is_linked}
use Rattle.summary.specs.Adds.{asked_by, Adds, Room, Copies, single, Near, RunNear, EntryNear, NoFlash, RunFree, EntryFree, TopFree, TopReady, Gathered}
use Rattle.summary.proofs.Links.{record_sound, number_other, number_none}
use Rattle.summary.proofs.Copied.{copied_merged, copied_none, copied_count, copied_near, single_row, single_copies, joined_near, merges_near}

-- ---- an entry that draws nothing for an aperture

-- of a block's row nothing is kept
pub kept_nothing : (b : ℕ) → row_at [] b ≡ no_row
unfolding row_at extent_if no_row
kept_nothing b = refl

no_draw : (r : Entry) (k : ℕ) → (role_of r.kind ≡ Draws → (is_oriented r.kind and eqb r.who k) ≡ false) → entry_row [] (Aperture k) r ≡ no_row
unfolding row_as item_row asks drawn
no_draw r k h = go (role_of r.kind) refl
  where
    go : (role : Role) → role_of r.kind ≡ role → entry_row [] (Aperture k) r ≡ no_row
    go Draws z = row_as_lem [] (Aperture k) r z ∙ rw (h z)
    go Uses z = row_as_lem [] (Aperture k) r z ∙ ap (moved_row (pose_of r)) (kept_nothing r.who) ∙ moved_none (pose_of r)
    go Repeats z = row_as_lem [] (Aperture k) r z
    go Defines z = row_as_lem [] (Aperture k) r z
    go Unknown z = row_as_lem [] (Aperture k) r z

other_kind : (r : Entry) → (eqb r.kind 0 or leb 5 r.kind) ≡ true → (k : ℕ) → entry_row [] (Aperture k) r ≡ no_row
unfolding ◌or◌ is_oriented role_of
other_kind r t k = no_draw r k (λ z. go (eqb r.kind 0) refl t z)
  where
    go : (u : Bool) → eqb r.kind 0 ≡ u → (u or leb 5 r.kind) ≡ true → role_of r.kind ≡ Draws → (is_oriented r.kind and eqb r.who k) ≡ false
    go true e h z = absurd (let w : role_of 0 ≡ Draws = subst (λ (j : ℕ). role_of j ≡ Draws) (eqb-true r.kind 0 e) z in let c : ◌≡◌ {A = ℕ} 0 1 = cc in omega arith)
    go false e h z = let big : 5 ≤ r.kind = leb-true 5 r.kind h in rw (lt-leb r.kind 4 (omega arith)) (false_and _)

other_number : (r : Entry) (k : ℕ) → (r.who ≡ k → ⊥) → entry_row [] (Aperture k) r ≡ no_row
other_number r k ne = no_draw r k (λ z. rw (ne_eqb _ _ ne) (and_false _))

-- ---- what it adds

module _ (a s : List ℕ) (n : ℕ) (m : Repeat) (r : Entry) where
  nothing_here : (b : ℕ) → entry_row [] (asked_by a b) r ≡ no_row → row_at s b ≡ merged (row_at s b) (copied_row m (entry_row [] (asked_by a b) r))
  nothing_here b h = sym (ap (merged (row_at s b)) (ap (copied_row m) h ∙ copied_none m) ∙ merged_none (row_at s b))

  pub adds_other : (eqb r.kind 0 or leb 5 r.kind) ≡ true → Adds a n (λ q. copied_row m (entry_row [] q r)) s s
  adds_other t = record { rows = λ b l. nothing_here b (other_kind r t _) }

  pub adds_missing : is_linked a n ≡ true → n ≤ record_of a n r.who → Adds a n (λ q. copied_row m (entry_row [] q r)) s s
  adds_missing linked h = record {
    rows = λ b l. nothing_here b (other_number r _ (λ (q : r.who ≡ (aperture_of a b).number). number_none a n linked r.who b l h (sym (aperture_number_lem a b) ∙ sym q)));
  }

  module _ (room : Room a n (λ q. copied_row m (entry_row [] q r)) s) (copies : Copies m) (near : Near r) (found : record_of a n r.who < n)
      (low : (eqb r.kind 0 or leb 5 r.kind) ≡ false) where
    abbrev pub x : ℕ
    x = record_of a n r.who

    abbrev pub one : Row
    one = copied_row m (item_row (Aperture r.who) (drawn r))

    draws : role_of r.kind ≡ Draws
    unfolding ◌or◌ role_of
    draws = go (eqb r.kind 0) refl low
      where
        go : (u : Bool) → eqb r.kind 0 ≡ u → (u or leb 5 r.kind) ≡ false →
            cond u Unknown (cond (leb r.kind 8) Draws (cond (eqb r.kind 9) Uses (cond (eqb r.kind 10) Repeats (cond (eqb r.kind 11) Defines Unknown)))) ≡ Draws
        go true e h = absurd (let c : ◌≡◌ {A = ℕ} 0 1 = cc in omega arith)
        go false e h = let small : r.kind < 5 = leb-false 5 r.kind h in rw (le-leb r.kind 8 (omega arith))

    is_row : (q : Asked) → entry_row [] q r ≡ item_row q (drawn r)
    unfolding row_as
    is_row q = row_as_lem [] q r draws

    number_is : (aperture_of a x).number ≡ r.who
    number_is = aperture_number_lem a x ∙ record_sound a n r.who found

    pub one_is : one ≡ copied_row m (entry_row [] (asked_by a x) r)
    one_is = ap (copied_row m) (ap (λ (k : ℕ). item_row (Aperture k) (drawn r)) (sym number_is) ∙ sym (is_row (asked_by a x)))

    pub one_few : (row_at s x).count + one.count ≤ 10 ^ 12
    one_few = let e = ap (λ (t : Row). t.count) one_is in let w = room.few x found in omega arith

    pub one_near : ExtentWithin (10 ^ 17) one.extent
    one_near = rw one_is (copied_near m copies (entry_row [] (asked_by a x) r) (near.row_near (asked_by a x)))

    item_is : item_row (Aperture r.who) (drawn r) ≡ entry_row [] (Aperture r.who) r
    item_is = sym (is_row (Aperture r.who))

    pub item_near : ExtentWithin (10 ^ 17) (item_row (Aperture r.who) (drawn r)).extent
    item_near = rw item_is (extent_within _ (omega arith) (near.row_near (Aperture r.who)))

    pub item_one : (item_row (Aperture r.who) (drawn r)).count ≤ 1
    item_one = rw item_is (near.row_one (Aperture r.who))

    pub adds_found : Adds a n (λ q. copied_row m (entry_row [] q r)) s (stored s (x * kept_width) (kept_words (merged (row_at s x) one)))
    adds_found = record { rows = λ b l. go b l (eqb b x) refl }
      where
        fits : x < length s / kept_width
        fits = let w = room.fits in let f : x < n = found in omega arith

        s' : List ℕ
        s' = stored s (x * kept_width) (kept_words (merged (row_at s x) one))

        here : row_at s' x ≡ merged (row_at s x) (copied_row m (entry_row [] (asked_by a x) r))
        here = kept_read s x (merged (row_at s x) one) fits (joined_near (row_at s x) one (room.near x found) one_near) ∙ ap (merged (row_at s x)) one_is

        go : (b : ℕ) → b < n → (t : Bool) → eqb b x ≡ t → row_at s' b ≡ merged (row_at s b) (copied_row m (entry_row [] (asked_by a b) r))
        go b l true e = subst (λ (c : ℕ). row_at s' c ≡ merged (row_at s c) (copied_row m (entry_row [] (asked_by a c) r))) (sym (eqb-true b x e)) here
        go b l false e =
            kept_other s x (merged (row_at s x) one) fits b (eqb-false b x e)
            ∙ nothing_here b (other_number r _ (λ (q : r.who ≡ (aperture_of a b).number). number_other a n room.linked r.who b l (eqb-false b x e) (sym (aperture_number_lem a b) ∙ sym q)))

-- ---- rows that grow

merges_grow : (F : ℕ → Row) (p i n : ℕ) → i ≤ n → (merges F p i).count ≤ (merges F p n).count
merges_grow F p i n h =
    let g = sums_grow (λ (j : ℕ). (F j).count) p i n h in
    let c = merges_count F p i in
    let d = merges_count F p n in
    omega arith

-- where what is added is said in another way
pub adds_same : {a : List ℕ} {n : ℕ} {G H : Asked → Row} {s s' : List ℕ} → ((q : Asked) → G q ≡ H q) → Adds a n G s s' → Adds a n H s s'
adds_same {a} h w = record { rows = λ b l. w.rows b l ∙ ap (merged _) (h (asked_by a b)) }

pub room_same : {a : List ℕ} {n : ℕ} {G H : Asked → Row} {s : List ℕ} → ((q : Asked) → G q ≡ H q) → Room a n G s → Room a n H s
room_same {a} h w = record {
  apertures = w.apertures;
  linked = w.linked;
  fits = w.fits;
  few = λ b l. let e = ap (λ (t : Row). t.count) (h (asked_by a b)) in let f = w.few b l in omega arith;
  near = w.near;
}

-- ---- a run of entries

module _ (e a : List ℕ) (n : ℕ) (m : Repeat) (p : ℕ) (s₀ : List ℕ) where
  -- i entries are passed
  pub record RunGone (i : ℕ) (s : List ℕ) : Type 0 where
    pub free : (j : ℕ) → j < i → NoFlash (entry_of e (p + j))
    pub rows : (b : ℕ) → b < n → row_at s b ≡ merged (row_at s₀ b) (copied_row m (merges (entry_row_at e [] (asked_by a b)) p i))

  pub run_start : RunGone 0 s₀
  run_start = record {
    free = λ j l. absurd (not-suc-le-zero l);
    rows = λ b l. sym (ap (merged (row_at s₀ b)) (ap (copied_row m) (merges_none (entry_row_at e [] (asked_by a b)) p) ∙ copied_none m) ∙ merged_none (row_at s₀ b));
  }

module _ (e a : List ℕ) (n : ℕ) (m : Repeat) (k : Container) (s₀ : List ℕ) where
  module _ (room : Room a n (λ q. copied_row m (run_row e [] q k)) s₀) (copies : Copies m) (near : RunNear e k) (i : ℕ) (s : List ℕ) (gone : RunGone e a n m k.first s₀ i s) where
    module _ (l : i < k.len) where
      few_more : (b : ℕ) → b < n → (row_at s b).count + (copied_row m (entry_row [] (asked_by a b) (entry_of e (k.first + i)))).count ≤ 10 ^ 12
      unfolding merged run_row
      few_more b lb =
          let F : ℕ → Row = entry_row_at e [] (asked_by a b) in
          let here = ap (λ (t : Row). t.count) (gone.rows b lb) in
          let both = ap (λ (t : Row). t.count) (copied_merged m (merges F k.first i) (F (k.first + i))) in
          let more = ap (λ (t : Row). (copied_row m t).count) (merges_snoc F k.first i) in
          let all = copied_count m (merges F k.first (suc i)) (merges F k.first k.len) (merges_grow F k.first (suc i) k.len l) in
          let w = room.few b lb in
          omega arith

      near_now : (b : ℕ) → b < n → ExtentWithin (10 ^ 17) (row_at s b).extent
      near_now b lb = rw (gone.rows b lb)
          (joined_near (row_at s₀ b) _ (room.near b lb)
          (copied_near m copies _ (merges_near (10 ^ 15) (entry_row_at e [] (asked_by a b)) k.first i (λ j lj. (near.each j (omega arith)).row_near (asked_by a b)))))

      pub run_room : length s ≡ length s₀ → Room a n (λ q. copied_row m (entry_row [] q (entry_of e (k.first + i)))) s
      run_room long = record {
        apertures = room.apertures;
        linked = room.linked;
        fits = rw long room.fits;
        few = few_more;
        near = near_now;
      }

    pub run_more : (s' : List ℕ) → NoFlash (entry_of e (k.first + i)) → Adds a n (λ q. copied_row m (entry_row [] q (entry_of e (k.first + i)))) s s' → RunGone e a n m k.first s₀ (i + 1) s'
    run_more s' clean w = record {
      free = below_more _ _ gone.free clean;
      rows = λ b lb.
          let F : ℕ → Row = entry_row_at e [] (asked_by a b) in
          w.rows b lb
          ∙ ap (λ (t : Row). merged t (copied_row m (F (k.first + i)))) (gone.rows b lb)
          ∙ merged_assoc (row_at s₀ b) (copied_row m (merges F k.first i)) (copied_row m (F (k.first + i)))
          ∙ ap (merged (row_at s₀ b)) (sym (copied_merged m (merges F k.first i) (F (k.first + i))) ∙ ap (copied_row m) (merges_more F k.first i));
    }

  pub run_done : (s : List ℕ) → RunGone e a n m k.first s₀ k.len s → RunFree e k × Adds a n (λ q. copied_row m (run_row e [] q k)) s₀ s
  unfolding run_row
  run_done s gone = (record { each = gone.free }, record { rows = gone.rows })

-- ---- an entry of the top level

module _ (e : List ℕ) (r : Entry) where
  pub repeat_row : eqb r.kind 10 ≡ true → (q : Asked) → top_entry_row e [] q r ≡ copied_row (repeat_of r) (run_row e [] q (body_of r))
  unfolding top_entry_row
  repeat_row z q = rw z

  pub other_row : eqb r.kind 10 ≡ false → (q : Asked) → top_entry_row e [] q r ≡ copied_row single (entry_row [] q r)
  unfolding top_entry_row
  other_row z q = rw z (sym (single_row (entry_row [] q r)))

  pub repeat_free : eqb r.kind 10 ≡ true → RunFree e (body_of r) → EntryFree e r
  repeat_free z w = record {
    itself = record { none = λ (q : r.kind ≡ 9). let ten : r.kind ≡ 10 = eqb-true _ _ z in omega arith };
    body = λ y. w;
  }

  pub other_free : eqb r.kind 10 ≡ false → NoFlash r → EntryFree e r
  other_free z w = record { itself = w; body = λ y. absurd (let c : ◌≡◌ {A = ℕ} 0 1 = cc in omega arith) }

  top_near : EntryNear e r → (q : Asked) → ExtentWithin (10 ^ 17) (top_entry_row e [] q r).extent
  unfolding run_row
  top_near w q = go (eqb r.kind 10) refl
    where
      go : (t : Bool) → eqb r.kind 10 ≡ t → ExtentWithin (10 ^ 17) (top_entry_row e [] q r).extent
      go true z = rw (repeat_row z q) (copied_near (repeat_of r) (w.copies z) _
          (merges_near (10 ^ 15) (entry_row_at e [] q) (body_of r).first (body_of r).len (λ j l. ((w.body z).each j l).row_near q)))
      go false z = rw (other_row z q) (copied_near single single_copies (entry_row [] q r) (w.near.row_near q))

-- ---- the top level

module _ (e a : List ℕ) (n p : ℕ) where
  pub record TopGone (i : ℕ) (s : List ℕ) : Type 0 where
    pub free : (j : ℕ) → j < i → EntryFree e (entry_of e (p + j))
    pub rows : (b : ℕ) → b < n → row_at s b ≡ merges (top_row_at e [] (asked_by a b)) p i

module _ (e a : List ℕ) (n : ℕ) (k : Container) (s₀ : List ℕ) (ready : TopReady e a n k s₀) where
  pub top_start : TopGone e a n k.first 0 s₀
  top_start = record {
    free = λ j l. absurd (not-suc-le-zero l);
    rows = λ b l. ready.empty b l ∙ sym (merges_none (top_row_at e [] (asked_by a b)) k.first);
  }

  module _ (i : ℕ) (s : List ℕ) (gone : TopGone e a n k.first i s) where
    pub top_room : i < k.len → length s ≡ length s₀ → Room a n (λ q. top_entry_row e [] q (entry_of e (k.first + i))) s
    unfolding merged
    top_room l long = record {
      apertures = ready.apertures;
      linked = ready.linked;
      fits = rw long ready.fits;
      few = λ b lb.
          let F : ℕ → Row = top_row_at e [] (asked_by a b) in
          let here = ap (λ (t : Row). t.count) (gone.rows b lb) in
          let more = ap (λ (t : Row). t.count) (merges_snoc F k.first i) in
          let w = (ready.counts (asked_by a b)).few (suc i) l in
          omega arith;
      near = λ b lb. rw (gone.rows b lb) (merges_near (10 ^ 17) (top_row_at e [] (asked_by a b)) k.first i (λ j lj. top_near e _ (ready.each j (omega arith)) (asked_by a b)));
    }

    pub top_more : (s' : List ℕ) → EntryFree e (entry_of e (k.first + i)) → Adds a n (λ q. top_entry_row e [] q (entry_of e (k.first + i))) s s' → TopGone e a n k.first (i + 1) s'
    top_more s' clean w = record {
      free = below_more _ _ gone.free clean;
      rows = λ b lb.
          let F : ℕ → Row = top_row_at e [] (asked_by a b) in
          w.rows b lb ∙ ap (λ (t : Row). merged t (F (k.first + i))) (gone.rows b lb) ∙ merges_more F k.first i;
    }

  pub top_done : (s : List ℕ) → TopGone e a n k.first k.len s → TopFree e k × Gathered e a n k s
  unfolding top_row
  top_done s gone = (record { each = gone.free }, record { rows = gone.rows })
