-- The entry that a search finds holds the item; by its role the item is drawn there, or is one of the container under it, placed.
-- Assumes nothing.
use Prim.Native.Nat.{ℕ, suc, ◌+◌, ◌-◌, ◌*◌, ◌/◌, ◌%◌, ◌≤◌, ◌<◌, ◌^◌}
use mathlib.Core.Path.{◌≡◌, refl, sym, ap, ◌∙◌}
use mathlib.Core.Bool.{Bool, true, false}
use mathlib.Core.List.{List}
use native.Mathlib.Nat.{mod-lt, mul-le-mul, div-lt_iff_lt-mul}
use native.Mathlib.Omega.{arith}
use lib.Dec.{leb, lit≤}
use lib.ListN.{length, get_or}
use borrow.Author.Tests.{le-leb, leb-true, leb-false}
use Rattle.base.specs.Run.{sums}
use Rattle.base.proofs.Run.{factor_pos, nth_map}
use Rattle.place.specs.Item.{zero_item}
use Rattle.place.specs.Placing.{placed, PoseWithin}
use Rattle.place.specs.Outer.{flashed_by}
use Rattle.place.specs.Copies.{step}
use Rattle.place.proofs.Laws.{item_within, pose_within, placed_within, flashed_within}
use Rattle.place.proofs.Copies.{nth_of_copies}
use Rattle.sheet.specs.Records.{entry_of, role_of}
use Rattle.sheet.specs.Containers.{apertures_used, block_of, body_of}
use Rattle.sheet.specs.Meaning.{drawn, pose_of, repeat_of, puts, entry_items, items}
use Rattle.sheet.specs.Valid.{far, most, size_as, size_of, size_at, ok_entry, valid}
use Rattle.sheet.specs.declared.Entry.{Entry}
use Rattle.sheet.specs.declared.Container.{Container}
use Rattle.sheet.specs.declared.Role.{Role}
use Rattle.sheet.specs.declared.Role.TheVariants.{Draws, Uses, Repeats, Defines, Unknown}
use Rattle.sheet.proofs.Conditions.{entry_words_lem, entry_repeat, drawn_within, flash_within, RepeatOk}
use Rattle.sheet.proofs.Sound.{Under, use_under, repeat_under}
use Rattle.sheet.specs.Sound.{Sound}
use Rattle.sheet.proofs.Expand.{length_items, nth_at, ends}
use Rattle.descend.specs.Search.{Found, Held, Split, copy_of, spread, HereIs, BelowIs, Descends}

-- entry r, at place i of the container k, holds item n of it
pub record Located (head e a : List ℕ) (k : Container) (n : ℕ) (r : Entry) : Type 0 where
  pub i : ℕ
  pub i_in : i < k.len
  pub here : entry_of e (k.first + i) ≡ r
  pub begins : r.before ≤ n
  pub within : n - r.before < size_of a r
  pub is : (h : ℕ) → k.height ≤ suc h →
      get_or (items e a (suc h) k) n zero_item ≡ get_or (entry_items a (items e a h) r) (n - r.before) zero_item

pub located : (e a : List ℕ) (k : Container) (n q : ℕ) (held : Held e a k n) → Found e k n q → Located held.head e a k n (entry_of e q)
located e a k n q held f =
    let s = held.sound in
    let i : ℕ = q - k.first in
    let low = f.low in
    let high = f.high in
    let begins = f.begins in
    let p : k.first + i ≡ q = omega arith in
    let li : i < k.len = omega arith in
    let before : (entry_of e q).before ≡ sums (size_at e a) k.first i = rw p at (s.ok.before_is i li) in
    let end = ends held.head e a held.ok k s i n li held.inside
    (λ l. let t : k.first + suc i ≡ q + 1 = omega arith in rw t (f.next (omega arith))) in
    let end' = rw p at end in
    let back : sums (size_at e a) k.first i + (n - (entry_of e q).before) ≡ n = omega arith in
    record {
      i = i;
      i_in = li;
      here = ap (entry_of e) p;
      begins = begins;
      within = omega arith;
      is = λ h lh. rw (back, p) at (nth_at held.head e a held.ok k s h lh i (n - (entry_of e q).before) li (rw p (omega arith)));
    }

-- how far items lie
spread_low : (h : ℕ) → h ≤ 9 → spread h ≡ h * far
unfolding spread
spread_low h l = simp (le-leb h 9 l)

spread_top : spread 10 ≡ 20_000_000_000_000_000
unfolding spread
spread_top = refl

-- a fact of every height from 1 to 10, from those below 10 and from 10
by_height : (P : ℕ → Type 0) (h : ℕ) → h ≤ 10 → (h ≤ 9 → P h) → P 10 → P h
by_height P h l low top = go (leb h 9) refl
  where
    go : (t : Bool) → leb h 9 ≡ t → P h
    go true e = low (leb-true h 9 e)
    go false e = let m = leb-false h 9 e in let q : h ≡ 10 = omega arith in rw q top

spread_drawn : (h : ℕ) → 1 ≤ h → h ≤ 10 → far ≤ spread h
spread_drawn h low high = by_height (λ h. far ≤ spread h) h high
    (λ l. rw (spread_low h l) (omega arith))
    (rw spread_top (lit≤ tt))

-- what lies under a container is lower than 10, so its items can be placed
pub spread_under : (u h : ℕ) → u < h → h ≤ 10 → spread u ≤ 10 ^ 16
spread_under u h l high = rw (spread_low u (omega arith)) (omega arith)

spread_flash : (u h : ℕ) → u < h → h ≤ 10 → spread u + far ≤ spread h
spread_flash u h l high = rw (spread_low u (omega arith))
    (by_height (λ h. u * far + far ≤ spread h) h high
    (λ m. rw (spread_low h m) (omega arith))
    (rw spread_top (omega arith)))

spread_repeat : (r : Entry) (h : ℕ) → h ≡ 10 → spread (body_of r).height + 10 ^ 16 ≤ spread h
unfolding body_of
spread_repeat r h q = rw (q, spread_top, spread_low 9 (lit≤ tt)) (lit≤ tt)

-- 9,998 steps of at most 10^12
steps_in : (i d : ℕ) → i ≤ 9998 → d ≤ most → i * d ≤ 10 ^ 16
steps_in i d l m = let p : i * d ≤ 9998 * most = mul-le-mul l m in omega arith

step_within : (r : Entry) (i j : ℕ) → i * r.cx ≤ 10 ^ 16 → j * r.cy ≤ 10 ^ 16 → PoseWithin (10 ^ 16) (step (repeat_of r) i j)
unfolding step repeat_of
step_within r i j x y = record { at_in = record { across = x; up = y }; angle_in = lit≤ tt }

module _ (head e a : List ℕ) (v : valid head e a ≡ true) (k : Container) (s : Sound head e a k) (n : ℕ) (r : Entry) (l : Located head e a k n r) where
  pub fine : ok_entry a (apertures_used head) k.height r ≡ true
  fine = rw l.here at (s.ok.each_ok l.i l.i_in)

  -- an entry that puts out nothing holds no item
  empty : {role : Role} → role_of r.kind ≡ role → size_as role a r ≡ 0 → ⊥
  unfolding size_of
  empty q z = let w : n - r.before < 0 = rw (q, z) at l.within in omega arith

  pub not_defines : role_of r.kind ≡ Defines → ⊥
  unfolding size_as
  not_defines q = empty q refl

  pub not_unknown : role_of r.kind ≡ Unknown → ⊥
  unfolding size_as
  not_unknown q = empty q refl

  pub here_is : role_of r.kind ≡ Draws → HereIs e a k n (drawn r)
  unfolding entry_items puts size_of size_as
  here_is q =
      let w : n - r.before < 1 = rw q at l.within in
      let z : n - r.before ≡ 0 = omega arith in
      record {
        near = item_within (drawn r) (spread_drawn k.height s.low s.high) (drawn_within r (entry_words_lem a _ _ r fine));
        is = λ h lh. sym (l.is h lh ∙ rw (q, z));
      }

  pub use_is : role_of r.kind ≡ Uses → BelowIs e a k n (block_of a r.who) (n - r.before) (pose_of r) (flashed_by r.place (pose_of r))
  unfolding entry_items puts size_of size_as
  use_is q =
      let u : Under head e a k (block_of a r.who) = rw l.here at (use_under head e a v k s l.i l.i_in (rw l.here q)) in
      let w : n - r.before < (block_of a r.who).items = rw q at l.within in
      let pose = flash_within r (entry_words_lem a _ _ r fine) in
      let lower = u.lower in
      record {
        held = record { head = head; ok = v; sound = u.sound; inside = w };
        lower = lower;
        pose_in = pose_within (pose_of r) (lit≤ tt) pose;
        near = λ t near. item_within (flashed_by r.place (pose_of r) t) (spread_flash _ k.height lower s.high) (flashed_within _ far (pose_of r) pose r.place t near);
        is = λ h lh.
            let long = length_items head e a v h (block_of a r.who) u.sound (omega arith) in
            sym (l.is h lh ∙ rw q (nth_map (flashed_by r.place (pose_of r)) (items e a h (block_of a r.who)) (n - r.before) zero_item zero_item (omega arith)));
      }

  module _ (q : role_of r.kind ≡ Repeats) where
    repeats : RepeatOk k.height r
    repeats = entry_repeat a _ _ r fine q

    copies_hold : n - r.before < r.sx * (r.sy * r.count)
    unfolding size_of size_as
    copies_hold = rw q at l.within

    pub splits : Split r (n - r.before)
    splits =
        let j : ℕ = n - r.before in
        let o = repeats in
        let col : 0 < r.sy * r.count = factor_pos j r.sx (r.sy * r.count) copies_hold in
        let in-col : j % (r.sy * r.count) < r.sy * r.count = mod-lt j col in
        let some : 0 < r.count = factor_pos _ r.sy r.count in-col in
        let x : j / (r.sy * r.count) < r.sx = (div-lt_iff_lt-mul col).1 copies_hold in
        let y : j % (r.sy * r.count) / r.count < r.sy = (div-lt_iff_lt-mul some).1 in-col in
        let nx = o.counts.nx_high in
        let ny = o.counts.ny_high in
        record {
          some = some;
          column_some = col;
          column_in = o.column;
          step_x = steps_in _ _ (omega arith) o.dx_in;
          step_y = steps_in _ _ (omega arith) o.dy_in;
        }

    body_items : r.count ≡ (body_of r).items
    unfolding body_of
    body_items = refl

    copies_nth : (h : ℕ) → length (items e a h (body_of r)) ≡ r.count →
        get_or (entry_items a (items e a h) r) (n - r.before) zero_item
        ≡ placed (step (repeat_of r) ((n - r.before) / (r.sy * r.count)) ((n - r.before) % (r.sy * r.count) / r.count))
        (get_or (items e a h (body_of r)) ((n - r.before) % (r.sy * r.count) % r.count) zero_item)
    unfolding entry_items puts repeat_of
    copies_nth h long = rw q (nth_of_copies (repeat_of r) (items e a h (body_of r)) r.count long zero_item (n - r.before) copies_hold)

    pub repeat_is : Descends e a k n (copy_of r (n - r.before))
    unfolding copy_of
    repeat_is =
        let j : ℕ = n - r.before in
        let i : ℕ = j / (r.sy * r.count) in
        let p : ℕ = j % (r.sy * r.count) / r.count in
        let d = splits in
        let u : Under head e a k (body_of r) = rw l.here at (repeat_under head e a v k s l.i l.i_in (rw l.here q)) in
        let pose = step_within r i p d.step_x d.step_y in
        record {
          held = record { head = head; ok = v; sound = u.sound; inside = rw (← body_items) (mod-lt _ d.some) };
          lower = u.lower;
          pose_in = pose;
          near = λ t near. item_within (placed (step (repeat_of r) i p) t) (spread_repeat r k.height repeats.at_top)
              (placed_within _ (10 ^ 16) (step (repeat_of r) i p) pose t near);
          is = λ h lh. let lower = u.lower in sym (l.is h lh ∙ copies_nth h (length_items head e a v h (body_of r) u.sound (omega arith) ∙ sym body_items));
        }
