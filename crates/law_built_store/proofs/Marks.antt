-- Each mark that is put, or closes what is open, is shown by the store after those before it.
-- Assumes nothing.
use Prim.Native.Nat.{ℕ, suc, ◌+◌, ◌%◌, ◌≤◌, ◌<◌}
use mathlib.Core.Path.{◌≡◌, refl}
use mathlib.Core.Bool.{Bool, true, false, cond}
use mathlib.Core.List.{List, [], ◌∷◌, ◌++◌}
use native.Mathlib.Numerals.{add-one}
use native.Mathlib.Omega.{arith}
use lib.Dec.{leb}
use borrow.Author.Tests.{leb-true, leb-false, le-leb}
use Rattle.base.proofs.And.{and_i}
use Rattle.place.specs.declared.Item.{Item}
use Rattle.place.specs.declared.Pose.{Pose}
use Rattle.place.specs.declared.Repeat.{Repeat}
use Rattle.place.specs.Parts.{none, item}
use Rattle.place.specs.Mark.{Mark, flash, begin, block, repeat, edges, Sheet, put, marked, written}
use Rattle.place.specs.Placing.{quarter_turn, PoseWithin, ItemWithin}
use Rattle.place.proofs.Marks.{written_append}
use Rattle.sheet.specs.Records.{entry_room, aperture_of, role_of}
use Rattle.sheet.specs.Containers.{block_of}
use Rattle.sheet.specs.Meaning.{repeat_of}
use Rattle.sheet.specs.Valid.{most, far, is_block, ok_counts}
use Rattle.sheet.specs.declared.Entry.{Entry}
use Rattle.build.specs.Stack.{pushed}
use Rattle.law_open_store.proofs.Grow.{MayRise, stays_as_high}
use Rattle.law_open_store.proofs.Push.{Pushed, push_item, push_flash, open_block_lem, open_repeat}
use Rattle.build.specs.declared.Builder.{Builder}
use Rattle.build.specs.Entries.{item_entry, use_entry, block_entry, repeat_entry}
use Rattle.build.specs.Builder.{raised, grown, inner}
use Rattle.law_built_store.specs.Shown.{blank, Holds}
use Rattle.law_built_store.proofs.Entries.{item_shows, item_role, item_ok, pose_shows, use_ok, pushed_is}

-- a mark that is no edge is written after the others
pub one_more : (ms : List Mark) (m : Mark) → edges (m ∷ []) ≡ 0 → written (ms ++ m ∷ []) blank ≡ marked m [] (written ms blank)
unfolding written
one_more ms m q = written_append ms (m ∷ []) blank q

pub item_before : (before : ℕ) (t : Item) → (item_entry before t).before ≡ before
unfolding item_entry
item_before before t = refl

-- a flashed block is lower than what it is flashed in, which is raised for it
raised_above : (h k : ℕ) → k < raised h k
unfolding raised
raised_above h k = go (leb h k) refl
  where
    go : (x : Bool) → leb h k ≡ x → k < cond x (k + 1) h
    go true q = omega arith
    go false q = leb-false h k q

pub raised_rises : (h k : ℕ) → k ≤ 8 → (h ≤ 8 → k ≤ 7) → MayRise h (raised h k)
unfolding raised
raised_rises h k eight lower = go (leb h k) refl
  where
    go : (x : Bool) → leb h k ≡ x → MayRise h (cond x (k + 1) h)
    go true q =
        let l : h ≤ k = leb-true h k q in
        let low = lower (omega arith) in
        record { rises = omega arith; stays = λ m. absurd (omega arith); lower = λ m. omega arith }
    go false q = stays_as_high h

module _ (s : Sheet) (e a : List ℕ) (room n : ℕ) (b : Builder) (holds : Holds s e a room n b) (left : b.closed + b.high < entry_room e) where
  fits : b.closed + b.high < room
  fits = rw holds.as_long at left

  pushes : (r : Entry) → Pushed e (pushed e b.high r) room b.high r
  pushes r = rw holds.as_long at (pushed_is e b.high r (omega arith))

  -- an item
  pub puts_item : (t : Item) → ItemWithin far t → 1 ≤ t.kind → t.kind ≤ 8 → t.place ≡ t.outer →
      Holds (put (item t none) s) (pushed e b.high (item_entry b.items t)) a room n (grown b 1 b.height)
  unfolding grown
  puts_item t w low high own =
      rw (item_shows b.items t w own, ← add-one b.high) at
      (push_item s e a room n b.closed b.high b.start b.height b.items holds (item_entry b.items t) _
      (pushes (item_entry b.items t)) fits
      (item_role b.items t w low high) (item_before b.items t) (item_ok b.items t w a n b.height low high))

  -- a flash of a block, which makes the open one no higher than 8
  pub puts_flash : (who : ℕ) (m : Pose) (place : ℕ) → PoseWithin far m → m.angle % quarter_turn ≡ 0 → who < n → is_block a who ≡ true → (block_of a who).height ≤ 8 →
      (b.height ≤ 8 → (block_of a who).height ≤ 7) →
      Holds (marked (flash (aperture_of a who).number m place) [] s) (pushed e b.high (use_entry b.items who m place)) a room n
      (grown b (block_of a who).items (raised b.height (block_of a who).height))
  unfolding grown marked use_entry role_of
  puts_flash who m place w quarters l q eight lower =
      rw (pose_shows b.items who m place w, ← add-one b.high) at
      (push_flash s e a room n b.closed b.high b.start b.height b.items holds (use_entry b.items who m place) _
      (pushes (use_entry b.items who m place)) fits
      (raised b.height (block_of a who).height) refl l q (raised_rises b.height (block_of a who).height eight lower) refl
      (use_ok b.items who m place w a n (raised b.height (block_of a who).height) l q (raised_above b.height (block_of a who).height) quarters))

  -- a block that opens in the next aperture record
  pub opens_block : (m place : ℕ) (a' : List ℕ) → ((c : ℕ) → c < n → aperture_of a c ≡ aperture_of a' c) → (aperture_of a' n).number ≡ m → is_block a' n ≡ false →
      ((c d : ℕ) → c < suc n → d < suc n → (aperture_of a' c).number ≡ (aperture_of a' d).number → c ≡ d) →
      Holds (marked (begin (block m)) [] s) (pushed e b.high (block_entry b.items n b.start b.height place)) a' room (suc n) (inner b 1)
  unfolding inner block_entry
  opens_block m place a' same number not-block distinct =
      rw (← add-one b.high) at
      (open_block_lem s e a room n b.closed b.high b.start b.height b.items holds (block_entry b.items n b.start b.height place) _
      (pushes (block_entry b.items n b.start b.height place)) fits
      m a' refl refl refl refl same number not-block distinct)

  -- a repeat that opens at the top level
  pub opens_repeat : (r : Repeat) (place : ℕ) → b.height ≡ 10 → 1 ≤ r.nx → r.nx ≤ 9999 → 1 ≤ r.ny → r.ny ≤ 9999 → r.dx ≤ most → r.dy ≤ most →
      Holds (marked (begin (repeat r)) [] s) (pushed e b.high (repeat_entry b.items b.start r place)) a room n (inner b 9)
  unfolding inner repeat_entry repeat_of ok_counts
  opens_repeat r place ten nx nx' ny ny' dx dy =
      rw (← add-one b.high) at
      (open_repeat s e a room n b.closed b.high b.start b.height b.items holds (repeat_entry b.items b.start r place) _
      (pushes (repeat_entry b.items b.start r place)) fits
      r ten refl refl (and_i _ _ (and_i _ _ (le-leb _ _ nx) (le-leb _ _ nx')) (and_i _ _ (le-leb _ _ ny) (le-leb _ _ ny'))) dx dy refl)
