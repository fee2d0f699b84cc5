-- A mark that puts an entry on the stack keeps what holds: an item, a flash of a block, a block or a repeat that opens.
-- Assumes nothing.
use Prim.Native.Nat.{ℕ, suc, ◌+◌, ◌-◌, ◌≤◌, ◌<◌}
use mathlib.Core.Path.{◌≡◌, refl, sym, ap, ◌∙◌}
use mathlib.Core.Bool.{true, false}
use mathlib.Core.List.{List, []}
use native.Mathlib.Nat.{zero-add, add-zero, le_refl}
use native.Mathlib.Omega.{arith}
use lib.Dec.{lit≤}
use Rattle.base.specs.Run.{sums}
use Rattle.base.proofs.Run.{sums_cong, sums_snoc}
use Rattle.place.specs.Parts.{none, item, flashed, pieces}
use Rattle.place.specs.declared.Repeat.{Repeat}
use Rattle.place.specs.Mark.{begin, block, repeat, Sheet, parts_of, put, marked}
use Rattle.sheet.specs.Records.{entry_of, aperture_of, role_of, entry_room}
use Rattle.sheet.specs.Containers.{block_of}
use Rattle.sheet.specs.Meaning.{drawn, pose_of, repeat_of}
use Rattle.sheet.specs.Valid.{most, is_block, ok_counts, ok_entry, size_as, size_of, block_length}
use Rattle.sheet.specs.declared.Entry.{Entry}
use Rattle.sheet.specs.declared.Role.TheVariants.{Draws, Uses, Repeats}
use Rattle.sheet.proofs.Build.{ok_none}
use Rattle.sheet.specs.Open.{stacked, open_parts}
use Rattle.sheet.specs.Parts.{part_as, part_of, parts}
use Rattle.law_open_store.specs.Open.{Level, Opened, Built}
use Rattle.law_open_store.proofs.Frame.{Agrees, block_kept, fuel}
use Rattle.law_open_store.proofs.Same.{opened_same}
use Rattle.law_open_store.proofs.Grow.{MayRise}
use Rattle.law_open_store.proofs.Steps.{same_kind, same_block, built_same, built_grow, item_grow}

uses_repeat_not : Uses ≡ Repeats → ⊥
uses_repeat_not q = let z : ◌≡◌ {A = ℕ} 0 1 = cc in omega arith

-- a container that just opened
nothing_yet : (e a : List ℕ) (room n start h : ℕ) → Level e a room n start (start - start) h 0 none
unfolding open_parts pieces
nothing_yet e a room n start h =
    let at-start : start - start ≡ 0 = omega arith in
    rw at-start (record { ok = ok_none a n h (stacked e room start); shows = refl })

-- an aperture more that is no block adds no length
pub lengths_added : (a a' : List ℕ) (n : ℕ) → ((b : ℕ) → b < n → aperture_of a b ≡ aperture_of a' b) → is_block a' n ≡ false → sums (block_length a') 0 (suc n) ≡ sums (block_length a) 0 n
unfolding block_length
lengths_added a a' n same not-block =
    let each = sums_cong (block_length a) (block_length a') 0 n (λ i l. rw (zero-add i, same_kind a a' i (same i l), same_block a a' i (same i l))) in
    sums_snoc (block_length a') 0 n ∙ rw (zero-add n, not-block, add-zero) (sym each)

-- an entry stored in the next place of the stack
pub record Pushed (e e' : List ℕ) (room high : ℕ) (r : Entry) : Type 0 where
  pub as_long : entry_room e' ≡ entry_room e
  pub new : entry_of e' (room - suc high) ≡ r
  pub kept : (j : ℕ) → (j ≡ room - suc high → ⊥) → entry_of e' j ≡ entry_of e j

module _ (s : Sheet) (e a : List ℕ) (room n closed high start h t : ℕ) (built : Built s e a room n closed high start h t)
    (r : Entry) (e' : List ℕ) (pushed : Pushed e e' room high r) (left : closed + high < room) where
  agrees : (limit : ℕ) (a' : List ℕ) → ((b : ℕ) → b < n → aperture_of a b ≡ aperture_of a' b) → limit ≤ n → Agrees room closed high n limit e a e' a'
  agrees limit a' same low = record {
    same_closed = λ i l. sym (pushed.kept i (λ q. let z : i ≡ room - suc high = q in absurd (omega arith)));
    same_stack = λ p l. sym (pushed.kept (room - suc p) (λ q. let z : room - suc p ≡ room - suc high = q in absurd (omega arith)));
    same_blocks = λ b l q. same b l;
    same_open = λ b l. same b (omega arith);
  }

  kept : Built s e' a room n closed high start h t
  kept = built_same s e a room n closed high start h t built n e' a (agrees n a (λ b l. refl) (le_refl _)) (pushed.as_long ∙ built.as_long) (le_refl _)
      (λ b l m. absurd (omega arith)) built.distinct refl

  -- an item
  pub push_item : role_of r.kind ≡ Draws → r.before ≡ t → ok_entry a n h r ≡ true →
      Built (put (item (drawn r) none) s) e' a room n closed (suc high) start h (t + 1)
  push_item role b ok = item_grow s e' a room n closed high start h t kept r pushed.new left role b ok

  -- a flash of the block in aperture record r .who
  pub push_flash : (h' : ℕ) → role_of r.kind ≡ Uses → r.who < n → is_block a r.who ≡ true → MayRise h h' → r.before ≡ t → ok_entry a n h' r ≡ true →
      Built (put (flashed r.place (pose_of r) (parts_of (aperture_of a r.who).number s.blocks) none) s) e' a room n closed (suc high) start h' (t + (block_of a r.who).items)
  unfolding part_of part_as size_of size_as
  push_flash h' role l q may b ok =
      let size : size_of a r ≡ (block_of a r.who).items = ap (λ x. size_as x a r) role in
      let k = block_kept e' a closed n kept.blocks_ok r.who l q in
      let eight = k.1 in
      rw size at (built_grow s e' a room n closed high start h t kept h' r _ pushed.new left may b (λ q. uses_repeat_not (sym role ∙ q)) ok
      (ap (λ x. part_as x a (parts e' a 9) r) role
      ∙ ap (λ b. flashed r.place (pose_of r) b none) (fuel e' a closed n kept.blocks_ok (block_of a r.who) k.0 9 8 (omega arith) eight ∙ kept.blocks_show r.who l q)))

  -- a block opens, in the next aperture record
  pub open_block_lem : (m : ℕ) (a' : List ℕ) → r.who ≡ n → r.sx ≡ start → r.sy ≡ h → r.before ≡ t →
      ((b : ℕ) → b < n → aperture_of a b ≡ aperture_of a' b) → (aperture_of a' n).number ≡ m → is_block a' n ≡ false →
      ((b c : ℕ) → b < suc n → c < suc n → (aperture_of a' b).number ≡ (aperture_of a' c).number → b ≡ c) →
      Built (marked (begin (block m)) [] s) e' a' room (suc n) closed (suc high) (suc high) 1 0
  unfolding marked Opened is_block
  open_block_lem m a' who sx sy b same number not-block distinct =
      let agree = agrees n a' same (le_refl _) in
      let one : suc high - 1 ≡ high = omega arith in
      let k = built_same s e a room n closed high start h t built (suc n) e' a' agree (pushed.as_long ∙ built.as_long) (omega arith)
      (λ b l m. let z : b ≡ n = omega arith in rw z not-block) distinct (lengths_added a a' n same not-block) in
      let outer : Opened e' a' room (suc n) closed r.who s.around s.here (suc high - 1) r.sx r.sy r.before built.bodies =
      rw (one, who, sx, sy, b) (opened_same e a room closed high n n built.blocks_ok (suc n) closed e' a' agree (omega arith) (le_refl _)
      s.around s.here high start h t built.bodies n n (le_refl _) (le_refl _) (le_refl _) built.opened) in
      record {
        as_long = k.as_long;
        fits = omega arith;
        blocks_ok = k.blocks_ok;
        blocks_show = k.blocks_show;
        distinct = k.distinct;
        bodies = built.bodies;
        lengths = ap (λ x. x + built.bodies) (lengths_added a a' n same not-block) ∙ built.lengths;
        opened = rw pushed.new (
          record {
            some = omega arith;
            below = le_refl _;
            low = le_refl _;
            lower = lit≤ tt;
            level = nothing_yet e' a' room (suc n) (suc high) 1;
            early = omega arith;
            known = omega arith;
            number = ap (λ x. (aperture_of a' x).number) who ∙ number;
            not_yet = ap (is_block a') who ∙ not-block;
          },
          outer,
        );
      }

  -- a repeat opens, at the top level
  pub open_repeat : (p : Repeat) → h ≡ 10 → r.who ≡ start → repeat_of r ≡ p → ok_counts r ≡ true → r.cx ≤ most → r.cy ≤ most → r.before ≡ t →
      Built (marked (begin (repeat p)) [] s) e' a room n closed (suc high) (suc high) 9 0
  unfolding marked Opened
  open_repeat p ten who says counts dx dy b =
      let one : suc high - 1 ≡ high = omega arith in
      let outer : Opened e' a room n closed n s.around s.here (suc high - 1) r.who 10 r.before built.bodies =
      rw (one, who, b, ← ten) (opened_same e a room closed high n n built.blocks_ok n closed e' a (agrees n a (λ b l. refl) (le_refl _)) (le_refl _) (le_refl _)
      s.around s.here high start h t built.bodies n n (le_refl _) (le_refl _) (le_refl _) built.opened) in
      record {
        as_long = kept.as_long;
        fits = omega arith;
        blocks_ok = kept.blocks_ok;
        blocks_show = kept.blocks_show;
        distinct = kept.distinct;
        bodies = built.bodies;
        lengths = built.lengths;
        opened = rw pushed.new (
          record {
            some = omega arith;
            below = le_refl _;
            height = refl;
            level = nothing_yet e' a room n (suc high) 9;
            says = says;
            counts = counts;
            dx_in = dx;
            dy_in = dy;
          },
          outer,
        );
      }
