-- The entries that marks leave are in order, and say what the marks said.
-- Assumes nothing.
use Prim.Native.Nat.{ℕ, suc, ◌-◌, ◌*◌, ◌/◌, ◌%◌, ◌≤◌, ◌<◌, ◌^◌}
use mathlib.Core.Path.{◌≡◌, refl, ap}
use mathlib.Core.Bool.{Bool, true, false}
use mathlib.Core.List.{List}
use native.Mathlib.Omega.{arith}
use lib.Dec.{eqb, leb}
use lib.IntN.{ℤ, nat_abs}
use mir.Syntax.{w64}
use mir.Val.{of_z}
use borrow.Author.Tests.{eq-eqb, le-leb, lt-ltb, ne_eqb}
use Rattle.base.specs.And.{◌and◌}
use Rattle.base.proofs.And.{and_i}
use Rattle.ints.proofs.Bounded.{back}
use Rattle.points.specs.declared.Point.{Point}
use Rattle.points.specs.Points.{pt, Within}
use Rattle.place.specs.declared.Item.{Item}
use Rattle.place.specs.declared.Pose.{Pose}
use Rattle.place.specs.Placing.{quarter_turn, PoseWithin, ItemWithin}
use Rattle.sheet.specs.Records.{entry_width, role_of, entry_room, entry_words}
use Rattle.sheet.specs.Containers.{block_of}
use Rattle.sheet.specs.Meaning.{flag_word, point_of, drawn, pose_of}
use Rattle.sheet.specs.Valid.{far, is_near, ok_points, ok_words, is_block, ok_use, ok_role, ok_entry}
use Rattle.sheet.specs.declared.Entry.{Entry}
use Rattle.sheet.specs.declared.Role.TheVariants.{Draws}
use Rattle.sheet.proofs.Stored.{stored_long, entry_stored, entry_kept}
use Rattle.build.specs.Stack.{pushed}
use Rattle.law_open_store.proofs.Push.{Pushed}
use Rattle.build.specs.Entries.{item_entry, use_entry}

-- a flag as a word, and back
flag_back : (b : Bool) → eqb (flag_word b) 1 ≡ b
unfolding flag_word
flag_back true = refl
flag_back false = refl

flag_small : (b : Bool) → leb (flag_word b) 1 ≡ true
unfolding flag_word
flag_small true = refl
flag_small false = refl

near_word : (z : ℤ) → nat_abs z ≤ far → is_near (of_z w64 z) ≡ true
unfolding is_near
near_word z l = rw (back z (omega arith)) (le-leb _ _ l)

-- a point as two words, and back
point_near : (p : Point) → Within far p → (is_near (of_z w64 p.x) and is_near (of_z w64 p.y)) ≡ true
point_near p w = and_i _ _ (near_word p.x w.across) (near_word p.y w.up)

point_back : (p : Point) → Within far p → point_of (of_z w64 p.x) (of_z w64 p.y) ≡ p
unfolding point_of
point_back p w = λ i. pt (back p.x (small p.x w.across) i) (back p.y (small p.y w.up) i)
  where
    small : (z : ℤ) → nat_abs z ≤ far → nat_abs z < 2 ^ 63
    small z l = omega arith

near_zero : is_near 0 ≡ true
unfolding is_near
near_zero = refl

-- an item
module _ (before : ℕ) (t : Item) (w : ItemWithin far t) where
  -- an item in no block has its own place twice
  pub item_shows : t.place ≡ t.outer → drawn (item_entry before t) ≡ t
  unfolding drawn item_entry
  item_shows own = λ i. record {
    kind = t.kind;
    aperture = t.aperture;
    clear = flag_back t.clear i;
    flip = flag_back t.flip i;
    angle = t.angle;
    scale = t.scale;
    start = point_back t.start w.start_in_lem i;
    end = point_back t.end w.end_in_lem i;
    centre = point_back t.centre w.centre_in i;
    count = t.count;
    place = t.place;
    outer = own i;
  }

  item_words_lem : ok_words (item_entry before t) ≡ true
  unfolding ok_words ok_points item_entry
  item_words_lem =
      and_i _ _ (and_i _ _ (and_i _ _ (flag_small t.clear) (flag_small t.flip)) (lt-ltb _ _ w.angle_in))
      (and_i _ _ (and_i _ _ (point_near t.start w.start_in_lem) (point_near t.end w.end_in_lem)) (point_near t.centre w.centre_in))

  pub item_role : 1 ≤ t.kind → t.kind ≤ 8 → role_of (item_entry before t).kind ≡ Draws
  unfolding role_of item_entry
  item_role low high = rw (ne_eqb t.kind 0 (λ q. let z : t.kind ≡ 0 = q in absurd (omega arith)), le-leb t.kind 8 high)

  pub item_ok : (a : List ℕ) (n h : ℕ) → 1 ≤ t.kind → t.kind ≤ 8 → ok_entry a n h (item_entry before t) ≡ true
  unfolding ok_entry ok_role
  item_ok a n h low high = and_i _ _ item_words_lem (rw (item_role low high))

-- a flash of a block
module _ (before who : ℕ) (m : Pose) (place : ℕ) (w : PoseWithin far m) where
  pub pose_shows : pose_of (use_entry before who m place) ≡ m
  unfolding pose_of use_entry
  pose_shows = λ i. record {
    flip = flag_back m.flip i;
    angle = m.angle;
    clear = flag_back m.clear i;
    at = point_back m.at w.at_in i;
  }

  pub use_ok : (a : List ℕ) (n h : ℕ) → who < n → is_block a who ≡ true → (block_of a who).height < h → m.angle % quarter_turn ≡ 0 →
      ok_entry a n h (use_entry before who m place) ≡ true
  unfolding ok_entry ok_role role_of ok_use ok_words ok_points use_entry
  use_ok a n h l q lower quarters =
      and_i _ _
      (and_i _ _ (and_i _ _ (and_i _ _ (flag_small m.clear) (flag_small m.flip)) (lt-ltb _ _ w.angle_in))
      (and_i _ _ (and_i _ _ (and_i _ _ near_zero near_zero) (point_near m.at w.at_in)) (and_i _ _ near_zero near_zero)))
      (and_i _ _ (lt-ltb _ _ l) (and_i _ _ (and_i _ _ q (lt-ltb _ _ lower)) (eq-eqb _ _ quarters)))

-- an entry pushed is the next of the stack, and every other stays
pub pushed_is : (e : List ℕ) (high : ℕ) (r : Entry) → high < entry_room e → Pushed e (pushed e high r) (entry_room e) high r
unfolding pushed entry_words
pushed_is e high r left =
    let at : entry_room e - suc high < entry_room e = omega arith in
    record {
      as_long = ap (λ x. x / entry_width) (stored_long e ((entry_room e - suc high) * entry_width) (entry_words r) (omega arith));
      new = entry_stored e (entry_room e - suc high) r at;
      kept = λ j ne. entry_kept e (entry_room e - suc high) r at j ne;
    }
