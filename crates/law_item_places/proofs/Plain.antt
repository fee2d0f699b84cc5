-- Every item of a plain expansion is at the place of a mark's item, wherever blocks and repeats put it.
-- Assumes nothing.
use Prim.Native.Nat.{ℕ, zero, suc, ◌<◌}
use mathlib.Core.Bool.{Bool, true, false, cond}
use mathlib.Core.List.{List, [], ◌∷◌, ◌++◌, map}
use native.Mathlib.Omega.{arith}
use lib.Dec.{eqb}
use lib.ListN.{length, get_or}
use Rattle.base.specs.Run.{run}
use Rattle.place.specs.Copies.{step, copies}
use Rattle.place.specs.Mark as mark
use Rattle.place.specs.Mark.{Mark, Around, Sheet, with_count, parts_of, put, closed, marked, written, parts_from, plain}
use Rattle.place.specs.Parts as parts
use Rattle.place.specs.Parts.{Parts, ◌then◌, items_in}
use Rattle.place.proofs.Parts.{items_then}
use Rattle.place.specs.Item.{zero_item}
use Rattle.place.specs.Outer.{brought, flashed_by}
use Rattle.place.specs.Placing.{placed}
use Rattle.place.specs.declared.Item.{Item}
use Rattle.place.specs.declared.Pose.{Pose}
use Rattle.place.specs.declared.Repeat.{Repeat}

-- what is known of the places of all of these items
pub data Each (P : ℕ → Type 0) : List Item → Type 0 where
  none : Each P []
  more : {t : Item} {ts : List Item} → P t.place → Each P ts → Each P (t ∷ ts)

pub each_at : {P : ℕ → Type 0} {ts : List Item} → Each P ts → (k : ℕ) → k < length ts → P (get_or ts k zero_item).place
each_at none k h = absurd (omega arith)
each_at (more p w) zero h = p
each_at (more p w) (suc k) h = each_at w k (omega arith)

-- and of those that marks draw
pub data Marked (P : ℕ → Type 0) : Mark → Type 0 where
  draws : {t : Item} → P t.place → Marked P (mark.draw t)
  contours : {t : Item} → P t.place → Marked P (mark.contour t)
  edges : {t : Item} → P t.place → Marked P (mark.edge t)
  flashes : {n : ℕ} {m : Pose} {place : ℕ} → Marked P (mark.flash n m place)
  opens : {o : mark.Opening} → Marked P (mark.begin o)
  closes : Marked P mark.finish

pub data AllMarked (P : ℕ → Type 0) : List Mark → Type 0 where
  unmarked : AllMarked P []
  marked_more : {m : Mark} {ms : List Mark} → Marked P m → AllMarked P ms → AllMarked P (m ∷ ms)

pub marks_append : {P : ℕ → Type 0} {l m : List Mark} → AllMarked P l → AllMarked P m → AllMarked P (l ++ m)
marks_append unmarked w = w
marks_append (marked_more t ts) w = marked_more t (marks_append ts w)

module _ (P : ℕ → Type 0) where
  each_append : {l m : List Item} → Each P l → Each P m → Each P (l ++ m)
  each_append none w = w
  each_append (more t ts) w = more t (each_append ts w)

  each_map : (f : Item → Item) → ((t : Item) → P t.place → P (f t).place) → {l : List Item} → Each P l → Each P (map f l)
  each_map f h none = none
  each_map f h (more {t = t} w ws) = more (h t w) (each_map f h ws)

  placed_each : (m : Pose) (t : Item) → P t.place → P (placed m t).place
  unfolding placed
  placed_each m t w = w

  flashed_each : (place : ℕ) (m : Pose) (t : Item) → P t.place → P (flashed_by place m t).place
  unfolding flashed_by brought placed
  flashed_each place m t w = w

  run_each : (f : ℕ → List Item) (p n : ℕ) → ((i : ℕ) → Each P (f i)) → Each P (run f p n)
  unfolding run
  run_each f p zero h = none
  run_each f p (suc n) h = each_append (h p) (run_each f (suc p) n h)

  copies_each : (s : Repeat) {l : List Item} → Each P l → Each P (copies s l)
  unfolding copies
  copies_each s w = run_each _ 0 s.nx (λ i. run_each _ 0 s.ny (λ j. each_map (placed (step s i j)) (placed_each (step s i j)) w))

  -- ---- the sheet while it is written out

  data Blocks : List (ℕ × Parts) → Type 0 where
    no_block : Blocks []
    one_block : {b : ℕ × Parts} {bs : List (ℕ × Parts)} → Each P (items_in b.1) → Blocks bs → Blocks (b ∷ bs)

  data Outside : Around → Type 0 where
    top : Outside mark.top
    within : {o : mark.Opening} {before : Parts} {around : Around} → Each P (items_in before) → Outside around → Outside (mark.within o before around)

  record Written (s : Sheet) : Type 0 where
    blocks : Blocks s.blocks
    here : Each P (items_in s.here)
    around : Outside s.around

  block_each : (n : ℕ) {bs : List (ℕ × Parts)} → Blocks bs → Each P (items_in (parts_of n bs))
  unfolding parts_of items_in
  block_each n no_block = none
  block_each n (one_block {b = b} {bs = bs} w ws) = go (eqb n b.0) (block_each n ws)
    where
      go : (t : Bool) → Each P (items_in (parts_of n bs)) → Each P (items_in (cond t b.1 (parts_of n bs)))
      go true v = w
      go false v = v

  then_each : (ps qs : Parts) → Each P (items_in ps) → Each P (items_in qs) → Each P (items_in (ps then qs))
  then_each ps qs v w = rw (items_then ps qs) (each_append v w)

  put_written : (ps : Parts) (s : Sheet) → Each P (items_in ps) → Written s → Written (put ps s)
  unfolding put
  put_written ps s w v = record { blocks = v.blocks; here = then_each s.here ps v.here w; around = v.around }

  closed_written : (a : Around) (s : Sheet) → Outside a → Written s → Written (closed a s)
  unfolding closed items_in
  closed_written mark.top s o v = v
  closed_written (mark.within (mark.block n) before around) s (within w o) v = record { blocks = one_block v.here v.blocks; here = w; around = o }
  closed_written (mark.within (mark.repeat r) before around) s (within w o) v = record {
    blocks = v.blocks;
    here = then_each before (parts.repeated r s.here parts.none) w (each_append (copies_each r v.here) none);
    around = o;
  }

  counted_each : (n : ℕ) (t : Item) → P t.place → P (with_count n t).place
  unfolding with_count
  counted_each n t w = w

  mark_written : {m : Mark} (ms : List Mark) (s : Sheet) → Marked P m → Written s → Written (marked m ms s)
  unfolding marked items_in
  mark_written ms s (draws w) v = put_written _ s (more w none) v
  mark_written ms s (contours {t = t} w) v = put_written _ s (more (counted_each _ t w) none) v
  mark_written ms s (edges w) v = put_written _ s (more w none) v
  mark_written ms s (flashes {n = n} {m = m} {place = place}) v = put_written _ s (each_append (each_map (flashed_by place m) (flashed_each place m) (block_each n v.blocks)) none) v
  mark_written ms s opens v = record { blocks = v.blocks; here = none; around = within v.here v.around }
  mark_written ms s closes v = closed_written s.around s v.around v

  all_written : {ms : List Mark} (s : Sheet) → AllMarked P ms → Written s → Written (written ms s)
  unfolding written
  all_written s unmarked v = v
  all_written s (marked_more {ms = ms} m w) v = all_written _ w (mark_written ms s m v)

  pub plain_each : {ms : List Mark} → AllMarked P ms → Each P (plain ms)
  unfolding plain parts_from items_in
  plain_each w = (all_written _ w (record { blocks = no_block; here = none; around = top })).here
