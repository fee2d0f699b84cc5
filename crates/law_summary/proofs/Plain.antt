-- Every item of a plain expansion has the aperture of a mark's item, wherever blocks and repeats put it.
-- Assumes nothing.
use Prim.Native.Nat.{ℕ, zero, suc}
use mathlib.Core.Path.{sym, ◌∙◌}
use mathlib.Core.Bool.{Bool, true, false, cond}
use mathlib.Core.List.{List, [], ◌∷◌, ◌++◌, map}
use lib.Dec.{eqb}
use Rattle.base.specs.Run.{run}
use Rattle.place.specs.Copies.{step, copies}
use Rattle.place.specs.Mark as mark
use Rattle.place.specs.Mark.{Mark, Around, Sheet, with_count, parts_of, put, closed, marked, written, parts_from, plain}
use Rattle.place.specs.Parts as parts
use Rattle.place.specs.Parts.{Parts, ◌then◌, items_in}
use Rattle.place.proofs.Parts.{items_then}
use Rattle.place.specs.Outer.{brought, flashed_by}
use Rattle.place.specs.Placing.{placed}
use Rattle.place.specs.declared.Item.{Item}
use Rattle.place.specs.declared.Pose.{Pose}
use Rattle.place.specs.declared.Repeat.{Repeat}
use Rattle.summary_rows.proofs.Laws.{oriented_same}
use Rattle.law_reading.specs.State.{Aperture}
use Rattle.law_summary.specs.Tools.{Tooled, AllTooled, none, more}
use Rattle.law_summary.proofs.Knowing as marks
use Rattle.law_summary.proofs.Knowing.{Marked, draws, contours, edges, flashes, opens, closes, AllMarked}

module _ (known : List Aperture) where
  tooled_append : {l m : List Item} → AllTooled known l → AllTooled known m → AllTooled known (l ++ m)
  tooled_append none w = w
  tooled_append (more t ts) w = more t (tooled_append ts w)

  tooled_map : (f : Item → Item) → ((t : Item) → Tooled known t → Tooled known (f t)) → {l : List Item} → AllTooled known l → AllTooled known (map f l)
  tooled_map f h none = none
  tooled_map f h (more {t = t} w ws) = more (h t w) (tooled_map f h ws)

  placed_tooled : (m : Pose) (t : Item) → Tooled known t → Tooled known (placed m t)
  unfolding placed
  placed_tooled m t w = record { drawn = λ o. w.drawn (sym (oriented_same m t) ∙ o); region = λ o. w.region (sym (oriented_same m t) ∙ o) }

  flashed_tooled : (place : ℕ) (m : Pose) (t : Item) → Tooled known t → Tooled known (flashed_by place m t)
  unfolding flashed_by brought
  flashed_tooled place m t w = let v = placed_tooled m t w in record { drawn = v.drawn; region = v.region }

  run_tooled : (f : ℕ → List Item) (p n : ℕ) → ((i : ℕ) → AllTooled known (f i)) → AllTooled known (run f p n)
  unfolding run
  run_tooled f p zero h = none
  run_tooled f p (suc n) h = tooled_append (h p) (run_tooled f (suc p) n h)

  copies_tooled : (s : Repeat) {l : List Item} → AllTooled known l → AllTooled known (copies s l)
  unfolding copies
  copies_tooled s w = run_tooled _ 0 s.nx (λ i. run_tooled _ 0 s.ny (λ j. tooled_map (placed (step s i j)) (placed_tooled (step s i j)) w))

  -- ---- the sheet while it is written out

  data Blocks : List (ℕ × Parts) → Type 0 where
    no_block : Blocks []
    one_block : {b : ℕ × Parts} {bs : List (ℕ × Parts)} → AllTooled known (items_in b.1) → Blocks bs → Blocks (b ∷ bs)

  data Outside : Around → Type 0 where
    top : Outside mark.top
    within : {o : mark.Opening} {before : Parts} {around : Around} → AllTooled known (items_in before) → Outside around → Outside (mark.within o before around)

  record Written (s : Sheet) : Type 0 where
    blocks : Blocks s.blocks
    here : AllTooled known (items_in s.here)
    around : Outside s.around

  block_tooled : (n : ℕ) {bs : List (ℕ × Parts)} → Blocks bs → AllTooled known (items_in (parts_of n bs))
  unfolding parts_of items_in
  block_tooled n no_block = none
  block_tooled n (one_block {b = b} {bs = bs} w ws) = go (eqb n b.0) (block_tooled n ws)
    where
      go : (t : Bool) → AllTooled known (items_in (parts_of n bs)) → AllTooled known (items_in (cond t b.1 (parts_of n bs)))
      go true v = w
      go false v = v

  then_tooled : (ps qs : Parts) → AllTooled known (items_in ps) → AllTooled known (items_in qs) → AllTooled known (items_in (ps then qs))
  then_tooled ps qs v w = rw (items_then ps qs) (tooled_append v w)

  put_written : (ps : Parts) (s : Sheet) → AllTooled known (items_in ps) → Written s → Written (put ps s)
  unfolding put
  put_written ps s w v = record { blocks = v.blocks; here = then_tooled s.here ps v.here w; around = v.around }

  closed_written : (a : Around) (s : Sheet) → Outside a → Written s → Written (closed a s)
  unfolding closed items_in
  closed_written mark.top s o v = v
  closed_written (mark.within (mark.block n) before around) s (within w o) v = record { blocks = one_block v.here v.blocks; here = w; around = o }
  closed_written (mark.within (mark.repeat r) before around) s (within w o) v = record {
    blocks = v.blocks;
    here = then_tooled before (parts.repeated r s.here parts.none) w (tooled_append (copies_tooled r v.here) none);
    around = o;
  }

  counted_tooled : (n : ℕ) (t : Item) → Tooled known t → Tooled known (with_count n t)
  unfolding with_count
  counted_tooled n t w = record { drawn = w.drawn; region = w.region }

  mark_written : {m : Mark} (ms : List Mark) (s : Sheet) → Marked known m → Written s → Written (marked m ms s)
  unfolding marked items_in
  mark_written ms s (draws w) v = put_written _ s (more w none) v
  mark_written ms s (contours {t = t} w) v = put_written _ s (more (counted_tooled _ t w) none) v
  mark_written ms s (edges w) v = put_written _ s (more w none) v
  mark_written ms s (flashes {n = n} {m = m} {place = place}) v = put_written _ s (tooled_append (tooled_map (flashed_by place m) (flashed_tooled place m) (block_tooled n v.blocks)) none) v
  mark_written ms s opens v = record { blocks = v.blocks; here = none; around = within v.here v.around }
  mark_written ms s closes v = closed_written s.around s v.around v

  all_written : {ms : List Mark} (s : Sheet) → AllMarked known ms → Written s → Written (written ms s)
  unfolding written
  all_written s marks.none v = v
  all_written s (marks.more {ms = ms} m w) v = all_written _ w (mark_written ms s m v)

  pub plain_tooled : {ms : List Mark} → AllMarked known ms → AllTooled known (plain ms)
  unfolding plain parts_from items_in
  plain_tooled w = (all_written _ w (record { blocks = no_block; here = none; around = top })).here
