-- A contour begun, and an edge more: what is known after a D01 in a region.
-- Assumes nothing.
use Prim.Native.Nat.{ℕ, suc, ◌+◌, ◌-◌, ◌/◌, ◌≤◌, ◌<◌}
use mathlib.Core.Path.{◌≡◌, refl, sym, ap, ◌∙◌}
use mathlib.Core.List.{List, [], ◌∷◌, ◌++◌, map, append_assoc}
use native.Mathlib.Omega.{arith}
use lib.ListN.{length, length-append}
use Rattle.place.specs.declared.Item.{Item}
use Rattle.place.specs.Mark as mark
use Rattle.place.specs.Mark.{Mark, written, with_count}
use Rattle.place.specs.Placing.{ItemWithin}
use Rattle.sheet.specs.Valid.{far}
use Rattle.sheet.specs.Records.{entry_width, entry_of, entry_room}
use Rattle.sheet.specs.Meaning as meaning
use Rattle.sheet.proofs.Stored.{entry_kept}
use Rattle.build.specs.Stack.{pushed}
use Rattle.law_open_store.specs.OpenContour.{DrawAll, Drawing}
use Rattle.law_open_store.proofs.Starts.{starts_below}
use Rattle.build.specs.Entries.{item_entry}
use Rattle.build.specs.declared.Builder.{Builder}
use Rattle.build.specs.Builder.{grown}
use Rattle.build.specs.Counted.{counted_at, edged}
use Rattle.build.proofs.Counting.{counted_long}
use Rattle.law_built_store.specs.Shown.{blank, Shows}
use Rattle.law_built_store.proofs.Contours.{edge_draws, contour_opens, contour_shown}
use Rattle.progress.specs.Contour.{Contour}
use Rattle.stroke_steps.proofs.Items.{below_pushed}

-- what is drawn of a contour is shown
pub contour_shows : (e a : List ℕ) (n : ℕ) (b : Builder) (at : ℕ) (ms : List Mark) → Contour e a n b at ms → Shows ms e a (entry_room e) n b
contour_shows e a n b at ms d =
    rw (d.high_is, d.items_are, ← d.marks_are)
    (contour_shown d.before d.contour d.edges e a (entry_room e) n b.closed at b.start b.height d.items d.drawing)

map_one : (f : Item → Mark) (l : List Item) (t : Item) → map f (l ++ t ∷ []) ≡ map f l ++ f t ∷ []
map_one f [] t = refl
map_one f (x ∷ l) t = ap (λ r. f x ∷ r) (map_one f l t)

-- an edge more
module _ (e a : List ℕ) (n : ℕ) (b : Builder) (at : ℕ) (ms : List Mark) (d : Contour e a n b at ms) (left : b.closed + b.high < entry_room e)
    (t : Item) (near : ItemWithin far t) (low : 1 ≤ t.kind) (up : t.kind ≤ 8) (own : t.place ≡ t.outer) where
  draws_on : Drawing (written d.before blank) d.contour (d.edges ++ t ∷ []) (edged e b at t) a (entry_room e) n b.closed at b.start b.height d.items
  draws_on = edge_draws (written d.before blank) d.contour t d.edges e a n at b.start b.height d.items b d.drawing d.high_is d.items_are
      left near low up own

  pub edged_room : entry_room (edged e b at t) ≡ entry_room e
  edged_room = draws_on.base.as_long

  pub contour_grows : Contour (edged e b at t) a n (grown b 1 b.height) at (ms ++ mark.edge t ∷ [])
  unfolding grown
  contour_grows =
      let high = d.high_is in
      let items = d.items_are in
      let long = length-append d.edges (t ∷ []) in
      record {
        before = d.before;
        contour = d.contour;
        edges = d.edges ++ t ∷ [];
        items = d.items;
        drawing = rw edged_room draws_on;
        marks_are = rw (← d.marks_are, map_one mark.edge d.edges t) (sym (append_assoc d.before (mark.contour d.contour ∷ map mark.edge d.edges) (mark.edge t ∷ [])));
        high_is = omega arith;
        items_are = omega arith;
      }

-- where the open contour stands, and its edges so far
module _ (e a : List ℕ) (n : ℕ) (b : Builder) (at : ℕ) (ms : List Mark) (d : Contour e a n b at ms) where
  pub contour_low : at < b.high
  contour_low = let high = d.high_is in omega arith

  pub contour_start : b.start ≤ at
  contour_start = starts_below _ _ _ _ _ _ _ _ _ _ _ _ _ d.drawing.base.opened

  counts : (entry_of e (entry_room e - suc at)).count ≡ length d.edges
  unfolding DrawAll meaning.drawn with_count
  counts = ap (λ (t : Item). t.count) d.drawing.all.0.shows

  pub contour_few : (m : ℕ) → b.items ≤ m → (entry_of e (entry_room e - suc at)).count ≤ m
  contour_few m l = let c = counts in let i = d.items_are in omega arith

-- an edge counted and put leaves the stack below its contour
module _ (e : List ℕ) (b : Builder) (at : ℕ) (t : Item) (left : b.closed + b.high < entry_room e) (low : at < b.high) where
  pub below_edged : (start : ℕ) → start ≤ at → (q : ℕ) → q < start → entry_of e (entry_room e - suc q) ≡ entry_of (edged e b at t) (entry_room e - suc q)
  unfolding edged counted_at
  below_edged start l q m =
      let long : entry_room (counted_at e at) ≡ entry_room e = ap (λ x. x / entry_width) (counted_long e at (omega arith)) in
      let i : entry_room e - suc at < entry_room e = omega arith in
      sym (entry_kept e (entry_room e - suc at) _ i (entry_room e - suc q) (λ z. let z' : entry_room e - suc q ≡ entry_room e - suc at = z in absurd (omega arith)))
      ∙ rw long at (below_pushed (counted_at e at) b.high start (item_entry b.items t) (omega arith) (omega arith) q m)

-- a contour begins
pub contour_begun : (e a : List ℕ) (n : ℕ) (b : Builder) (ms : List Mark) (c : Item) → Shows ms e a (entry_room e) n b → b.closed + b.high < entry_room e →
    ItemWithin far (with_count 0 c) → 1 ≤ (with_count 0 c).kind → (with_count 0 c).kind ≤ 8 → (with_count 0 c).place ≡ (with_count 0 c).outer →
    Contour (pushed e b.high (item_entry b.items (with_count 0 c))) a n (grown b 1 b.height) b.high (ms ++ mark.contour c ∷ [])
unfolding grown
contour_begun e a n b ms c shows left near low up own =
    let d = contour_opens (written ms blank) c e a n b shows left near low up own in
    record {
      before = ms;
      contour = c;
      edges = [];
      items = b.items;
      drawing = rw d.base.as_long d;
      marks_are = refl;
      high_is = omega arith;
      items_are = omega arith;
    }
