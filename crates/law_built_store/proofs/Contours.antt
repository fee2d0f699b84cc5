-- An edge that is counted and put is drawn after the others, and its contour has one edge more.
-- Assumes nothing.
use Prim.Native.Nat.{ℕ, suc, ◌+◌, ◌-◌, ◌/◌, ◌≤◌, ◌<◌}
use mathlib.Core.Path.{◌≡◌, refl, sym, ap, ◌∙◌}
use mathlib.Core.Bool.{true}
use mathlib.Core.List.{List, [], ◌∷◌, ◌++◌, map}
use native.Mathlib.Numerals.{add-one}
use native.Mathlib.Omega.{arith}
use lib.ListN.{length}
use Rattle.base.proofs.And.{and_l, and_i}
use Rattle.place.specs.declared.Item.{Item}
use Rattle.place.specs.Mark.{Mark, contour, edge, Sheet, with_count, written}
use Rattle.place.proofs.Marks.{written_contour}
use Rattle.place.specs.Placing.{ItemWithin}
use Rattle.sheet.specs.Records.{entry_width, entry_of, role_of, entry_room}
use Rattle.sheet.specs.Meaning.{drawn}
use Rattle.sheet.specs.Valid.{far, ok_points, ok_words, ok_role, ok_entry}
use Rattle.sheet.specs.declared.Entry.{Entry}
use Rattle.sheet.specs.declared.Role.TheVariants.{Draws}
use Rattle.sheet.proofs.Stored.{entry_stored, entry_kept}
use Rattle.build.specs.Stack.{pushed}
use Rattle.law_open_store.specs.Open.{Built}
use Rattle.law_open_store.specs.OpenContour.{Draw, DrawAll, Drawing}
use Rattle.law_open_store.proofs.Push.{Pushed}
use Rattle.law_open_store.proofs.Contour.{contour_begins, contour_edge, drawn_built}
use Rattle.build.specs.declared.Builder.{Builder}
use Rattle.build.specs.Entries.{item_entry}
use Rattle.build.specs.Counted.{counted, counted_at, edged}
use Rattle.build.proofs.Counting.{counted_long}
use Rattle.law_built_store.specs.Shown.{blank, Holds}
use Rattle.law_built_store.proofs.Entries.{item_shows, item_role, item_ok, pushed_is}
use Rattle.law_built_store.proofs.Marks.{item_before}

-- an entry that counts one more draws the same item with one edge more
counted_draws : (a : List ℕ) (n h t : ℕ) (r : Entry) (x : Item) → Draw a n h t r x → Draw a n h t (counted r) (with_count (x.count + 1) x)
unfolding counted drawn with_count ok_entry ok_words ok_points ok_role
counted_draws a n h t r x d = record {
  role = d.role;
  before_is = d.before_is;
  ok = and_i _ _ (and_l _ _ d.ok) (drawing d.role);
  shows = ap (λ (y : Item). with_count (y.count + 1) y) d.shows;
}
  where
    drawing : role_of r.kind ≡ Draws → ok_role (role_of r.kind) a n h (counted r) ≡ true
    drawing q = ap (λ role. ok_role role a n h (counted r)) q

item_draws : (a : List ℕ) (n h t : ℕ) (y : Item) → ItemWithin far y → 1 ≤ y.kind → y.kind ≤ 8 → y.place ≡ y.outer → Draw a n h t (item_entry t y) y
item_draws a n h t y w low high own = record {
  role = item_role t y w low high;
  before_is = item_before t y;
  ok = item_ok t y w a n h low high;
  shows = item_shows t y w own;
}

module _ (s : Sheet) (c y : Item) (es : List Item) (e a : List ℕ) (n high start h t : ℕ) (b : Builder)
    (drawing : Drawing s c es e a (entry_room e) n b.closed high start h t)
    (ends : b.high ≡ high + suc (length es)) (items_are : b.items ≡ t + suc (length es))
    (left : b.closed + b.high < entry_room e) (w : ItemWithin far y) (low : 1 ≤ y.kind) (up : y.kind ≤ 8)
    (own : y.place ≡ y.outer) where
  i : ℕ
  i = entry_room e - suc high

  inside : i < entry_room e
  unfolding i
  inside = omega arith

  long : length (counted_at e high) ≡ length e
  long = counted_long e high (omega arith)

  put_is : Pushed (counted_at e high) (pushed (counted_at e high) b.high (item_entry b.items y)) (entry_room e) b.high (item_entry b.items y)
  put_is =
      let same : entry_room (counted_at e high) ≡ entry_room e = ap (λ x. x / entry_width) long in
      rw same at (pushed_is (counted_at e high) b.high (item_entry b.items y) (omega arith))

  edge_is : edged e b high y ≡ pushed (counted_at e high) b.high (item_entry b.items y)
  unfolding edged
  edge_is = refl

  -- every entry but the contour's and the new one stays
  kept : (p : ℕ) → (p ≡ entry_room e - suc high → ⊥) → (p ≡ entry_room e - suc b.high → ⊥) → entry_of e p ≡ entry_of (edged e b high y) p
  unfolding counted_at i
  kept p ne new = rw edge_is (sym (put_is.kept p new ∙ entry_kept e (entry_room e - suc high) _ inside p ne))

  contour_is : entry_of (edged e b high y) (entry_room e - suc high) ≡ counted (entry_of e (entry_room e - suc high))
  unfolding counted_at i
  contour_is =
      rw edge_is (put_is.kept (entry_room e - suc high) (λ q. let z : entry_room e - suc high ≡ entry_room e - suc b.high = q in absurd (omega arith))
      ∙ entry_stored e (entry_room e - suc high) _ inside)

  pub edge_draws : Drawing s c (es ++ y ∷ []) (edged e b high y) a (entry_room e) n b.closed high start h t
  unfolding DrawAll with_count
  edge_draws =
      let at : suc high + length es ≡ b.high = omega arith in
      let before : t + 1 + length es ≡ b.items = omega arith in
      contour_edge s c y es e (edged e b high y) a (entry_room e) n b.closed high start h t drawing (omega arith)
      (record {
        as_long = rw edge_is put_is.as_long ∙ ap (λ x. x / entry_width) long;
        same_closed = λ p l. kept p (λ q. let z : p ≡ entry_room e - suc high = q in absurd (omega arith)) (λ q. let z : p ≡ entry_room e - suc b.high = q in absurd (omega arith));
        same_stack = λ p l. kept (entry_room e - suc p) (λ q. let z : entry_room e - suc p ≡ entry_room e - suc high = q in absurd (omega arith))
            (λ q. let z : entry_room e - suc p ≡ entry_room e - suc b.high = q in absurd (omega arith));
      })
      (rw (contour_is, ← add-one (length es)) (counted_draws a n h t _ _ drawing.all.0))
      (λ q l m. kept (entry_room e - suc q) (λ z. let z' : entry_room e - suc q ≡ entry_room e - suc high = z in absurd (omega arith))
      (λ z. let z' : entry_room e - suc q ≡ entry_room e - suc b.high = z in absurd (omega arith)))
      (rw (at, before, edge_is, put_is.new) (item_draws a n h b.items y w low up own))

-- a contour begins, as an item without edges
pub contour_opens : (s : Sheet) (c : Item) (e a : List ℕ) (n : ℕ) (b : Builder) → Holds s e a (entry_room e) n b → b.closed + b.high < entry_room e →
    ItemWithin far (with_count 0 c) → 1 ≤ (with_count 0 c).kind → (with_count 0 c).kind ≤ 8 → (with_count 0 c).place ≡ (with_count 0 c).outer →
    Drawing s c [] (pushed e b.high (item_entry b.items (with_count 0 c))) a (entry_room e) n b.closed b.high b.start b.height b.items
contour_opens s c e a n b holds left w low up own =
    let put = pushed_is e b.high (item_entry b.items (with_count 0 c)) (omega arith) in
    contour_begins s c e _ a (entry_room e) n b.closed b.high b.start b.height b.items holds left
    (record {
      as_long = put.as_long;
      same_closed = λ p l. sym (put.kept p (λ q. let z : p ≡ entry_room e - suc b.high = q in absurd (omega arith)));
      same_stack = λ p l. sym (put.kept (entry_room e - suc p) (λ q. let z : entry_room e - suc p ≡ entry_room e - suc b.high = q in absurd (omega arith)));
    })
    (rw put.new (item_draws a n b.height b.items (with_count 0 c) w low up own))

-- what is drawn is what the marks of the contour write out
pub contour_shown : (ms : List Mark) (c : Item) (es : List Item) (e a : List ℕ) (room n closed high start h t : ℕ) →
    Drawing (written ms blank) c es e a room n closed high start h t →
    Built (written (ms ++ contour c ∷ map edge es) blank) e a room n closed (high + suc (length es)) start h (t + suc (length es))
contour_shown ms c es e a room n closed high start h t d =
    rw (written_contour ms c es blank) (drawn_built (written ms blank) c es e a room n closed high start h t d)
