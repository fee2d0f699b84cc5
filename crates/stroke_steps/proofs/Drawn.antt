-- What is known after a D01 that breaks no rule: outside a region, at the first of a contour, and at the others.
-- Assumes nothing.
use Rattle.faults.specs.Rule.{number_of_rule}
use Rattle.faults.specs.declared.Rule.{Rule}
use Rattle.std.specs.Prelude.{Option, ℤ}
use Prim.Native.Nat.{ℕ, suc, ◌+◌, ◌-◌, ◌≤◌, ◌<◌, ◌^◌}
use mathlib.Core.Path.{◌≡◌, refl, sym, ◌∙◌}
use mathlib.Core.Bool.{Bool, true, false, cond, not, false≢true}
use mathlib.Core.List.{List, [], ◌∷◌, ◌++◌, append_assoc}
use native.Mathlib.Omega.{arith}
use borrow.Author.Tests.{not-false}
use Rattle.base.specs.And.{◌and◌}
use Rattle.base.proofs.And.{and_l, false_and}
use Rattle.points.specs.Points.{Within}
use Rattle.points.specs.declared.Point.{Point}
use Rattle.place.specs.declared.Item.{Item}
use Rattle.place.specs.Mark as mark
use Rattle.place.specs.Mark.{with_count}
use Rattle.sheet.specs.Records.{entry_of, entry_room}
use Rattle.build.specs.Stack.{pushed}
use Rattle.law_open_store.proofs.Grow.{stays_as_high}
use Rattle.build.specs.declared.Builder.{Builder}
use Rattle.build.specs.Builder.{grown}
use Rattle.build.specs.Entries.{item_entry}
use Rattle.build.specs.Counted.{edged}
use Rattle.law_built_store.proofs.Entries.{pushed_is}
use Rattle.command.specs.declared.Command.TheVariants as command
use Rattle.command.specs.declared.Operation.TheVariants as operation
use Rattle.graphics.specs.Graphics.{with_point, with_region}
use Rattle.graphics.specs.declared.Region.{Region}
use Rattle.changes.specs.After.{target, going_to, starts_contour, drawing, after_operation, after}
use Rattle.arcs.specs.Near.{Near}
use Rattle.arcs.proofs.Draws.{kind_most}
use Rattle.operation_rules.proofs.Reached.{draw_near, draw_reached}
use Rattle.graphics.specs.declared.Level.{Level}
use Rattle.operation_rules.specs.Counts.{most, counted}
use Rattle.operation_rules.specs.Faults.{draw_items, draw_fault}
use Rattle.marks.specs.Items.{drawn, edge, contour}
use Rattle.marks.specs.Marks.{draw_marks, operation_marks, marks_of}
use Rattle.law_reading.specs.State.{State}
use Rattle.law_reading.specs.Steps.{draw_step}
use Rattle.progress.specs.Lent.{Lent, with_entries, room_of}
use Rattle.progress.specs.Levels.{level_at, level_of}
use Rattle.progress.specs.Contour.{Contour}
use Rattle.progress.specs.Strokes.{with_stroke}
use Rattle.progress.specs.Knows.{Knows, Known, StrikesTo}
use Rattle.progress.specs.declared.Progress.{Progress}
use Rattle.progress.specs.declared.Stroke.{Stroke}
use Rattle.progress.specs.declared.Struck.TheVariants.{Next, Fault}
use Rattle.progress.proofs.Around.{start_low}
use Rattle.progress.proofs.Levels.{items_few}
use Rattle.stroke_steps.specs.Draws.{left_of, Leads, MayDraw}
use Rattle.stroke_steps.proofs.Faults.{and_rest, draw_mode, draw_counts, draw_room}
use Rattle.stroke_steps.proofs.Levels.{items_level}
use Rattle.stroke_steps.proofs.Within.{drawn_near, edge_near, contour_near, kind_least}
use Rattle.stroke_steps.proofs.Grown.{advanced, grown_knows}
use Rattle.stroke_steps.proofs.Operations.{draw_moves}
use Rattle.stroke_steps.proofs.Items.{below_pushed, item_grows}
use Rattle.stroke_steps.proofs.Contours.{contour_shows, edged_room, contour_grows, contour_low, contour_few, contour_start, below_edged, contour_begun}
use Rattle.stroke_steps.proofs.Known.{known_fits, known_copies, known_items, draw_faults, refused, goes}
use Rattle.command.specs.declared.Offset.{Offset}

module _ (w : Lent) (p : Progress) (s : State) (k : Knows w p s) (place : ℕ) (x y : Option ℤ) (o : Option Offset)
    (none : draw_fault p.graphics (level_of p) (left_of w.entries p.builder) x y o ≡ 0) where
  none_there : draw_fault s.graphics s.level (entry_room w.entries - s.entries) x y o ≡ 0
  unfolding draw_step room_of
  none_there = sym (draw_faults w p s k place x y o) ∙ none

  left : p.builder.closed + p.builder.high + draw_items s.graphics ≤ entry_room w.entries
  left =
      let l = draw_room _ _ _ _ _ _ none_there in
      let q = k.entries in
      let f = k.shows.fits in
      omega arith

  there : Within (10 ^ 12) (target s.graphics x y)
  there = draw_reached _ _ _ _ _ _ none_there

  near_there : Near s.graphics (target s.graphics x y) o
  near_there = draw_near _ _ _ _ _ _ none_there

  counts : counted s.level (draw_items s.graphics) ≤ most
  counts = draw_counts _ _ _ _ _ _ none_there

  mode : 1 ≤ s.graphics.mode
  mode = draw_mode _ _ _ _ _ _ none_there

  -- outside a region
  module _ (outside : s.graphics.region.on ≡ false) where
    one_item : draw_items s.graphics ≡ 1
    unfolding draw_items starts_contour
    one_item = rw (outside, false_and (not s.graphics.region.contour))

    item_marks : marks_of (command.Operate (operation.Draw x y o)) s.graphics place ≡ mark.draw (drawn s.graphics (target s.graphics x y) o place) ∷ []
    unfolding marks_of operation_marks draw_marks
    item_marks = rw outside

    item_none : (after (command.Operate (operation.Draw x y o)) s.graphics).region.contour ≡ true → ⊥
    unfolding after after_operation going_to with_point with_region drawing
    item_none q = false≢true (sym outside ∙ q)

    pub item_knows : Knows (with_entries (pushed w.entries p.builder.high (item_entry p.builder.items (drawn s.graphics (target s.graphics x y) o place))) w)
        (advanced p (after (command.Operate (operation.Draw x y o)) s.graphics) (grown p.builder 1 p.builder.height) p.contour) (draw_step (room_of w) place x y o s).next
    unfolding draw_step drawn
    item_knows =
        let l = left in
        let q = one_item in
        let m = kind_most s.graphics (target s.graphics x y) k.mode in
        let n = kind_least s.graphics (target s.graphics x y) mode in
        rw one_item
        (grown_knows w p s (command.Operate (operation.Draw x y o)) place 1 1 0 _ _ _ k (draw_moves w p s x y o k there)
        (item_grows w p s k (omega arith) (command.Operate (operation.Draw x y o)) place (drawn s.graphics (target s.graphics x y) o place)
        (drawn_near s.graphics (target s.graphics x y) o near_there place) n (omega arith) refl
        item_marks item_none (rw one_item at counts)))

  -- an edge more of the open contour
  abbrev e_edge : List ℕ
  e_edge = edged w.entries p.builder p.contour (edge s.graphics (target s.graphics x y) o place)

  module _ (inside : s.graphics.region.on ≡ true) (later : starts_contour s.graphics.region ≡ false) where
    is_open_lem : s.graphics.region.contour ≡ true
    unfolding starts_contour
    is_open_lem = not-false _ (and_rest _ _ inside later)

    one_edge : draw_items s.graphics ≡ 1
    unfolding draw_items
    one_edge = rw later

    edge_marks : marks_of (command.Operate (operation.Draw x y o)) s.graphics place ≡ mark.edge (edge s.graphics (target s.graphics x y) o place) ∷ []
    unfolding marks_of operation_marks draw_marks
    edge_marks = rw (later, inside)

    pub edge_knows : Knows (with_entries e_edge w) (advanced p (after (command.Operate (operation.Draw x y o)) s.graphics) (grown p.builder 1 p.builder.height) p.contour) (draw_step (room_of w) place x y o s).next
    unfolding draw_step edge grown level_of
    edge_knows =
        let l = left in
        let q = one_edge in
        let m = kind_most s.graphics (target s.graphics x y) k.mode in
        let n = kind_least s.graphics (target s.graphics x y) mode in
        let d = k.contour is_open_lem in
        let t = edge_near s.graphics (target s.graphics x y) o near_there place in
        let fits : p.builder.closed + p.builder.high < entry_room w.entries = omega arith in
        let low : 1 ≤ (edge s.graphics (target s.graphics x y) o place).kind = omega arith in
        let up : (edge s.graphics (target s.graphics x y) o place).kind ≤ 8 = omega arith in
        let as_long = edged_room w.entries w.apertures p.apertures p.builder p.contour s.marks d fits _ t low up refl in
        let grows = contour_grows w.entries w.apertures p.apertures p.builder p.contour s.marks d fits _ t low up refl in
        rw one_edge
        (grown_knows w p s (command.Operate (operation.Draw x y o)) place 1 1 0 _ _ _ k (draw_moves w p s x y o k there)
        (record {
          as_long = as_long;
          below = below_edged w.entries p.builder p.contour _ fits (contour_low _ _ _ _ _ _ d) p.builder.start (contour_start _ _ _ _ _ _ d);
          start_is = refl;
          rises = stays_as_high _;
          level = items_level p.builder.height p.builder.items p.depth p.copies p.sheet 1;
          counts = rw one_edge at counts;
          entries = omega arith;
          shows = rw (edge_marks, ← as_long) (contour_shows _ _ _ _ _ _ grows);
          contour = λ z. rw edge_marks grows;
        }))

  -- the first of a contour
  abbrev e_begun : List ℕ
  e_begun = pushed w.entries p.builder.high (item_entry p.builder.items (contour s.graphics place))

  abbrev b_begun : Builder
  b_begun = grown p.builder 1 p.builder.height

  abbrev e_contour : List ℕ
  e_contour = edged e_begun b_begun p.builder.high (edge s.graphics (target s.graphics x y) o place)

  module _ (first : starts_contour s.graphics.region ≡ true) where
    in_region : s.graphics.region.on ≡ true
    unfolding starts_contour
    in_region = and_l _ _ first

    two_items : draw_items s.graphics ≡ 2
    unfolding draw_items
    two_items = rw first

    contour_marks : marks_of (command.Operate (operation.Draw x y o)) s.graphics place
        ≡ mark.contour (contour s.graphics place) ∷ mark.edge (edge s.graphics (target s.graphics x y) o place) ∷ []
    unfolding marks_of operation_marks draw_marks
    contour_marks = rw (first, in_region)

    begun_room : entry_room e_begun ≡ entry_room w.entries
    begun_room = let l = left in let q = two_items in
        (pushed_is w.entries p.builder.high _ (omega arith)).as_long

    begun : Contour e_begun w.apertures p.apertures b_begun p.builder.high (s.marks ++ mark.contour (contour s.graphics place) ∷ [])
    unfolding contour with_count
    begun =
        let l = left in
        let q = two_items in
        contour_begun w.entries w.apertures p.apertures p.builder s.marks (contour s.graphics place) k.shows (omega arith)
        (contour_near s.graphics k.point place) (omega arith) (omega arith) refl

    pub contour_knows : Knows (with_entries e_contour w) (advanced p (after (command.Operate (operation.Draw x y o)) s.graphics) (grown b_begun 1 p.builder.height) p.builder.high) (draw_step (room_of w) place x y o s).next
    unfolding draw_step edge grown level_of
    contour_knows =
        let l = left in
        let q = two_items in
        let m = kind_most s.graphics (target s.graphics x y) k.mode in
        let n = kind_least s.graphics (target s.graphics x y) mode in
        let d = begun in
        let t = edge_near s.graphics (target s.graphics x y) o near_there place in
        let room = begun_room in
        let fits : p.builder.closed + p.builder.high < entry_room w.entries = omega arith in
        let fits-still : b_begun.closed + b_begun.high < entry_room e_begun = omega arith in
        let low : 1 ≤ (edge s.graphics (target s.graphics x y) o place).kind = omega arith in
        let up : (edge s.graphics (target s.graphics x y) o place).kind ≤ 8 = omega arith in
        let as_long = edged_room e_begun w.apertures p.apertures b_begun p.builder.high _ d fits-still _ t low up refl ∙ room in
        let grows = contour_grows e_begun w.apertures p.apertures b_begun p.builder.high _ d fits-still _ t low up refl in
        let grows_all = rw (append_assoc s.marks (mark.contour (contour s.graphics place) ∷ []) (mark.edge (edge s.graphics (target s.graphics x y) o place) ∷ [])) at grows in
        let start = start_low w p s k in
        let more : p.builder.items + 1 + 1 ≡ p.builder.items + 2 = omega arith in
        rw two_items
        (grown_knows w p s (command.Operate (operation.Draw x y o)) place 2 2 0 _ _ _ k (draw_moves w p s x y o k there)
        (record {
          as_long = as_long;
          below = λ r z. below_pushed w.entries p.builder.high p.builder.start _ (omega arith) start r z
              ∙ rw room at (below_edged e_begun b_begun p.builder.high (edge s.graphics (target s.graphics x y) o place) fits-still (omega arith) p.builder.start start r z);
          start_is = refl;
          rises = stays_as_high _;
          level = rw more (items_level p.builder.height p.builder.items p.depth p.copies p.sheet 2);
          counts = rw two_items at counts;
          entries = omega arith;
          shows = rw (contour_marks, ← as_long) (contour_shows _ _ _ _ _ _ grows_all);
          contour = λ z. rw contour_marks grows_all;
        }))

-- as the code has it: by the progress, and the entries at the call
module _ (e : List ℕ) (p : Progress) (place : ℕ) (x y : Option ℤ) (o : Option Offset) (may : MayDraw e p x y o) where
  left_here : p.builder.closed + p.builder.high + draw_items p.graphics ≤ entry_room e
  left_here =
      let l = draw_room _ _ _ _ _ _ may.none in
      let f = known_fits e p may.known in
      omega arith

  some : 1 ≤ draw_items p.graphics
  unfolding draw_items
  some = go (starts_contour p.graphics.region)
    where
      go : (t : Bool) → 1 ≤ cond t 2 1
      go true = omega arith
      go false = omega arith

  pub draw_has_room : p.builder.closed + p.builder.high < entry_room e
  draw_has_room = let l = left_here in let m = some in omega arith

  -- what an edge more asks for
  pub edge_asks : (p.graphics.region.on ≡ true) × (starts_contour p.graphics.region ≡ false) →
      (p.builder.closed + p.builder.high < entry_room e)
      × ((p.builder.items ≤ 1000000000000) × (p.contour < p.builder.high) × ((entry_of e (entry_room e - suc p.contour)).count ≤ 1000000000000))
  unfolding starts_contour
  edge_asks inside =
      let k = may.known in
      let d = k.knows.contour (not-false _ (and_rest _ _ (rw k.knows.graphics at inside.0) (rw k.knows.graphics at inside.1))) in
      let few = known_items e p k in
      (draw_has_room, (few, contour_low _ _ _ _ _ _ d, rw k.is at (contour_few _ _ _ _ _ _ d 1000000000000 few)))

  -- what the contour's first edge asks for, after the contour
  pub contour_asks : {u : Item} {e₁ : List ℕ} {b₁ : Builder} → starts_contour p.graphics.region ≡ true → u ≡ contour p.graphics place →
      (b₁ ≡ grown p.builder 1 p.builder.height) × (e₁ ≡ pushed e p.builder.high (item_entry p.builder.items u)) →
      (b₁.closed + b₁.high < entry_room e₁)
      × ((b₁.items ≤ 1000000000000) × (p.builder.high < b₁.high) × ((entry_of e₁ (entry_room e₁ - suc p.builder.high)).count ≤ 1000000000000))
  unfolding draw_items item_entry contour grown level_of level_at
  contour_asks first u-is begun =
      let l : p.builder.closed + p.builder.high + 2 ≤ entry_room e = rw first at left_here in
      let few : p.builder.items + 2 ≤ most = items_few (level_of p) 2 (known_copies e p may.known) (rw first at (draw_counts _ _ _ _ _ _ may.none)) in
      let put = pushed_is e p.builder.high (item_entry p.builder.items (contour p.graphics place)) (omega arith) in
      let long = put.as_long in
      rw (begun.0, begun.1, u-is, long) (omega arith, (omega arith, omega arith, rw put.new (omega arith)))

  abbrev leads : List ℕ → Progress → Type 0
  leads e' r = Leads (λ room s. draw_step room place x y o s) (λ w. w.entries ≡ e) (with_entries e') p r

  -- the parts, as the calls give them
  item_leads : p.graphics.region.on ≡ false →
      leads (pushed e p.builder.high (item_entry p.builder.items (drawn p.graphics (target p.graphics x y) o place)))
      (advanced p (after (command.Operate (operation.Draw x y o)) p.graphics) (grown p.builder 1 p.builder.height) p.contour)
  item_leads outside w s lent k =
      rw (← lent, k.graphics)
      (item_knows w p s k place x y o (rw (← lent) at may.none) (rw k.graphics at outside))

  edge_leads : p.graphics.region.on ≡ true → starts_contour p.graphics.region ≡ false →
      leads (edged e p.builder p.contour (edge p.graphics (target p.graphics x y) o place))
      (advanced p (after (command.Operate (operation.Draw x y o)) p.graphics) (grown p.builder 1 p.builder.height) p.contour)
  edge_leads inside later w s lent k =
      rw (← lent, k.graphics)
      (edge_knows w p s k place x y o (rw (← lent) at may.none) (rw k.graphics at inside) (rw k.graphics at later))

  contour_leads : starts_contour p.graphics.region ≡ true →
      leads (edged (pushed e p.builder.high (item_entry p.builder.items (contour p.graphics place)))
      (grown p.builder 1 p.builder.height) p.builder.high (edge p.graphics (target p.graphics x y) o place))
      (advanced p (after (command.Operate (operation.Draw x y o)) p.graphics) (grown (grown p.builder 1 p.builder.height) 1 p.builder.height) p.builder.high)
  contour_leads first w s lent k =
      rw (← lent, k.graphics)
      (contour_knows w p s k place x y o (rw (← lent) at may.none) (rw k.graphics at first))

  module _ {end : Point} {region : Region} {t : Item} {e' : List ℕ} {b' : Builder} (end_is : end ≡ target p.graphics x y)
      (region-is : region ≡ drawing p.graphics.region p.graphics.point.at) where
    pub item_drawn : p.graphics.region.on ≡ false → t ≡ drawn p.graphics end o place →
        (b' ≡ grown p.builder 1 p.builder.height) × (e' ≡ pushed e p.builder.high (item_entry p.builder.items t)) →
        leads e' (with_stroke (record { at = end; region = region; builder = b'; contour = p.contour }) p)
    unfolding after after_operation going_to
    item_drawn outside t-is put = rw (put.0, put.1, t-is, end_is, region-is) (item_leads outside)

    pub edge_drawn : (p.graphics.region.on ≡ true) × (starts_contour p.graphics.region ≡ false) → t ≡ edge p.graphics end o place →
        (b' ≡ grown p.builder 1 p.builder.height) × (e' ≡ edged e p.builder p.contour t) →
        leads e' (with_stroke (record { at = end; region = region; builder = b'; contour = p.contour }) p)
    unfolding after after_operation going_to
    edge_drawn inside t-is put = rw (put.0, put.1, t-is, end_is, region-is) (edge_leads inside.0 inside.1)

    pub contour_drawn : {u : Item} {e₁ : List ℕ} {b₁ : Builder} → starts_contour p.graphics.region ≡ true → u ≡ contour p.graphics place →
        (b₁ ≡ grown p.builder 1 p.builder.height) × (e₁ ≡ pushed e p.builder.high (item_entry p.builder.items u)) →
        t ≡ edge p.graphics end o place →
        (b' ≡ grown b₁ 1 b₁.height) × (e' ≡ edged e₁ b₁ p.builder.high t) →
        leads e' (with_stroke (record { at = end; region = region; builder = b'; contour = p.builder.high }) p)
    unfolding grown after after_operation going_to
    contour_drawn first u-is begun t-is put = rw (put.0, put.1, begun.0, begun.1, u-is, t-is, end_is, region-is) (contour_leads first)

-- the number that the code has is that of the step's fault
module _ (e : List ℕ) (p : Progress) (place : ℕ) (x y : Option ℤ) (o : Option Offset) {n room : ℕ} {l : Level} (level_is : l ≡ level_of p) (room_is : room ≡ left_of e p.builder)
    (fault_is : n ≡ draw_fault p.graphics l room x y o) where
  same_fault : draw_fault p.graphics (level_of p) (left_of e p.builder) x y o ≡ n
  same_fault = sym (fault_is ∙ (λ i. draw_fault p.graphics (level_is i) (room_is i) x y o))

  draw_says : (w : Lent) (s : State) → w.entries ≡ e → Knows w p s → (draw_step (room_of w) place x y o s).fault ≡ n
  draw_says w s lent k = sym (draw_faults w p s k place x y o) ∙ rw lent same_fault

  pub may_draw : Known (λ w. w.entries ≡ e) p → n ≡ 0 → MayDraw e p x y o
  may_draw known zero = record { known = known; none = same_fault ∙ zero }

  pub draw_refused : (e' : List ℕ) (rule : Rule) → number_of_rule rule ≡ n → StrikesTo (λ room s. draw_step room place x y o s) (λ w. w.entries ≡ e) (with_entries e') p (Fault rule)
  draw_refused = refused (λ room s. draw_step room place x y o s) e p draw_says

  pub draw_goes : (e' : List ℕ) (r : Stroke) → n ≡ 0 → Leads (λ room s. draw_step room place x y o s) (λ w. w.entries ≡ e) (with_entries e') p (with_stroke r p) →
      StrikesTo (λ room s. draw_step room place x y o s) (λ w. w.entries ≡ e) (with_entries e') p (Next r)
  draw_goes = goes (λ room s. draw_step room place x y o s) e p draw_says
