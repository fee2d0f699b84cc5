-- What is known after a D03 that breaks no rule: with a block, and with another aperture.
-- Assumes nothing.
use Rattle.faults.specs.Rule.{number_of_rule}
use Rattle.faults.specs.declared.Rule.{Rule}
use Rattle.std.specs.Prelude.{Option, ℤ}
use Prim.Native.Nat.{ℕ, ◌+◌, ◌-◌, ◌%◌, ◌≤◌, ◌<◌, ◌^◌}
use mathlib.Core.Path.{◌≡◌, refl, sym, ap, ◌∙◌}
use mathlib.Core.Bool.{true, false}
use mathlib.Core.List.{List, [], ◌∷◌}
use native.Mathlib.Omega.{arith}
use borrow.Author.Tests.{not-false, eqb-true, leb-false, eq-eqb}
use Rattle.points.specs.Points.{Within}
use Rattle.points.specs.declared.Point.{Point}
use Rattle.place.specs.declared.Item.{Item}
use Rattle.place.specs.declared.Pose.{Pose}
use Rattle.place.specs.Mark as mark
use Rattle.place.specs.Mark.{edges}
use Rattle.place.specs.Placing.{quarter_turn}
use Rattle.sheet.specs.Records.{entry_room}
use Rattle.sheet.specs.Containers.{block_of}
use Rattle.build.specs.Stack.{pushed}
use Rattle.build.specs.declared.Builder.{Builder}
use Rattle.build.specs.Builder.{raised, grown}
use Rattle.build.specs.Entries.{item_entry, use_entry}
use Rattle.law_built_store.proofs.Entries.{pushed_is}
use Rattle.law_built_store.proofs.Marks.{one_more, raised_rises, puts_flash}
use Rattle.command.specs.declared.Command.TheVariants as command
use Rattle.command.specs.declared.Operation.TheVariants as operation
use Rattle.graphics.specs.Graphics.{with_point, with_region}
use Rattle.changes.specs.After.{target, going_to, after_operation, after}
use Rattle.law_bounds.proofs.Tables.{neither}
use Rattle.operation_rules.proofs.Reached.{flash_reached}
use Rattle.operation_tests.specs.Fits.{askew, too_tall}
use Rattle.graphics.specs.declared.Level.{Level}
use Rattle.operation_rules.specs.Counts.{most, counted}
use Rattle.operation_rules.specs.Faults.{flash_items, flash_fault}
use Rattle.marks.specs.Items.{flashed, pose}
use Rattle.marks.specs.Marks.{flash_marks, operation_marks, marks_of}
use Rattle.law_reading.specs.State.{State}
use Rattle.law_reading.specs.Steps.{flash_height, flash_step}
use Rattle.progress.specs.Lent.{Lent, with_entries, room_of}
use Rattle.progress.specs.Levels.{level_of}
use Rattle.progress.specs.Strokes.{with_stroke}
use Rattle.progress.specs.Knows.{Knows, Known, StrikesTo}
use Rattle.progress.specs.declared.Progress.{Progress}
use Rattle.progress.specs.declared.Stroke.{Stroke}
use Rattle.progress.specs.declared.Struck.TheVariants.{Next, Fault}
use Rattle.progress.proofs.Levels.{block_level}
use Rattle.progress.proofs.Around.{start_low}
use Rattle.progress.proofs.Outside.{no_contour}
use Rattle.stroke_steps.specs.Draws.{left_of, Leads, MayFlash}
use Rattle.stroke_steps.proofs.Faults.{and_rest, flash_outside, flash_set, flash_straight, flash_low, flash_counts, flash_room}
use Rattle.stroke_steps.proofs.Levels.{flash_level}
use Rattle.stroke_steps.proofs.Within.{flashed_near, pose_near}
use Rattle.stroke_steps.proofs.Grown.{advanced, grown_knows}
use Rattle.stroke_steps.proofs.Operations.{flash_moves}
use Rattle.stroke_steps.proofs.Items.{below_pushed, item_grows}
use Rattle.stroke_steps.proofs.Selected.{IsBlock, selected_block}
use Rattle.stroke_steps.proofs.Known.{known_fits, known_items, known_few, flash_faults, refused, goes}

module _ (w : Lent) (p : Progress) (s : State) (k : Knows w p s) (place : ℕ) (x y : Option ℤ)
    (none : flash_fault p.graphics (level_of p) (left_of w.entries p.builder) x y ≡ 0) where
  none_there : flash_fault s.graphics s.level (entry_room w.entries - s.entries) x y ≡ 0
  unfolding flash_step room_of
  none_there = sym (flash_faults w p s k place x y) ∙ none

  left : p.builder.closed + p.builder.high < entry_room w.entries
  left =
      let l = flash_room _ _ _ _ _ none_there in
      let q = k.entries in
      omega arith

  there : Within (10 ^ 12) (target s.graphics x y)
  there = flash_reached _ _ _ _ _ none_there

  counts : counted s.level (flash_items s.graphics) ≤ most
  counts = flash_counts _ _ _ _ _ none_there

  none_drawn : (after (command.Operate (operation.Flash x y)) s.graphics).region.contour ≡ true → ⊥
  unfolding after after_operation going_to with_point
  none_drawn q = no_contour w p s k (flash_outside _ _ _ _ _ none_there) q

  -- an aperture that is no block
  module _ (plain : s.graphics.aperture.block ≡ false) where
    one_item : flash_items s.graphics ≡ 1
    unfolding flash_items
    one_item = rw plain

    no_height : flash_height s.graphics.aperture ≡ 0
    unfolding flash_height
    no_height = rw plain

    item_marks : marks_of (command.Operate (operation.Flash x y)) s.graphics place ≡ mark.draw (flashed s.graphics (target s.graphics x y) place) ∷ []
    unfolding marks_of operation_marks flash_marks
    item_marks = rw plain

    pub item_knows : Knows (with_entries (pushed w.entries p.builder.high (item_entry p.builder.items (flashed s.graphics (target s.graphics x y) place))) w)
        (advanced p (after (command.Operate (operation.Flash x y)) s.graphics) (grown p.builder 1 p.builder.height) p.contour) (flash_step (room_of w) place x y s).next
    unfolding flash_step flashed
    item_knows =
        rw (one_item, no_height)
        (grown_knows w p s (command.Operate (operation.Flash x y)) place 1 1 0 _ _ _ k (flash_moves w p s x y k there)
        (item_grows w p s k left (command.Operate (operation.Flash x y)) place (flashed s.graphics (target s.graphics x y) place)
        (flashed_near s.graphics k.point (target s.graphics x y) there place) (omega arith) (omega arith) refl
        item_marks none_drawn (rw one_item at counts)))

  -- a block
  module _ (is_Block : s.graphics.aperture.block ≡ true) where
    chosen : IsBlock w.apertures p.apertures s.graphics.aperture
    chosen = selected_block w.apertures p.apertures s.apertures s.graphics.aperture k.apertures k.aperture (flash_set _ _ _ _ _ none_there) is_Block

    block_items : flash_items s.graphics ≡ s.graphics.aperture.items
    unfolding flash_items
    block_items = rw is_Block

    block_height : flash_height s.graphics.aperture ≡ s.graphics.aperture.height + 1
    unfolding flash_height
    block_height = rw is_Block

    quarters : (pose s.graphics (target s.graphics x y)).angle % quarter_turn ≡ 0
    unfolding pose askew
    quarters = eqb-true _ _ (not-false _ (neither _ _ (and_rest _ _ is_Block (flash_straight _ _ _ _ _ none_there))).1)

    low : s.graphics.aperture.height ≤ 8
    low = let l = k.apertures.low _ chosen.inside in let q = chosen.height in omega arith

    lower : p.builder.height ≤ 8 → s.graphics.aperture.height ≤ 7
    unfolding too_tall level_of
    lower l =
        let level = sym (block_level _ p.builder.items p.depth p.copies p.sheet l) ∙ k.level in
        let inside : s.level.inside ≡ 1 = ap (λ (m : Level). m.inside) (sym level) in
        let less : s.graphics.aperture.height < 8 = leb-false _ _ (and_rest _ _ (eq-eqb _ _ inside) (and_rest _ _ is_Block (flash_low _ _ _ _ _ none_there))) in
        omega arith

    block_marks : marks_of (command.Operate (operation.Flash x y)) s.graphics place ≡ mark.flash s.graphics.aperture.number (pose s.graphics (target s.graphics x y)) place ∷ []
    unfolding marks_of operation_marks flash_marks
    block_marks = rw is_Block

    abbrev e_used : List ℕ
    e_used = pushed w.entries p.builder.high (use_entry p.builder.items s.graphics.aperture.slot (pose s.graphics (target s.graphics x y)) place)

    abbrev b_used : Builder
    b_used = grown p.builder s.graphics.aperture.items (raised p.builder.height s.graphics.aperture.height)

    pub block_knows : Knows (with_entries e_used w) (advanced p (after (command.Operate (operation.Flash x y)) s.graphics) b_used p.contour) (flash_step (room_of w) place x y s).next
    unfolding flash_step grown level_of block_of edges
    block_knows =
        let l = left in
        let room : p.builder.high < entry_room w.entries = omega arith in
        let b = chosen in
        let shown = puts_flash _ w.entries w.apertures (entry_room w.entries) p.apertures p.builder k.shows l s.graphics.aperture.slot
        (pose s.graphics (target s.graphics x y)) place (pose_near s.graphics k.point (target s.graphics x y) there place) quarters b.inside b.is
        (rw b.height low) (λ l. rw b.height (lower l)) in
        rw (block_items, block_height)
        (grown_knows w p s (command.Operate (operation.Flash x y)) place 1 s.graphics.aperture.items (s.graphics.aperture.height + 1) e_used b_used p.contour k (flash_moves w p s x y k there)
        (record {
          as_long = (pushed_is w.entries p.builder.high _ room).as_long;
          below = below_pushed w.entries p.builder.high p.builder.start _ room (start_low w p s k);
          start_is = refl;
          rises = raised_rises p.builder.height s.graphics.aperture.height low lower;
          level = flash_level p.builder.height s.graphics.aperture.height p.builder.items p.depth p.copies p.sheet s.graphics.aperture.items low lower;
          counts = rw block_items at counts;
          entries = omega arith;
          shows = rw (block_marks, one_more s.marks (mark.flash s.graphics.aperture.number (pose s.graphics (target s.graphics x y)) place) refl)
              (rw (b.number, b.items, b.height) at shown);
          contour = λ q. absurd (none_drawn q);
        }))

-- as the code has it: by the progress, and the entries at the call
module _ (e : List ℕ) (p : Progress) (place : ℕ) (x y : Option ℤ) (may : MayFlash e p x y) where
  pub flash_has_room : p.builder.closed + p.builder.high < entry_room e
  flash_has_room =
      let l = flash_room _ _ _ _ _ may.none in
      let f = known_fits e p may.known in
      omega arith

  -- what a flash of a block asks for
  pub use_asks : p.graphics.aperture.block ≡ true →
      (p.builder.closed + p.builder.high < entry_room e)
      × ((p.builder.items ≤ 1000000000000) × (p.graphics.aperture.items ≤ 1000000000000) × (p.graphics.aperture.height ≤ 8))
  use_asks q =
      let k = may.known.knows in
      let lent = may.known.is in (
        flash_has_room,
        (
          known_items e p may.known,
          known_few e p may.known,
          rw k.graphics (low may.known.lent p may.known.state k place x y (rw (← lent) at may.none) (rw k.graphics at q)),
        ),
      )

  abbrev leads : List ℕ → Progress → Type 0
  leads e' r = Leads (λ room s. flash_step room place x y s) (λ w. w.entries ≡ e) (with_entries e') p r

  item_leads : p.graphics.aperture.block ≡ false →
      leads (pushed e p.builder.high (item_entry p.builder.items (flashed p.graphics (target p.graphics x y) place)))
      (advanced p (after (command.Operate (operation.Flash x y)) p.graphics) (grown p.builder 1 p.builder.height) p.contour)
  item_leads plain w s lent k =
      rw (← lent, k.graphics)
      (item_knows w p s k place x y (rw (← lent) at may.none) (rw k.graphics at plain))

  block_leads : p.graphics.aperture.block ≡ true →
      leads (pushed e p.builder.high (use_entry p.builder.items p.graphics.aperture.slot (pose p.graphics (target p.graphics x y)) place))
      (advanced p (after (command.Operate (operation.Flash x y)) p.graphics) (grown p.builder p.graphics.aperture.items (raised p.builder.height p.graphics.aperture.height)) p.contour)
  block_leads is_Block w s lent k =
      rw (← lent, k.graphics)
      (block_knows w p s k place x y (rw (← lent) at may.none) (rw k.graphics at is_Block))

  module _ {end : Point} {e' : List ℕ} {b' : Builder} (end_is : end ≡ target p.graphics x y) where
    pub item_flashed : {t : Item} → p.graphics.aperture.block ≡ false → t ≡ flashed p.graphics end place →
        (b' ≡ grown p.builder 1 p.builder.height) × (e' ≡ pushed e p.builder.high (item_entry p.builder.items t)) →
        leads e' (with_stroke (record { at = end; region = p.graphics.region; builder = b'; contour = p.contour }) p)
    unfolding after after_operation going_to with_point with_region
    item_flashed plain t-is put = rw (put.0, put.1, t-is, end_is) (item_leads plain)

    pub block_flashed : {m : Pose} → p.graphics.aperture.block ≡ true → m ≡ pose p.graphics end →
        (b' ≡ grown p.builder p.graphics.aperture.items (raised p.builder.height p.graphics.aperture.height))
        × (e' ≡ pushed e p.builder.high (use_entry p.builder.items p.graphics.aperture.slot m place)) →
        leads e' (with_stroke (record { at = end; region = p.graphics.region; builder = b'; contour = p.contour }) p)
    unfolding after after_operation going_to with_point with_region
    block_flashed is_Block m-is put = rw (put.0, put.1, m-is, end_is) (block_leads is_Block)

-- the number that the code has is that of the step's fault
module _ (e : List ℕ) (p : Progress) (place : ℕ) (x y : Option ℤ) {n room : ℕ} {l : Level} (level_is : l ≡ level_of p) (room_is : room ≡ left_of e p.builder)
    (fault_is : n ≡ flash_fault p.graphics l room x y) where
  same_fault : flash_fault p.graphics (level_of p) (left_of e p.builder) x y ≡ n
  same_fault = sym (fault_is ∙ (λ i. flash_fault p.graphics (level_is i) (room_is i) x y))

  flash_says : (w : Lent) (s : State) → w.entries ≡ e → Knows w p s → (flash_step (room_of w) place x y s).fault ≡ n
  flash_says w s lent k = sym (flash_faults w p s k place x y) ∙ rw lent same_fault

  pub may_flash : Known (λ w. w.entries ≡ e) p → n ≡ 0 → MayFlash e p x y
  may_flash known zero = record { known = known; none = same_fault ∙ zero }

  pub flash_refused : (e' : List ℕ) (rule : Rule) → number_of_rule rule ≡ n → StrikesTo (λ room s. flash_step room place x y s) (λ w. w.entries ≡ e) (with_entries e') p (Fault rule)
  flash_refused = refused (λ room s. flash_step room place x y s) e p flash_says

  pub flash_goes : (e' : List ℕ) (r : Stroke) → n ≡ 0 → Leads (λ room s. flash_step room place x y s) (λ w. w.entries ≡ e) (with_entries e') p (with_stroke r p) →
      StrikesTo (λ room s. flash_step room place x y s) (λ w. w.entries ≡ e) (with_entries e') p (Next r)
  flash_goes = goes (λ room s. flash_step room place x y s) e p flash_says
