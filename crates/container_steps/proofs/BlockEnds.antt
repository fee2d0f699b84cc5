-- A block that closes: its fault, and what is known after it.
-- Assumes nothing.
use Rattle.faults.specs.Rule.{number_of_rule}
use Rattle.faults.specs.declared.Rule.{Rule}
use Rattle.std.specs.Prelude.{Err, Ok}
use Prim.Native.Nat.{ℕ, ◌+◌, ◌-◌, ◌≤◌, ◌<◌}
use mathlib.Core.Path.{◌≡◌, refl, sym, ap, ◌∙◌}
use mathlib.Core.Bool.{false, not}
use mathlib.Core.List.{List, [], ◌∷◌, ◌++◌}
use native.Mathlib.Nat.{le_refl}
use native.Mathlib.Omega.{arith}
use lib.Dec.{eqb, lit≤}
use borrow.Author.Tests.{not-false, eqb-true}
use Rattle.base.specs.Or.{◌or◌}
use Rattle.place.specs.Mark.{finish, edges, written}
use Rattle.graphics.specs.declared.Graphics.{Graphics}
use Rattle.graphics.specs.Graphics.{origin, unset, with_point}
use Rattle.command.specs.declared.Bracket.TheVariants as bracket
use Rattle.command.specs.declared.Command.TheVariants as command
use Rattle.changes.specs.After.{after}
use Rattle.graphics.specs.declared.Level.{Level}
use Rattle.operation_rules.specs.Counts.{most}
use Rattle.base.proofs.Faults.{unbroken}
use Rattle.command_rules.specs.Rules.{closing_fault}
use Rattle.marks.specs.Marks.{bracket_marks, marks_of}
use Rattle.law_bounds.proofs.Tables.{neither}
use Rattle.sheet.specs.Records.{entry_room, aperture_of, aperture_room}
use Rattle.law_open_store.specs.Open.{opener}
use Rattle.law_open_store.proofs.Grow.{stays_as_high}
use Rattle.build.specs.declared.Builder.{Builder}
use Rattle.build.specs.Closed.{Closes, BlockClosed}
use Rattle.law_built_store.specs.Shown.{blank, Shows}
use Rattle.law_built_store.proofs.Marks.{one_more}
use Rattle.law_built_store.proofs.Ends.{closes_block}
use Rattle.law_reading.specs.State.{State}
use Rattle.law_reading.specs.Apertures.{closing}
use Rattle.law_reading.specs.Steps as steps
use Rattle.law_reading.specs.Steps.{passed, with_level, with_opened, block_ends, block_end_step}
use Rattle.progress.specs.declared.Progress.{Progress}
use Rattle.progress.specs.Parts.{with_graphics, with_builder, with_depth}
use Rattle.progress.specs.Lent.{Lent, with_entries, with_apertures}
use Rattle.progress.specs.Levels.{level_of}
use Rattle.progress.specs.Tables.{ApertureTable, Chosen}
use Rattle.progress.specs.Around.{Around}
use Rattle.progress.specs.Knows.{Knows, Known, Follows, StepsTo}
use Rattle.progress.proofs.Around.{start_low, openers_kept, around_kept}
use Rattle.progress.proofs.Outside.{no_contour}
use Rattle.progress.proofs.Levels.{block_level, items_known}
use Rattle.container_steps.proofs.Levels.{inside_block, AroundBlock, around_block}
use Rattle.container_steps.proofs.Tables.{closing_room, closing_kept, table_closed, chosen_closed}

-- how far reading has come after the AB that closes
abbrev pub unblocked : Progress → Graphics → Builder → Progress
unblocked p g b = with_depth (p.depth - 1) (with_builder b (with_graphics g p))

module _ (w : Lent) (s : State) (p : Progress) (k : Knows w p s) where
  pub block_end_fault : (place : ℕ) → (block_end_step place s).fault ≡ closing_fault p.graphics (level_of p) 1
  unfolding block_end_step
  block_end_fault place = λ i. closing_fault (sym k.graphics i) (sym k.level i) 1

  module _ (none : closing_fault p.graphics (level_of p) 1 ≡ 0) where
    passes : (p.graphics.region.on ≡ false) × (not (eqb (level_of p).inside 1) ≡ false)
    unfolding closing_fault
    passes = neither _ _ (unbroken (lit≤ tt) none).0

    low : p.builder.height ≤ 8
    unfolding level_of
    low = inside_block p.builder.height p.builder.items p.depth p.copies p.sheet (eqb-true _ _ (not-false _ passes.1))

    level_is : s.level ≡ record { inside = 1; items = p.builder.items; height = p.builder.height; depth = p.depth; copies = 1; sheet = 0 }
    unfolding level_of
    level_is = sym k.level ∙ block_level p.builder.height p.builder.items p.depth p.copies p.sheet low

    few : p.builder.items ≤ most
    few = items_known w p s k

    inner : AroundBlock w.entries w.apertures (entry_room w.entries) p.apertures s.opened p.builder.start p.builder.height p.depth p.copies p.sheet
    inner = around_block w.entries w.apertures (entry_room w.entries) p.apertures s.opened p.builder.start p.builder.height p.depth p.copies p.sheet low k.around

    pub block_deep : 1 ≤ p.depth
    block_deep = inner.here.some

    pub block_closes : Closes w.entries p.builder
    block_closes =
        let below = inner.here.below in
        record {
          some = omega arith;
          below = start_low w p s k;
          fits = k.shows.fits;
        }

    abbrev who : ℕ
    who = (opener w.entries (entry_room w.entries) p.builder.start).who

    pub block_record : who < aperture_room w.apertures
    block_record = closing_room w.apertures p.apertures s.apertures k.apertures who 0 0 0 0 inner.here.early

    module _ (e' a' : List ℕ) (b : Builder) (c : BlockClosed w.entries e' w.apertures a' p.builder b) where
      abbrev n : ℕ
      n = inner.number

      table_then : ApertureTable a' p.apertures (closing n p.builder.items p.builder.height s.apertures)
      table_then =
          rw (c.stores, ← inner.here.number)
          (table_closed w.apertures p.apertures s.apertures k.apertures who p.builder.closed (p.builder.high - p.builder.start) p.builder.items p.builder.height
          inner.here.early few low)

      kept : (j : ℕ) → (j ≡ who → ⊥) → aperture_of a' j ≡ aperture_of w.apertures j
      kept j ne = rw c.stores (closing_kept w.apertures p.apertures s.apertures k.apertures who p.builder.closed (p.builder.high - p.builder.start) p.builder.items p.builder.height inner.here.early j ne)

      chosen_then : Chosen a' p.apertures s.graphics.aperture
      chosen_then =
          rw c.stores
          (chosen_closed w.apertures p.apertures s.apertures k.apertures who p.builder.closed (p.builder.high - p.builder.start) p.builder.items p.builder.height
          inner.here.early s.graphics.aperture inner.here.is_open_lem k.aperture)

      openers : (q : ℕ) → 1 ≤ q → q ≤ p.builder.start - 1 → opener w.entries (entry_room w.entries) q ≡ opener e' (entry_room w.entries) q
      openers = openers_kept w.entries e' (entry_room w.entries) (p.builder.start - 1) (λ q l. c.leaves.moved.same_stack q (omega arith))

      around_then : Around e' a' (entry_room e') p.apertures inner.others b.start b.height (p.depth - 1) p.copies p.sheet
      around_then =
          let below = inner.here.below in
          let early = inner.here.early in
          rw (c.leaves.moved.as_long, c.next)
          (around_kept w.entries w.apertures e' a' (entry_room w.entries) (p.builder.start - 1) who openers
          (λ i l. sym (kept i (λ q. let z : i ≡ who = q in absurd (omega arith))))
          inner.others who p.apertures _ _ _ (p.depth - 1) p.copies p.sheet (omega arith) (le_refl _) (omega arith) (stays_as_high _) inner.rest)

      shows_then : Shows (s.marks ++ finish ∷ []) e' a' (entry_room e') p.apertures b
      unfolding edges
      shows_then =
          let rooms = k.apertures.indexed.tree.inside in
          rw (one_more s.marks finish refl, c.leaves.moved.as_long)
          (closes_block (written s.marks blank) w.entries e' w.apertures a' p.apertures p.builder b k.shows low few (omega arith) c)

      entries_then : b.closed + b.high ≡ s.entries + 0
      entries_then =
          let q = k.entries in
          let below = block_closes.below in
          rw c.next (omega arith)

      next_is : (place : ℕ) → (block_end_step place s).next ≡
          with_level inner.outer (with_opened inner.others (steps.with_apertures (closing n p.builder.items p.builder.height s.apertures) (passed (command.Contain bracket.BlockEnd) place 0 s)))
      unfolding block_end_step block_ends passed
      next_is place =
          ap (λ os. block_ends os (passed (command.Contain bracket.BlockEnd) place 0 s)) inner.is
          ∙ (λ i. with_level inner.outer (with_opened inner.others (steps.with_apertures (closing n (level_is i).items (level_is i).height s.apertures) (passed (command.Contain bracket.BlockEnd) place 0 s))))

      pub block_ends_lem : (place : ℕ) → Knows (with_apertures a' (with_entries e' w)) (unblocked p (after (command.Contain bracket.BlockEnd) p.graphics) b) (block_end_step place s).next
      unfolding with_level with_opened steps.with_apertures passed with_entries with_apertures after with_point unset origin marks_of bracket_marks level_of
      block_ends_lem place =
          rw (next_is place)
          (record {
            graphics = ap (after (command.Contain bracket.BlockEnd)) k.graphics;
            point = record { across = lit≤ tt; up = lit≤ tt };
            mode = k.mode;
            inside = k.inside;
            aperture = chosen_then;
            level = rw c.next inner.here.level;
            counts = inner.here.counts;
            around = around_then;
            apertures = table_then;
            macros = k.macros;
            numbers = k.numbers;
            entries = entries_then;
            shows = shows_then;
            contour = λ q. absurd (no_contour w p s k (rw k.graphics at passes.0) q);
          })

-- the AB that closes ends in its fault, or in what is known after it; what the calls answer is handed in
module _ (e a : List ℕ) (p : Progress) (l : Level) (level-told : l ≡ level_of p) (fault : ℕ) (fault-told : fault ≡ closing_fault p.graphics l 1) where
  abbrev lends : Lent → Type 0
  lends w = (w.entries ≡ e) × (w.apertures ≡ a)

  fault_is : fault ≡ closing_fault p.graphics (level_of p) 1
  fault_is = fault-told ∙ (λ i. closing_fault p.graphics (level-told i) 1)

  pub block_end_refused : (e' a' : List ℕ) (rule : Rule) → number_of_rule rule ≡ fault → (place : ℕ) → StepsTo (λ room s. block_end_step place s) lends (λ w. with_apertures a' (with_entries e' w)) p (Err rule)
  unfolding Follows
  block_end_refused e' a' rule is place w s q k = block_end_fault w s p k place ∙ sym fault_is ∙ sym is

  module _ (known : Known lends p) (none : fault ≡ 0) where
    pub block_end_deep : 1 ≤ p.depth
    block_end_deep = block_deep known.lent known.state p known.knows (sym fault_is ∙ none)

    pub block_end_closes : Closes e p.builder × ((opener e (entry_room e) p.builder.start).who < aperture_room a)
    block_end_closes =
        let w = known.lent in
        let k = known.knows in
        rw (← known.is.0, ← known.is.1) (block_closes w known.state p k (sym fault_is ∙ none), block_record w known.state p k (sym fault_is ∙ none))

    pub block_end_ends : (e' a' : List ℕ) (b : Builder) → BlockClosed e e' a a' p.builder b → {g : Graphics} → g ≡ after (command.Contain bracket.BlockEnd) p.graphics → {r : Progress} → r ≡ unblocked p g b →
        (place : ℕ) → StepsTo (λ room s. block_end_step place s) lends (λ w. with_apertures a' (with_entries e' w)) p (Ok r)
    unfolding Follows
    block_end_ends e' a' b c g-is r-is place w s q k =
        let closed : BlockClosed w.entries e' w.apertures a' p.builder b = rw (q.0, q.1) c in
        rw (r-is, g-is) (block_end_fault w s p k place ∙ sym fault_is ∙ none, block_ends_lem w s p k (sym fault_is ∙ none) e' a' b closed place)
