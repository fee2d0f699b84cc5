-- A repeat that closes: its fault, and what is known after it.
-- Assumes nothing.
use Rattle.faults.specs.Rule.{number_of_rule}
use Rattle.faults.specs.declared.Rule.{Rule}
use Rattle.std.specs.Prelude.{Err, Ok}
use Prim.Native.Nat.{ℕ, ◌+◌, ◌*◌, ◌≤◌}
use mathlib.Core.Path.{◌≡◌, refl, sym, ap, ◌∙◌}
use mathlib.Core.Bool.{false, not}
use mathlib.Core.List.{List, [], ◌∷◌, ◌++◌}
use native.Mathlib.Nat.{le_refl}
use native.Mathlib.Omega.{arith}
use lib.Dec.{eqb, lit≤}
use borrow.Author.Tests.{not-false, eqb-true}
use Rattle.base.specs.Or.{◌or◌}
use Rattle.place.specs.Mark.{finish, edges, written}
use Rattle.graphics.specs.declared.Graphics.{Graphics}
use Rattle.graphics.specs.Graphics.{origin, unset, with_point}
use Rattle.command.specs.declared.Bracket.TheVariants as bracket
use Rattle.command.specs.declared.Command.TheVariants as command
use Rattle.changes.specs.After.{after}
use Rattle.graphics.specs.declared.Level.{Level}
use Rattle.operation_rules.specs.Counts.{most, counted}
use Rattle.base.proofs.Faults.{unbroken}
use Rattle.command_rules.specs.Rules.{closing_fault}
use Rattle.marks.specs.Marks.{bracket_marks, marks_of}
use Rattle.law_bounds.proofs.Tables.{neither}
use Rattle.sheet.specs.Records.{entry_room}
use Rattle.sheet.specs.declared.Entry.{Entry}
use Rattle.law_open_store.specs.Open.{opener}
use Rattle.law_open_store.proofs.Grow.{stays_as_high}
use Rattle.build.specs.declared.Builder.{Builder}
use Rattle.build.specs.Closed.{Closes, RepeatClosed}
use Rattle.law_built_store.specs.Shown.{blank, Shows}
use Rattle.law_built_store.proofs.Marks.{one_more}
use Rattle.law_built_store.proofs.Ends.{closes_repeat}
use Rattle.law_reading.specs.State.{State}
use Rattle.law_reading.specs.Levels.{raised_to, with_items}
use Rattle.law_reading.specs.Steps.{passed, with_level, with_opened, repeat_ends, repeat_end_step}
use Rattle.progress.specs.declared.Progress.{Progress}
use Rattle.progress.specs.Parts.{with_graphics, with_builder, with_repeat}
use Rattle.progress.specs.Lent.{Lent, with_entries}
use Rattle.progress.specs.Levels.{level_of, Counted}
use Rattle.progress.specs.Around.{Around}
use Rattle.progress.specs.Knows.{Knows, Known, Follows, StepsTo}
use Rattle.progress.proofs.Around.{start_low, around_kept}
use Rattle.progress.proofs.Outside.{no_contour}
use Rattle.progress.proofs.Levels.{repeat_level, top_level_lem}
use Rattle.container_steps.proofs.Levels.{inside_repeat, AroundRepeat, around_repeat}

-- how far reading has come after the SR that closes
abbrev pub unrepeated : Progress → Graphics → Builder → Progress
unrepeated p g b = with_repeat 1 0 (with_builder b (with_graphics g p))

module _ (w : Lent) (s : State) (p : Progress) (k : Knows w p s) where
  pub repeat_end_fault : (place : ℕ) → (repeat_end_step place s).fault ≡ closing_fault p.graphics (level_of p) 2
  unfolding repeat_end_step
  repeat_end_fault place = λ i. closing_fault (sym k.graphics i) (sym k.level i) 2

  module _ (none : closing_fault p.graphics (level_of p) 2 ≡ 0) where
    passes : (p.graphics.region.on ≡ false) × (not (eqb (level_of p).inside 2) ≡ false)
    unfolding closing_fault
    passes = neither _ _ (unbroken (lit≤ tt) none).0

    nine : p.builder.height ≡ 9
    unfolding level_of
    nine = inside_repeat p.builder.height p.builder.items p.depth p.copies p.sheet (eqb-true _ _ (not-false _ passes.1))

    level_is : s.level ≡ record { inside = 2; items = p.builder.items; height = 0; depth = p.depth; copies = p.copies; sheet = p.sheet }
    unfolding level_of
    level_is = sym k.level ∙ repeat_level p.builder.height p.builder.items p.depth p.copies p.sheet nine

    abbrev copied : ℕ
    copied = p.copies * p.builder.items

    few : p.sheet + copied ≤ most
    unfolding counted
    few = let c = (rw level_is at k.counts).within in omega arith

    inner : AroundRepeat w.entries w.apertures (entry_room w.entries) p.apertures s.opened p.builder.start p.builder.height p.depth p.copies p.sheet
    inner = around_repeat w.entries w.apertures (entry_room w.entries) p.apertures s.opened p.builder.start p.builder.height p.depth p.copies p.sheet nine k.around

    abbrev o : Entry
    o = opener w.entries (entry_room w.entries) p.builder.start

    pub repeat_closes : Closes w.entries p.builder
    repeat_closes = record {
      some = inner.here.some;
      below = start_low w p s k;
      fits = k.shows.fits;
    }

    pub repeat_whole : o.before + copied ≤ most
    repeat_whole = let f = few in let q = inner.here.sheet_is in omega arith

    outer_is : inner.outer ≡ record { inside = 0; items = o.before; height = 0; depth = 0; copies = 1; sheet = 0 }
    outer_is = sym inner.here.level ∙ top_level_lem 10 o.before 0 1 0 (lit≤ tt) (λ q. let z : ◌≡◌ {A = ℕ} 10 9 = q in omega arith)

    module _ (e' : List ℕ) (b : Builder) (c : RepeatClosed w.entries e' p.builder p.copies b) where
      level_then : level_of (unrepeated p (after (command.Contain bracket.RepeatEnd) p.graphics) b) ≡ with_items copied 0 inner.outer
      unfolding level_of with_items raised_to
      level_then =
          rw c.next
          (top_level_lem 10 (o.before + copied) p.depth 1 0 (lit≤ tt) (λ q. let z : ◌≡◌ {A = ℕ} 10 9 = q in omega arith)
          ∙ (λ i. record { inside = 0; items = o.before + copied; height = 0; depth = inner.here.none i; copies = 1; sheet = 0 })
          ∙ (λ i. with_items copied 0 (sym outer_is i)))

      counts_then : Counted (with_items copied 0 inner.outer)
      unfolding with_items counted
      counts_then = let f = repeat_whole in rw outer_is (record { within = omega arith; before = lit≤ tt; some = lit≤ tt })

      around_then : Around e' w.apertures (entry_room e') p.apertures inner.others b.start b.height p.depth 1 0
      around_then = at_depth p.depth inner.here.none
        where
          at_depth : (d : ℕ) → d ≡ 0 → Around e' w.apertures (entry_room e') p.apertures inner.others b.start b.height d 1 0
          at_depth d none_open =
              rw (c.leaves.moved.as_long, c.next, inner.here.first, none_open)
              (around_kept w.entries w.apertures e' w.apertures (entry_room w.entries) 0 p.apertures (λ q some below. absurd (omega arith)) (λ i l. refl)
              inner.others p.apertures p.apertures 0 10 10 0 1 0 (le_refl _) (le_refl _) (le_refl _) (stays_as_high _) inner.rest)

      shows_then : Shows (s.marks ++ finish ∷ []) e' w.apertures (entry_room e') p.apertures b
      unfolding edges
      shows_then =
          let f = few in
          rw (one_more s.marks finish refl, c.leaves.moved.as_long)
          (closes_repeat (written s.marks blank) w.entries e' w.apertures p.apertures p.builder b p.copies k.shows nine inner.here.copies_are (omega arith) c)

      entries_then : b.closed + b.high ≡ s.entries + 0
      entries_then =
          let q = k.entries in
          let below = repeat_closes.below in
          rw c.next (omega arith)

      next_is : (place : ℕ) → (repeat_end_step place s).next ≡ with_level (with_items copied 0 inner.outer) (with_opened inner.others (passed (command.Contain bracket.RepeatEnd) place 0 s))
      unfolding repeat_end_step repeat_ends passed
      next_is place =
          ap (λ os. repeat_ends os (passed (command.Contain bracket.RepeatEnd) place 0 s)) inner.is
          ∙ (λ i. with_level (with_items ((level_is i).copies * (level_is i).items) 0 inner.outer) (with_opened inner.others (passed (command.Contain bracket.RepeatEnd) place 0 s)))

      pub repeat_ends_lem : (place : ℕ) → Knows (with_entries e' w) (unrepeated p (after (command.Contain bracket.RepeatEnd) p.graphics) b) (repeat_end_step place s).next
      unfolding with_level with_opened passed with_entries after with_point unset origin marks_of bracket_marks
      repeat_ends_lem place =
          rw (next_is place)
          (record {
            graphics = ap (after (command.Contain bracket.RepeatEnd)) k.graphics;
            point = record { across = lit≤ tt; up = lit≤ tt };
            mode = k.mode;
            inside = k.inside;
            aperture = k.aperture;
            level = level_then;
            counts = counts_then;
            around = around_then;
            apertures = k.apertures;
            macros = k.macros;
            numbers = k.numbers;
            entries = entries_then;
            shows = shows_then;
            contour = λ q. absurd (no_contour w p s k (rw k.graphics at passes.0) q);
          })

-- the SR that closes ends in its fault, or in what is known after it; what the calls answer is handed in
module _ (e : List ℕ) (p : Progress) (l : Level) (level-told : l ≡ level_of p) (fault : ℕ) (fault-told : fault ≡ closing_fault p.graphics l 2) where
  fault_is : fault ≡ closing_fault p.graphics (level_of p) 2
  fault_is = fault-told ∙ (λ i. closing_fault p.graphics (level-told i) 2)

  pub repeat_end_refused : (e' : List ℕ) (rule : Rule) → number_of_rule rule ≡ fault → (place : ℕ) → StepsTo (λ room s. repeat_end_step place s) (λ w. w.entries ≡ e) (with_entries e') p (Err rule)
  unfolding Follows
  repeat_end_refused e' rule is place w s q k = repeat_end_fault w s p k place ∙ sym fault_is ∙ sym is

  module _ (known : Known (λ w. w.entries ≡ e) p) (none : fault ≡ 0) where
    pub repeat_end_closes : Closes e p.builder × ((opener e (entry_room e) p.builder.start).before + p.copies * p.builder.items ≤ most)
    repeat_end_closes =
        let w = known.lent in
        let k = known.knows in
        rw (← known.is) (repeat_closes w known.state p k (sym fault_is ∙ none), repeat_whole w known.state p k (sym fault_is ∙ none))

    pub repeat_end_ends : (e' : List ℕ) (b : Builder) → RepeatClosed e e' p.builder p.copies b → {g : Graphics} → g ≡ after (command.Contain bracket.RepeatEnd) p.graphics → {r : Progress} → r ≡ unrepeated p g b →
        (place : ℕ) → StepsTo (λ room s. repeat_end_step place s) (λ w. w.entries ≡ e) (with_entries e') p (Ok r)
    unfolding Follows
    repeat_end_ends e' b c g-is r-is place w s q k =
        let closed : RepeatClosed w.entries e' p.builder p.copies b = rw q c in
        rw (r-is, g-is) (repeat_end_fault w s p k place ∙ sym fault_is ∙ none, repeat_ends_lem w s p k (sym fault_is ∙ none) e' b closed place)
