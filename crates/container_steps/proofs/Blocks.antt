-- A block that opens: its fault, and what is known after it.
-- Assumes nothing.
use Rattle.faults.specs.Rule.{number_of_rule}
use Rattle.faults.specs.declared.Rule.{Rule}
use Rattle.std.specs.Prelude.{Err, Ok, Result, ℕ}
use Prim.Native.Nat.{ℕ, suc, ◌+◌, ◌-◌, ◌≤◌, ◌<◌}
use mathlib.Core.Path.{◌≡◌, refl, sym, ap, subst, ◌∙◌}
use mathlib.Core.Bool.{Bool, true, false, not}
use mathlib.Core.List.{List, [], ◌∷◌, ◌++◌}
use native.Mathlib.Nat.{le_refl}
use native.Mathlib.Numerals.{add-one}
use native.Mathlib.Omega.{arith}
use lib.Dec.{eqb, leb, ltb, lit≤}
use borrow.Author.Tests.{not-false, leb-false}
use Rattle.base.specs.Or.{◌or◌}
use Rattle.place.specs.Mark.{begin, block, edges, written}
use Rattle.graphics.specs.declared.Graphics.{Graphics}
use Rattle.graphics.specs.Graphics.{origin, unset, with_point}
use Rattle.base.specs.Choose.{pick}
use Rattle.command.specs.declared.Bracket.TheVariants as bracket
use Rattle.command.specs.declared.Command.TheVariants as command
use Rattle.changes.specs.After.{after}
use Rattle.graphics.specs.declared.Level.{Level}
use Rattle.operation_rules.specs.Counts.{counted}
use Rattle.base.proofs.Faults.{unbroken}
use Rattle.command_rules.specs.Rules.{block_start_fault}
use Rattle.marks.specs.Marks.{bracket_marks, marks_of}
use Rattle.law_bounds.proofs.Tables.{neither}
use Rattle.index.specs.Numbers.{numbered, Numbered}
use Rattle.sheet.specs.Records.{entry_room, aperture_of, aperture_room}
use Rattle.sheet.specs.Valid.{is_block}
use Rattle.sheet.specs.declared.Aperture.{Aperture}
use Rattle.sheet.proofs.Apertures.{aperture_number_lem}
use Rattle.build.specs.Stack.{has_room, pushed}
use Rattle.build.proofs.Turning.{room_left}
use Rattle.tables.specs.Added.{added}
use Rattle.tables.specs.Apertures.{aperture_words}
use Rattle.tables.proofs.Apertures.{aperture_numbered}
use Rattle.law_open_store.specs.Open.{opener}
use Rattle.law_open_store.proofs.Grow.{stays_as_high}
use Rattle.build.specs.declared.Builder.{Builder}
use Rattle.build.specs.Builder.{inner}
use Rattle.build.specs.Entries.{block_entry}
use Rattle.law_built_store.specs.Shown.{blank, Shows}
use Rattle.law_built_store.proofs.Entries.{pushed_is}
use Rattle.law_built_store.proofs.Marks.{one_more, opens_block}
use Rattle.law_reading.specs.State as opened
use Rattle.law_reading.specs.State.{Room, State}
use Rattle.law_reading.specs.Apertures.{is_taken, opening}
use Rattle.law_reading.specs.Levels.{in_block}
use Rattle.law_reading.specs.Steps as steps
use Rattle.law_reading.specs.Steps.{Step, passed, with_level, with_opened, block_start_step}
use Rattle.progress.specs.declared.Progress.{Progress}
use Rattle.progress.specs.Parts as parts
use Rattle.progress.specs.Parts.{with_graphics, with_builder, with_depth}
use Rattle.progress.specs.Lent.{Lent, room_of, with_entries, with_apertures}
use Rattle.progress.specs.Levels.{level_at, level_of, Counted}
use Rattle.progress.specs.Tables.{as_stored, as_read, ApertureTable}
use Rattle.progress.specs.Around.{Around}
use Rattle.progress.specs.Knows.{Knows, Known, Follows, StepsTo}
use Rattle.progress.proofs.Around.{start_low, around_kept}
use Rattle.progress.proofs.Outside.{no_contour}
use Rattle.progress.proofs.Levels.{block_level}
use Rattle.progress.proofs.Apertures.{taken_at_lem, taken_free, known_long, record_kept, record_new, table_more, chosen_kept}
use Rattle.container_steps.proofs.Full.{full_is}

-- a number that is taken is a fault
pub taken_fault : (g : Graphics) (l : Level) (full : Bool) → 1 ≤ block_start_fault g l true full
unfolding block_start_fault pick
taken_fault g l full = go g.region.on
  where
    go : (b : Bool) → 1 ≤ pick b 7 8
    go true = lit≤ tt
    go false = lit≤ tt

-- the record of a block that opens
abbrev open_record : ℕ → Aperture
open_record n = record { number = n; kind = 0; first = 0; len = 0; items = 0; height = 0 }

-- how far reading has come after AB
abbrev pub blocked : Progress → Graphics → Builder → Progress
blocked p g b = parts.with_apertures (p.apertures + 1) (with_depth (p.depth + 1) (with_builder b (with_graphics g p)))

-- room is full
abbrev full_at : List ℕ → List ℕ → Progress → Bool
full_at e a p = not (has_room e p.builder.closed p.builder.high) or leb (aperture_room a) p.apertures

module _ (w : Lent) (s : State) (p : Progress) (k : Knows w p s) (place n : ℕ) where
  -- the test of the code is the rule
  pub block_fault : (taken : Bool) → is_taken n s.apertures ≡ taken →
      (block_start_step (room_of w) place n s).fault ≡ block_start_fault p.graphics (level_of p) taken (full_at w.entries w.apertures p)
  unfolding block_start_step room_of has_room
  block_fault taken q =
      let full : eqb (entry_room w.entries - s.entries) 0 ≡ not (ltb (p.builder.closed + p.builder.high) (entry_room w.entries)) =
      rw (← k.entries) (full_is (entry_room w.entries) (p.builder.closed + p.builder.high)) in
      let used = known_long w.apertures p.apertures s.apertures k.apertures in
      λ i. block_start_fault (sym k.graphics i) (sym k.level i) (q i) (full i or leb (aperture_room w.apertures) (used i))

  module _ (link : ℕ) (free : numbered w.apertures p.apertures n ≡ Err link)
      (none : block_start_fault p.graphics (level_of p) false (full_at w.entries w.apertures p) ≡ 0) where
    passes : (p.graphics.region.on ≡ false) × (leb 8 (level_of p).depth ≡ false) × (full_at w.entries w.apertures p ≡ false)
    unfolding block_start_fault
    passes =
        let first = unbroken (lit≤ tt) none in
        let second = unbroken (lit≤ tt) first.1 in
        let third = unbroken (lit≤ tt) second.1 in
        let fourth = unbroken (lit≤ tt) third.1 in
        (first.0, third.0, fourth.0)

    pub block_depth : p.depth < 8
    unfolding level_of level_at
    block_depth = leb-false 8 p.depth passes.1

    pub block_room : p.builder.closed + p.builder.high < entry_room w.entries
    block_room = room_left _ _ _ (not-false _ (neither _ _ passes.2).0)

    high_room : p.builder.high < entry_room w.entries
    high_room = let l = block_room in omega arith

    pub record_room : p.apertures < aperture_room w.apertures
    record_room = leb-false _ _ (neither _ _ passes.2).1

    abbrev leaves : List ℕ
    leaves = pushed w.entries p.builder.high (block_entry p.builder.items p.apertures p.builder.start p.builder.height place)

    abbrev records : List ℕ
    records = added w.apertures p.apertures link (aperture_words (open_record n))

    opening_free : numbered w.apertures p.apertures (open_record n).number ≡ Err link
    opening_free = free

    kept : (i : ℕ) → i < p.apertures → aperture_of records i ≡ aperture_of w.apertures i
    kept = record_kept w.apertures p.apertures s.apertures k.apertures link (open_record n) record_room opening_free

    new : aperture_of records p.apertures ≡ open_record n
    new = record_new w.apertures p.apertures s.apertures k.apertures link (open_record n) record_room opening_free

    level_then : level_of (blocked p (after (command.Contain (bracket.BlockStart n)) p.graphics) (inner p.builder 1)) ≡ in_block s.level
    unfolding level_of inner in_block level_at
    level_then = block_level 1 0 (p.depth + 1) p.copies p.sheet (lit≤ tt) ∙ rw (← k.level)

    counts_then : Counted (in_block s.level)
    unfolding in_block counted
    counts_then = record { within = lit≤ tt; before = lit≤ tt; some = lit≤ tt }

    long : entry_room leaves ≡ entry_room w.entries
    long = (pushed_is w.entries p.builder.high _ high_room).as_long

    opener_is : opener leaves (entry_room w.entries) (p.builder.high + 1) ≡ block_entry p.builder.items p.apertures p.builder.start p.builder.height place
    opener_is = rw (add-one p.builder.high) (pushed_is w.entries p.builder.high _ high_room).new

    openers : (q : ℕ) → 1 ≤ q → q ≤ p.builder.high → opener w.entries (entry_room w.entries) q ≡ opener leaves (entry_room w.entries) q
    openers q some below =
        let f = high_room in
        sym ((pushed_is w.entries p.builder.high _ high_room).kept _
        (λ z. let z' : entry_room w.entries - q ≡ entry_room w.entries - suc p.builder.high = z in absurd (omega arith)))

    around_then : Around leaves records (entry_room leaves) (p.apertures + 1) (opened.block n s.level ∷ s.opened) (p.builder.high + 1) 1 (p.depth + 1) p.copies p.sheet
    unfolding Around block_entry opening level_of
    around_then =
        let below = start_low w p s k in
        let one : p.depth + 1 - 1 ≡ p.depth = omega arith in
        rw (long, opener_is, one) (
          record {
            low = lit≤ tt;
            lower = lit≤ tt;
            some = omega arith;
            below = omega arith;
            early = omega arith;
            number = ap (λ (x : Aperture). x.number) new;
            is_open_lem = ap (λ (x : Aperture). x.kind) new;
            level = rw one k.level;
            counts = k.counts;
          },
          subst (λ (room : ℕ). Around leaves records room p.apertures s.opened p.builder.start p.builder.height p.depth p.copies p.sheet) (sym long)
              (around_kept w.entries w.apertures leaves records (entry_room w.entries) p.builder.high p.apertures openers (λ i l. sym (kept i l))
              s.opened p.apertures p.apertures p.builder.start p.builder.height p.builder.height p.depth p.copies p.sheet below (le_refl _) (le_refl _) (stays_as_high _) k.around),
        )

    shows_then : Shows (s.marks ++ begin (block n) ∷ []) leaves records (entry_room leaves) (p.apertures + 1) (inner p.builder 1)
    unfolding edges is_block opening
    shows_then =
        rw (one_more s.marks (begin (block n)) refl, long, add-one p.apertures)
        (opens_block (written s.marks blank) w.entries w.apertures (entry_room w.entries) p.apertures p.builder k.shows block_room
        n place records (λ i l. sym (kept i l)) (ap (λ (x : Aperture). x.number) new) (ap (λ (x : Aperture). eqb x.kind 6) new)
        (λ c d l m q. (aperture_numbered w.apertures p.apertures link (open_record n) record_room k.apertures.indexed opening_free).distinct c d l m
        (sym (aperture_number_lem records c) ∙ q ∙ aperture_number_lem records d)))

    table_then : ApertureTable records (p.apertures + 1) (s.apertures ++ (opening n ∷ []))
    unfolding as_read as_stored opening
    table_then = table_more w.apertures p.apertures s.apertures k.apertures link (open_record n) record_room opening_free (lit≤ tt) (lit≤ tt)

    pub block_begins : Knows (with_apertures records (with_entries leaves w)) (blocked p (after (command.Contain (bracket.BlockStart n)) p.graphics) (inner p.builder 1)) (block_start_step (room_of w) place n s).next
    unfolding block_start_step with_level with_opened steps.with_apertures passed with_entries with_apertures after with_point unset origin marks_of bracket_marks inner
    block_begins =
        let entries = k.entries in
        record {
          graphics = ap (after (command.Contain (bracket.BlockStart n))) k.graphics;
          point = record { across = lit≤ tt; up = lit≤ tt };
          mode = k.mode;
          inside = k.inside;
          aperture = chosen_kept w.apertures records p.apertures (p.apertures + 1) _ kept (omega arith) k.aperture;
          level = level_then;
          counts = counts_then;
          around = around_then;
          apertures = table_then;
          macros = k.macros;
          numbers = k.numbers;
          entries = omega arith;
          shows = shows_then;
          contour = λ q. absurd (no_contour w p s k (rw k.graphics at passes.0) q);
        }

-- the table that is lent is searched
pub lent_numbered : (e a : List ℕ) (p : Progress) → Known (λ w. (w.entries ≡ e) × (w.apertures ≡ a)) p → Numbered a p.apertures
lent_numbered e a p known = rw known.is.1 at known.knows.apertures.indexed

-- AB ends in its fault, or in what is known after it; what the calls answer is handed in
module _ (e a : List ℕ) (p : Progress) (place n : ℕ) (known : Known (λ w. (w.entries ≡ e) × (w.apertures ≡ a)) p)
    (room : Bool) (room_is : room ≡ has_room e p.builder.closed p.builder.high)
    (full : Bool) (full-told : full ≡ (not room or leb (aperture_room a) p.apertures)) (l : Level) (level-told : l ≡ level_of p)
    (found : Result ℕ ℕ) (found-told : found ≡ numbered a p.apertures n) where
  full_at_lem : full ≡ full_at e a p
  full_at_lem = full-told ∙ (λ i. not (room_is i) or leb (aperture_room a) p.apertures)

  abbrev step : Room → State → Step
  step room s = block_start_step room place n s

  abbrev lends : Lent → Type 0
  lends w = (w.entries ≡ e) × (w.apertures ≡ a)

  pub block_taken : (e' a' : List ℕ) (i : ℕ) → found ≡ Ok i → (rule : Rule) → number_of_rule rule ≡ pick p.graphics.region.on 7 8 →
      StepsTo step lends (λ w. with_apertures a' (with_entries e' w)) p (Err rule)
  unfolding Follows block_start_fault pick
  block_taken e' a' i at rule told w s q k =
      let found_at : numbered w.apertures p.apertures n ≡ Ok i = rw q.1 (sym found-told ∙ at) in
      let here = block_fault w s p k place n true (taken_at_lem w.apertures p.apertures s.apertures k.apertures n i found_at) in
      here ∙ sym told

  module _ (link : ℕ) (free : found ≡ Err link) (fault : ℕ) (fault-told : fault ≡ block_start_fault p.graphics l false full) where
    fault_is : fault ≡ block_start_fault p.graphics (level_of p) false (full_at e a p)
    fault_is = fault-told ∙ (λ i. block_start_fault p.graphics (level-told i) false (full_at_lem i))

    free_is : numbered a p.apertures n ≡ Err link
    free_is = sym found-told ∙ free

    found_fault : (w : Lent) (s : State) → lends w → Knows w p s → (step (room_of w) s).fault ≡ fault
    found_fault w s q k =
        let found-free : numbered w.apertures p.apertures n ≡ Err link = rw q.1 free_is in
        block_fault w s p k place n false (taken_free w.apertures p.apertures s.apertures k.apertures n link found-free) ∙ rw (q.0, q.1) (sym fault_is)

    pub block_refused : (e' a' : List ℕ) (rule : Rule) → number_of_rule rule ≡ fault → StepsTo step lends (λ w. with_apertures a' (with_entries e' w)) p (Err rule)
    unfolding Follows
    block_refused e' a' rule is w s q k = found_fault w s q k ∙ sym is

    module _ (none : fault ≡ 0) where
      none_at : (w : Lent) → lends w → block_start_fault p.graphics (level_of p) false (full_at w.entries w.apertures p) ≡ 0
      none_at w q = rw (q.0, q.1) (sym fault_is ∙ none)

      free_at : (w : Lent) → lends w → numbered w.apertures p.apertures n ≡ Err link
      free_at w q = rw q.1 free_is

      pub block_deeper : p.depth < 8
      block_deeper = block_depth known.lent known.state p known.knows place n link (free_at known.lent known.is) (none_at known.lent known.is)

      pub record_fits : p.apertures < aperture_room a
      record_fits = rw known.is.1 at (record_room known.lent known.state p known.knows place n link (free_at known.lent known.is) (none_at known.lent known.is))

      pub block_fits : p.builder.closed + p.builder.high < entry_room e
      block_fits = rw known.is.0 at (block_room known.lent known.state p known.knows place n link (free_at known.lent known.is) (none_at known.lent known.is))

      pub block_opens : (e' a' : List ℕ) → a' ≡ added a p.apertures link (aperture_words (record { number = n; kind = 0; first = 0; len = 0; items = 0; height = 0 })) →
          {b : Builder} → (b ≡ inner p.builder 1) × (e' ≡ pushed e p.builder.high (block_entry p.builder.items p.apertures p.builder.start p.builder.height place)) →
          {g : Graphics} → g ≡ after (command.Contain (bracket.BlockStart n)) p.graphics → {r : Progress} → r ≡ blocked p g b →
          StepsTo step lends (λ w. with_apertures a' (with_entries e' w)) p (Ok r)
      unfolding Follows opening
      block_opens e' a' a'-is put g-is r-is w s q k =
          rw (r-is, g-is, put.0, put.1, a'-is, ← q.0, ← q.1) (found_fault w s q k ∙ none, block_begins w s p k place n link (free_at w q) (none_at w q))
