-- A repeat that opens: what is known after it.
-- Assumes nothing.
use Rattle.faults.specs.Rule.{number_of_rule}
use Rattle.faults.specs.declared.Rule.{Rule}
use Rattle.std.specs.Prelude.{Err, Ok}
use Prim.Native.Nat.{ℕ, ◌+◌, ◌-◌, ◌*◌, ◌≤◌, ◌<◌}
use mathlib.Core.Path.{◌≡◌, refl, sym, ap, ◌∙◌}
use mathlib.Core.Bool.{Bool, true, false, not}
use mathlib.Core.List.{List, [], ◌∷◌, ◌++◌}
use native.Mathlib.Nat.{one-le-mul, mul-le-mul}
use native.Mathlib.Numerals.{add-one}
use native.Mathlib.Omega.{arith}
use lib.Dec.{eqb, ltb, lit≤}
use borrow.Author.Tests.{not-false, leb-true, eqb-true}
use Rattle.base.specs.Or.{◌or◌}
use Rattle.base.proofs.And.{and_l, and_r}
use Rattle.decimal.specs.declared.answers.Amount.{Amount}
use Rattle.place.specs.Mark.{begin, repeat, edges, written}
use Rattle.place.specs.declared.Repeat.{Repeat}
use Rattle.graphics.specs.declared.Graphics.{Graphics}
use Rattle.graphics.specs.Graphics.{origin, unset, with_point}
use Rattle.command.specs.declared.Bracket.TheVariants as bracket
use Rattle.command.specs.declared.Command.TheVariants as command
use Rattle.changes.specs.After.{after}
use Rattle.graphics.specs.declared.Level.{Level}
use Rattle.operation_rules.specs.Counts.{most, counted}
use Rattle.command_rules.specs.Bounds.{is_count, is_repeat}
use Rattle.base.proofs.Faults.{unbroken}
use Rattle.command_rules.specs.Rules.{repeat_start_fault}
use Rattle.marks.specs.Marks.{repeat_of, bracket_marks, marks_of}
use Rattle.law_bounds.specs.Bounded.{Repeats}
use Rattle.law_bounds.proofs.Tables.{neither}
use Rattle.sheet.specs.Records.{entry_room}
use Rattle.build.specs.Stack.{has_room, pushed}
use Rattle.build.proofs.Turning.{room_left}
use Rattle.law_open_store.specs.Open.{opener}
use Rattle.build.specs.declared.Builder.{Builder}
use Rattle.build.specs.Builder.{inner}
use Rattle.build.specs.Entries.{repeat_entry}
use Rattle.law_built_store.specs.Shown.{blank, Shows}
use Rattle.law_built_store.proofs.Entries.{pushed_is}
use Rattle.law_built_store.proofs.Marks.{one_more, opens_repeat}
use Rattle.law_reading.specs.State as opened
use Rattle.law_reading.specs.State.{State}
use Rattle.law_reading.specs.Levels.{in_repeat}
use Rattle.law_reading.specs.Steps.{passed, with_level, with_opened, repeat_start_step}
use Rattle.progress.specs.declared.Progress.{Progress}
use Rattle.progress.specs.Parts.{with_graphics, with_builder, with_repeat}
use Rattle.progress.specs.Lent.{Lent, room_of, with_entries}
use Rattle.progress.specs.Levels.{level_of, Counted}
use Rattle.progress.specs.Around.{Around}
use Rattle.progress.specs.Knows.{Knows, Known, Follows, StepsTo}
use Rattle.progress.proofs.Outside.{no_contour}
use Rattle.progress.proofs.Levels.{repeat_level, top_level_lem, items_known}
use Rattle.container_steps.proofs.Levels.{inside_top, around_top}
use Rattle.container_steps.proofs.Full.{full_is}

-- the bounds of SR
pub record Counts (nx ny : ℕ) : Type 0 where
  pub nx_low : 1 ≤ nx
  pub nx_high : nx ≤ 9999
  pub ny_low : 1 ≤ ny
  pub ny_high : ny ≤ 9999
  pub some : 1 ≤ nx * ny
  pub few : nx * ny ≤ 9999 * 9999

pub counts_of : (nx ny : ℕ) (dx dy : Amount) → is_repeat nx ny dx dy ≡ true → Counts nx ny
unfolding is_repeat is_count
counts_of nx ny dx dy q =
    let both = and_l _ _ q in
    let x = and_l _ _ both in
    let y = and_r _ _ both in
    let a : 1 ≤ nx = leb-true 1 nx (and_l _ _ x) in
    let b : nx ≤ 9999 = leb-true nx 9999 (and_r _ _ x) in
    let c : 1 ≤ ny = leb-true 1 ny (and_l _ _ y) in
    let d : ny ≤ 9999 = leb-true ny 9999 (and_r _ _ y) in
    record { nx_low = a; nx_high = b; ny_low = c; ny_high = d; some = one-le-mul a c; few = mul-le-mul b d }

-- how far reading has come after SR
abbrev pub repeated : Progress → ℕ → ℕ → Graphics → Builder → Progress
repeated p nx ny g b = with_repeat (nx * ny) p.builder.items (with_builder b (with_graphics g p))

module _ (w : Lent) (s : State) (p : Progress) (k : Knows w p s) (place nx ny : ℕ) (dx dy : Amount) (bounds : Repeats nx ny dx dy) where
  -- the test of the code is the rule
  pub repeat_fault : (repeat_start_step (room_of w) place nx ny dx dy s).fault ≡
      repeat_start_fault p.graphics (level_of p) (is_repeat nx ny dx dy) (not (has_room w.entries p.builder.closed p.builder.high))
  unfolding repeat_start_step room_of has_room
  repeat_fault =
      let full : eqb (entry_room w.entries - s.entries) 0 ≡ not (ltb (p.builder.closed + p.builder.high) (entry_room w.entries)) =
      rw (← k.entries) (full_is (entry_room w.entries) (p.builder.closed + p.builder.high)) in
      λ i. repeat_start_fault (sym k.graphics i) (sym k.level i) (is_repeat nx ny dx dy) (full i)

  module _ (none : repeat_start_fault p.graphics (level_of p) (is_repeat nx ny dx dy) (not (has_room w.entries p.builder.closed p.builder.high)) ≡ 0) where
    passes : ((p.graphics.region.on or not (eqb (level_of p).inside 0)) ≡ false) × (is_repeat nx ny dx dy ≡ true) × (has_room w.entries p.builder.closed p.builder.high ≡ true)
    unfolding repeat_start_fault
    passes =
        let first = unbroken (lit≤ tt) none in
        let second = unbroken (lit≤ tt) first.1 in
        let third = unbroken (lit≤ tt) second.1 in
        (first.0, not-false _ second.0, not-false _ third.0)

    pub repeat_counts : Counts nx ny
    repeat_counts = counts_of nx ny dx dy passes.1

    pub repeat_room : p.builder.closed + p.builder.high < entry_room w.entries
    repeat_room = room_left _ _ _ passes.2

    high_room : p.builder.high < entry_room w.entries
    high_room = let l = repeat_room in omega arith

    at_top : (8 < p.builder.height) × (p.builder.height ≡ 9 → ⊥)
    unfolding level_of
    at_top =
        let q : (level_of p).inside ≡ 0 = eqb-true _ _ (not-false _ (neither _ _ passes.0).1) in
        inside_top p.builder.height p.builder.items p.depth p.copies p.sheet q

    tops : (s.opened ≡ []) × (p.builder.start ≡ 0) × (p.builder.height ≡ 10) × (p.depth ≡ 0)
    tops = around_top w.entries w.apertures _ p.apertures s.opened _ _ _ _ _ at_top.0 at_top.1 k.around

    level_is : s.level ≡ record { inside = 0; items = p.builder.items; height = 0; depth = p.depth; copies = 1; sheet = 0 }
    unfolding level_of
    level_is = sym k.level ∙ top_level_lem p.builder.height p.builder.items p.depth p.copies p.sheet at_top.0 at_top.1

    few : p.builder.items ≤ most
    few = items_known w p s k

    level_then : level_of (repeated p nx ny (after (command.Contain (bracket.RepeatStart nx ny dx dy 0)) p.graphics) (inner p.builder 9)) ≡ in_repeat nx ny s.level
    unfolding level_of inner in_repeat
    level_then = repeat_level 9 0 p.depth (nx * ny) p.builder.items refl ∙ rw level_is

    counts_then : Counted (in_repeat nx ny s.level)
    unfolding in_repeat counted
    counts_then =
        let f = few in
        let c = repeat_counts.some in
        rw level_is (record { within = omega arith; before = f; some = c })

    abbrev left : List ℕ
    left = pushed w.entries p.builder.high (repeat_entry p.builder.items p.builder.start (repeat_of nx ny dx dy) place)

    long : entry_room left ≡ entry_room w.entries
    long = (pushed_is w.entries p.builder.high _ high_room).as_long

    opener_is : opener left (entry_room left) (p.builder.high + 1) ≡ repeat_entry p.builder.items p.builder.start (repeat_of nx ny dx dy) place
    opener_is = rw (long, add-one p.builder.high) (pushed_is w.entries p.builder.high _ high_room).new

    around_then : Around left w.apertures (entry_room left) p.apertures (opened.repeat s.level ∷ s.opened) (p.builder.high + 1) 9 p.depth (nx * ny) p.builder.items
    unfolding Around repeat_entry repeat_of
    around_then =
        rw (tops.0, opener_is) (
          record {
            nine = refl;
            none = tops.3;
            some = omega arith;
            first = tops.1;
            copies_are = refl;
            sheet_is = refl;
            level = top_level_lem 10 p.builder.items 0 1 0 (lit≤ tt) (λ q. let z : ◌≡◌ {A = ℕ} 10 9 = q in omega arith) ∙ rw (level_is, tops.3);
            counts = k.counts;
          },
          (refl, refl, refl),
        )

    shows_then : Shows (s.marks ++ begin (repeat (repeat_of nx ny dx dy)) ∷ []) left w.apertures (entry_room left) p.apertures (inner p.builder 9)
    unfolding edges repeat_of
    shows_then =
        let c = repeat_counts in
        rw (one_more s.marks (begin (repeat (repeat_of nx ny dx dy))) refl, long)
        (opens_repeat (written s.marks blank) w.entries w.apertures (entry_room w.entries) p.apertures p.builder k.shows repeat_room
        (repeat_of nx ny dx dy) place tops.2 c.nx_low c.nx_high c.ny_low c.ny_high bounds.across bounds.up)

    pub repeat_begins : Knows (with_entries (pushed w.entries p.builder.high (repeat_entry p.builder.items p.builder.start (repeat_of nx ny dx dy) place)) w)
        (repeated p nx ny (after (command.Contain (bracket.RepeatStart nx ny dx dy 0)) p.graphics) (inner p.builder 9)) (repeat_start_step (room_of w) place nx ny dx dy s).next
    unfolding repeat_start_step with_level with_opened passed with_entries after with_point unset origin marks_of bracket_marks inner
    repeat_begins =
        let entries = k.entries in
        record {
          graphics = ap (after (command.Contain (bracket.RepeatStart nx ny dx dy 0))) k.graphics;
          point = record { across = lit≤ tt; up = lit≤ tt };
          mode = k.mode;
          inside = k.inside;
          aperture = k.aperture;
          level = level_then;
          counts = counts_then;
          around = around_then;
          apertures = k.apertures;
          macros = k.macros;
          numbers = k.numbers;
          entries = omega arith;
          shows = shows_then;
          contour = λ q. absurd (no_contour w p s k (rw k.graphics at (neither _ _ passes.0).0) q);
        }

-- SR ends in its fault, or in what is known after it; what the calls answer is handed in
module _ (e : List ℕ) (p : Progress) (place nx ny : ℕ) (dx dy : Amount) (bounds : Repeats nx ny dx dy)
    (room : Bool) (room_is : room ≡ has_room e p.builder.closed p.builder.high) (l : Level) (level-told : l ≡ level_of p)
    (keeps : Bool) (keeps-is : keeps ≡ is_repeat nx ny dx dy) (fault : ℕ) (fault-told : fault ≡ repeat_start_fault p.graphics l keeps (not room)) where
  fault_is : fault ≡ repeat_start_fault p.graphics (level_of p) (is_repeat nx ny dx dy) (not (has_room e p.builder.closed p.builder.high))
  fault_is = fault-told ∙ (λ i. repeat_start_fault p.graphics (level-told i) (keeps-is i) (not (room_is i)))

  pub repeat_refused : (e' : List ℕ) (rule : Rule) → number_of_rule rule ≡ fault → StepsTo (λ room s. repeat_start_step room place nx ny dx dy s) (λ w. w.entries ≡ e) (with_entries e') p (Err rule)
  unfolding Follows
  repeat_refused e' rule is w s q k = repeat_fault w s p k place nx ny dx dy bounds ∙ rw q (sym fault_is) ∙ sym is

  module _ (known : Known (λ w. w.entries ≡ e) p) (none : fault ≡ 0) where
    none_is : repeat_start_fault p.graphics (level_of p) (is_repeat nx ny dx dy) (not (has_room known.lent.entries p.builder.closed p.builder.high)) ≡ 0
    none_is = rw known.is (sym fault_is ∙ none)

    pub repeat_few : nx * ny ≤ 99_980_001
    repeat_few = (repeat_counts known.lent known.state p known.knows place nx ny dx dy bounds none_is).few

    pub repeat_fits : p.builder.closed + p.builder.high < entry_room e
    repeat_fits = rw known.is at (repeat_room known.lent known.state p known.knows place nx ny dx dy bounds none_is)

    pub repeat_opens : (e' : List ℕ) {r : Repeat} → r ≡ repeat_of nx ny dx dy →
        {b : Builder} → (b ≡ inner p.builder 9) × (e' ≡ pushed e p.builder.high (repeat_entry p.builder.items p.builder.start r place)) →
        {g : Graphics} → g ≡ after (command.Contain (bracket.RepeatStart nx ny dx dy 0)) p.graphics → {next : Progress} → next ≡ repeated p nx ny g b →
        StepsTo (λ room s. repeat_start_step room place nx ny dx dy s) (λ w. w.entries ≡ e) (with_entries e') p (Ok next)
    unfolding Follows
    repeat_opens e' r-is put g-is next_is w s q k =
        let none_here = rw (← q) at (sym fault_is ∙ none) in
        rw (next_is, g-is, put.0, put.1, r-is, ← q) (repeat_fault w s p k place nx ny dx dy bounds ∙ none_here, repeat_begins w s p k place nx ny dx dy bounds none_here)
