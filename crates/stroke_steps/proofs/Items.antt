-- One item put: what is known after a D01 outside a region, and after a D03 with an aperture that is no block.
-- Assumes nothing.
use Prim.Native.Nat.{ℕ, suc, ◌+◌, ◌-◌, ◌≤◌, ◌<◌}
use mathlib.Core.Path.{◌≡◌, refl, sym}
use mathlib.Core.Bool.{true}
use mathlib.Core.List.{List, [], ◌∷◌}
use native.Mathlib.Omega.{arith}
use Rattle.place.specs.declared.Item.{Item}
use Rattle.place.specs.Mark.{draw, edges, marked}
use Rattle.place.specs.Placing.{ItemWithin}
use Rattle.sheet.specs.Records.{entry_of, entry_room}
use Rattle.sheet.specs.Valid.{far}
use Rattle.sheet.specs.declared.Entry.{Entry}
use Rattle.build.specs.Stack.{pushed}
use Rattle.law_open_store.proofs.Grow.{stays_as_high}
use Rattle.build.specs.Builder.{grown}
use Rattle.build.specs.Entries.{item_entry}
use Rattle.law_built_store.proofs.Entries.{pushed_is}
use Rattle.law_built_store.proofs.Marks.{one_more, puts_item}
use Rattle.command.specs.declared.Command.{Command}
use Rattle.changes.specs.After.{after}
use Rattle.operation_rules.specs.Counts.{most, counted}
use Rattle.marks.specs.Marks.{marks_of}
use Rattle.law_reading.specs.State.{State}
use Rattle.progress.specs.Lent.{Lent}
use Rattle.progress.specs.Levels.{level_of}
use Rattle.progress.specs.Knows.{Knows}
use Rattle.progress.specs.declared.Progress.{Progress}
use Rattle.progress.proofs.Around.{start_low}
use Rattle.stroke_steps.proofs.Grown.{Grows}
use Rattle.stroke_steps.proofs.Levels.{items_level}

-- an entry pushed leaves the stack below it
pub below_pushed : (e : List ℕ) (high start : ℕ) (r : Entry) → high < entry_room e → start ≤ high → (q : ℕ) → q < start →
    entry_of e (entry_room e - suc q) ≡ entry_of (pushed e high r) (entry_room e - suc q)
below_pushed e high start r left low q l =
    sym ((pushed_is e high r left).kept (entry_room e - suc q)
    (λ z. let z' : entry_room e - suc q ≡ entry_room e - suc high = z in absurd (omega arith)))

module _ (w : Lent) (p : Progress) (s : State) (k : Knows w p s) (left : p.builder.closed + p.builder.high < entry_room w.entries)
    (c : Command) (place : ℕ) (t : Item) (near : ItemWithin far t) (low : 1 ≤ t.kind) (up : t.kind ≤ 8) (own : t.place ≡ t.outer)
    (marks_are : marks_of c s.graphics place ≡ draw t ∷ []) (none : (after c s.graphics).region.contour ≡ true → ⊥) (counts : counted s.level 1 ≤ most) where
  pub item_grows : Grows w p s c place 1 1 0 (pushed w.entries p.builder.high (item_entry p.builder.items t)) (grown p.builder 1 p.builder.height) p.contour
  unfolding grown level_of marked edges
  item_grows =
      let room : p.builder.high < entry_room w.entries = omega arith in
      record {
        as_long = (pushed_is w.entries p.builder.high (item_entry p.builder.items t) room).as_long;
        below = below_pushed w.entries p.builder.high p.builder.start (item_entry p.builder.items t) room (start_low w p s k);
        start_is = refl;
        rises = stays_as_high _;
        level = items_level p.builder.height p.builder.items p.depth p.copies p.sheet 1;
        counts = counts;
        entries = omega arith;
        shows = rw (marks_are, one_more s.marks (draw t) refl)
            (puts_item _ w.entries w.apertures (entry_room w.entries) p.apertures p.builder k.shows left t near low up own);
        contour = λ q. absurd (none q);
      }
