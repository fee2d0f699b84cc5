-- What is known after a step that puts entries on the stack and leaves all around it as it was.
-- Assumes nothing.
use Prim.Native.Nat.{ℕ, suc, ◌+◌, ◌-◌, ◌≤◌, ◌<◌, ◌^◌}
use mathlib.Core.Path.{◌≡◌, refl, ap, ◌∙◌}
use mathlib.Core.Bool.{true}
use mathlib.Core.List.{List, ◌++◌}
use native.Mathlib.Nat.{le_refl}
use Rattle.points.specs.Points.{Within}
use Rattle.sheet.specs.Records.{entry_of, entry_room}
use Rattle.law_open_store.proofs.Grow.{MayRise}
use Rattle.build.specs.declared.Builder.{Builder}
use Rattle.law_built_store.specs.Shown.{Shows}
use Rattle.command.specs.declared.Command.{Command}
use Rattle.graphics.specs.declared.Graphics.{Graphics}
use Rattle.changes.specs.After.{after}
use Rattle.operation_rules.specs.Counts.{most, counted}
use Rattle.marks.specs.Marks.{marks_of}
use Rattle.law_reading.specs.State.{State}
use Rattle.law_reading.specs.Levels.{with_items}
use Rattle.law_reading.specs.Steps.{passed, with_level}
use Rattle.progress.specs.Lent.{Lent, with_entries}
use Rattle.progress.specs.Levels.{level_at, level_of}
use Rattle.progress.specs.Contour.{Contour}
use Rattle.progress.specs.Parts.{with_graphics, with_builder, with_contour}
use Rattle.progress.specs.Knows.{Knows}
use Rattle.progress.specs.declared.Progress.{Progress}
use Rattle.progress.proofs.Around.{openers_kept, around_kept}
use Rattle.stroke_steps.proofs.Levels.{items_counted}

-- the parts that D01 and D03 change
abbrev pub advanced : Progress → Graphics → Builder → ℕ → Progress
advanced p g b at = with_contour at (with_builder b (with_graphics g p))

-- the parts of reading's state that the command leaves, or moves within their bounds
pub record Moves (c : Command) (s : State) : Type 0 where
  pub point : Within (10 ^ 12) (after c s.graphics).point.at
  pub mode : (after c s.graphics).mode ≡ s.graphics.mode
  pub aperture : (after c s.graphics).aperture ≡ s.graphics.aperture
  pub inside : (after c s.graphics).region.contour ≡ true → (after c s.graphics).region.on ≡ true

-- the store after the command, which puts n entries with so many items, and makes a block h high at least
pub record Grows (w : Lent) (p : Progress) (s : State) (c : Command) (place n items h : ℕ) (e' : List ℕ) (b' : Builder) (at : ℕ) : Type 0 where
  pub as_long : entry_room e' ≡ entry_room w.entries
  pub below : (q : ℕ) → q < p.builder.start → entry_of w.entries (entry_room w.entries - suc q) ≡ entry_of e' (entry_room w.entries - suc q)
  pub start_is : b'.start ≡ p.builder.start
  pub rises : MayRise p.builder.height b'.height
  pub level : level_at b'.height b'.items p.depth p.copies p.sheet ≡ with_items items h (level_of p)
  pub counts : counted s.level items ≤ most
  pub entries : b'.closed + b'.high ≡ p.builder.closed + p.builder.high + n
  pub shows : Shows (s.marks ++ marks_of c s.graphics place) e' w.apertures (entry_room w.entries) p.apertures b'
  pub contour : (after c s.graphics).region.contour ≡ true → Contour e' w.apertures p.apertures b' at (s.marks ++ marks_of c s.graphics place)

pub grown_knows : (w : Lent) (p : Progress) (s : State) (c : Command) (place n items h : ℕ) (e' : List ℕ) (b' : Builder) (at : ℕ) →
    Knows w p s → Moves c s → Grows w p s c place n items h e' b' at →
    Knows (with_entries e' w) (advanced p (after c s.graphics) b' at) (with_level (with_items items h s.level) (passed c place n s))
unfolding with_entries with_level passed level_of
grown_knows w p s c place n items h e' b' at k m g = record {
  graphics = refl;
  point = m.point;
  mode = rw m.mode k.mode;
  inside = m.inside;
  aperture = rw m.aperture k.aperture;
  level = g.level ∙ ap (with_items items h) k.level;
  counts = items_counted s.level items h k.counts g.counts;
  around = rw (g.as_long, g.start_is)
      (around_kept w.entries w.apertures e' w.apertures (entry_room w.entries) p.builder.start p.apertures
      (openers_kept w.entries e' (entry_room w.entries) p.builder.start g.below) (λ i l. refl)
      s.opened p.apertures p.apertures p.builder.start p.builder.height b'.height p.depth p.copies p.sheet
      (le_refl _) (le_refl _) (le_refl _) g.rises k.around);
  apertures = k.apertures;
  macros = k.macros;
  numbers = k.numbers;
  entries = g.entries ∙ ap (λ x. x + n) k.entries;
  shows = rw g.as_long g.shows;
  contour = g.contour;
}
