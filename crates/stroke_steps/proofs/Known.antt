-- What reading knows bounds the numbers that a step computes with, and its faults are those of the step.
-- Assumes nothing.
use Rattle.faults.specs.Rule.{number_of_rule}
use Rattle.faults.specs.declared.Rule.{Rule}
use Rattle.std.specs.Prelude.{Option, ℤ}
use Prim.Native.Nat.{ℕ, ◌+◌, ◌-◌, ◌≤◌, ◌^◌}
use mathlib.Core.Path.{◌≡◌, sym, ◌∙◌}
use mathlib.Core.List.{List}
use native.Mathlib.Omega.{arith}
use Rattle.points.specs.Points.{Within}
use Rattle.sheet.specs.Records.{entry_room}
use Rattle.operation_rules.specs.Counts.{most}
use Rattle.operation_rules.specs.Faults.{draw_fault, flash_fault}
use Rattle.law_reading.specs.State.{Room, State}
use Rattle.law_reading.specs.Steps.{Step, draw_step, flash_step}
use Rattle.progress.specs.Lent.{Lent, room_of, with_entries}
use Rattle.progress.specs.Levels.{level_of}
use Rattle.progress.specs.Strokes.{with_stroke}
use Rattle.progress.specs.Knows.{Knows, Known, Follows, FollowsStroke, StrikesTo}
use Rattle.progress.specs.declared.Progress.{Progress}
use Rattle.progress.specs.declared.Stroke.{Stroke}
use Rattle.progress.specs.declared.Struck.TheVariants.{Next, Fault}
use Rattle.progress.proofs.Levels.{items_known}
use Rattle.stroke_steps.specs.Draws.{left_of, Leads}
use Rattle.stroke_steps.proofs.Selected.{selected_few}
use Rattle.command.specs.declared.Offset.{Offset}

module _ (e : List ℕ) (p : Progress) (known : Known (λ w. w.entries ≡ e) p) where
  pub known_fits : p.builder.closed + p.builder.high ≤ entry_room e
  known_fits = rw known.is at known.knows.shows.fits

  pub known_copies : 1 ≤ (level_of p).copies
  known_copies = rw known.knows.level known.knows.counts.some

  pub known_items : p.builder.items ≤ most
  known_items = items_known known.lent p known.state known.knows

  pub known_few : p.graphics.aperture.items ≤ most
  known_few = let k = known.knows in rw k.graphics (selected_few _ _ _ _ k.apertures k.aperture)

  pub known_point : Within (10 ^ 12) p.graphics.point.at
  known_point = rw known.knows.graphics known.knows.point

  pub known_mode : p.graphics.mode ≤ 3
  known_mode = rw known.knows.graphics known.knows.mode

-- the faults by the progress are those by what reading knows
module _ (w : Lent) (p : Progress) (s : State) (k : Knows w p s) (place : ℕ) (x y : Option ℤ) where
  pub draw_faults : (o : Option Offset) → draw_fault p.graphics (level_of p) (left_of w.entries p.builder) x y o ≡ (draw_step (room_of w) place x y o s).fault
  unfolding draw_step room_of
  draw_faults o = λ i. draw_fault (k.graphics i) (k.level i) (entry_room w.entries - k.entries i) x y o

  pub flash_faults : flash_fault p.graphics (level_of p) (left_of w.entries p.builder) x y ≡ (flash_step (room_of w) place x y s).fault
  unfolding flash_step room_of
  flash_faults = λ i. flash_fault (k.graphics i) (k.level i) (entry_room w.entries - k.entries i) x y

-- an operation whose fault is known by its number
module _ (step : Room → State → Step) (e : List ℕ) (p : Progress) {n : ℕ} (says : (w : Lent) (s : State) → w.entries ≡ e → Knows w p s → (step (room_of w) s).fault ≡ n) (e' : List ℕ) where
  pub refused : (rule : Rule) → number_of_rule rule ≡ n → StrikesTo step (λ w. w.entries ≡ e) (with_entries e') p (Fault rule)
  unfolding FollowsStroke Follows
  refused rule is w s lent k = says w s lent k ∙ sym is

  pub goes : (r : Stroke) → n ≡ 0 → Leads step (λ w. w.entries ≡ e) (with_entries e') p (with_stroke r p) → StrikesTo step (λ w. w.entries ≡ e) (with_entries e') p (Next r)
  unfolding FollowsStroke Follows
  goes r zero leads w s lent k = (says w s lent k ∙ zero, leads w s lent k)
