-- What the lent words and the progress hold of what reading knows between two commands (crates/law_reading), and the outcome of a step.
use Rattle.std.specs.Prelude.{◌+◌, ◌^◌, ◌≤◌, ◌≡◌, true, Err, Ok, Result, ℕ}
use Rattle.points.specs.Points.{Within}
use Rattle.faults.specs.Rule.{number_of_rule}
use Rattle.faults.specs.declared.Rule.{Rule}
use Rattle.sheet.specs.Records.{entry_room}
use Rattle.law_built_store.specs.Shown.{Shows}
use Rattle.law_reading.specs.State.{Room, State}
use Rattle.law_reading.specs.Steps.{Step}
use Rattle.progress.specs.Lent.{Lent, room_of}
use Rattle.progress.specs.Levels.{level_of, Counted}
use Rattle.progress.specs.Tables.{ApertureTable, MacroTable, NumberTable, Chosen}
use Rattle.progress.specs.Around.{Around}
use Rattle.progress.specs.Contour.{Contour}
use Rattle.progress.specs.declared.Progress.{Progress}
use Rattle.progress.specs.declared.Struck.{Struck}
use Rattle.progress.specs.declared.Struck.TheVariants as struck
use Rattle.progress.specs.Strokes.{with_stroke}

pub record Knows (w : Lent) (p : Progress) (s : State) : Type 0 where
  pub graphics : p.graphics ≡ s.graphics
  pub point : Within (10 ^ 12) s.graphics.point.at
  pub mode : s.graphics.mode ≤ 3
  pub inside : s.graphics.region.contour ≡ true → s.graphics.region.on ≡ true
  pub aperture : Chosen w.apertures p.apertures s.graphics.aperture
  pub level : level_of p ≡ s.level
  pub counts : Counted s.level
  pub around : Around w.entries w.apertures (entry_room w.entries) p.apertures s.opened p.builder.start p.builder.height p.depth p.copies p.sheet
  pub apertures : ApertureTable w.apertures p.apertures s.apertures
  pub macros : MacroTable w.file w.macros p.macros s.macros
  pub numbers : NumberTable w.numbers p.numbers s.numbers
  pub entries : p.builder.closed + p.builder.high ≡ s.entries
  pub shows : Shows s.marks w.entries w.apertures (entry_room w.entries) p.apertures p.builder
  pub contour : s.graphics.region.contour ≡ true → Contour w.entries w.apertures p.apertures p.builder p.contour s.marks

-- reading has come so far in some way that is true of what is lent
pub record Known (lends : Lent → Type 0) (p : Progress) : Type 0 where
  pub lent : Lent
  pub state : State
  pub is : lends lent
  pub knows : Knows lent p state

-- the step breaks no rule, and what is known after it; or the rule of its fault
unfoldable pub Follows : (Progress → State → Type 0) → Step → Result Progress Rule → Type 0
Follows K t (Ok p) = (t.fault ≡ 0) × K p t.next
Follows K t (Err rule) = t.fault ≡ number_of_rule rule

-- from p on, r is the outcome of the step, whatever true of what is lent reading knows; `left` is what is lent after it
abbrev pub StepsTo : (Room → State → Step) → (Lent → Type 0) → (Lent → Lent) → Progress → Result Progress Rule → Type 0
StepsTo step lends left p r = (w : Lent) (s : State) → lends w → Knows w p s → Follows (Knows (left w)) (step (room_of w) s) r

-- the same of an operation: it breaks no rule, and what is known after its stroke; or the rule of its fault
unfoldable pub FollowsStroke : (Progress → State → Type 0) → Step → Progress → Struck → Type 0
FollowsStroke K t p (struck.Next s) = Follows K t (Ok (with_stroke s p))
FollowsStroke K t p (struck.Fault rule) = Follows K t (Err rule)
FollowsStroke K t p struck.Other = ⊥

abbrev pub StrikesTo : (Room → State → Step) → (Lent → Type 0) → (Lent → Lent) → Progress → Struck → Type 0
StrikesTo step lends left p r = (w : Lent) (s : State) → lends w → Knows w p s → FollowsStroke (Knows (left w)) (step (room_of w) s) p r
