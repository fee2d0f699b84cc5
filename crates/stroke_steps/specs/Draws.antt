-- The outcome of a D01 and a D03 that break no rule.
use Rattle.std.specs.Prelude.{ℕ, ◌+◌, ◌-◌, ◌≡◌, List, Option, ℤ}
use Rattle.sheet.specs.Records.{entry_room}
use Rattle.build.specs.declared.Builder.{Builder}
use Rattle.operation_rules.specs.Faults.{draw_fault, flash_fault}
use Rattle.law_reading.specs.State.{Room, State}
use Rattle.law_reading.specs.Steps.{Step}
use Rattle.progress.specs.Lent.{Lent, room_of}
use Rattle.progress.specs.Levels.{level_of}
use Rattle.progress.specs.Knows.{Knows, Known}
use Rattle.progress.specs.declared.Progress.{Progress}
use Rattle.command.specs.declared.Offset.{Offset}

-- so many entries are left
abbrev pub left_of : List ℕ → Builder → ℕ
left_of e b = entry_room e - (b.closed + b.high)

-- from p on, r is how far reading has come after the step, whatever true of what is lent reading knows; `left` is what is lent after it
abbrev pub Leads : (Room → State → Step) → (Lent → Type 0) → (Lent → Lent) → Progress → Progress → Type 0
Leads step lends left p r = (w : Lent) (s : State) → lends w → Knows w p s → Knows (left w) r (step (room_of w) s).next

-- reading has got to p, with the entries e, and a D01, or a D03, breaks no rule there
pub record MayDraw (e : List ℕ) (p : Progress) (x y : Option ℤ) (o : Option Offset) : Type 0 where
  pub known : Known (λ w. w.entries ≡ e) p
  pub none : draw_fault p.graphics (level_of p) (left_of e p.builder) x y o ≡ 0

pub record MayFlash (e : List ℕ) (p : Progress) (x y : Option ℤ) : Type 0 where
  pub known : Known (λ w. w.entries ≡ e) p
  pub none : flash_fault p.graphics (level_of p) (left_of e p.builder) x y ≡ 0
