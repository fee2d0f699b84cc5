-- How a command leads on: what is not read has a number, and M02 alone is the last.
-- Assumes nothing.
use Prim.Native.Nat.{ℕ}
use mathlib.Core.Path.{◌≡◌, refl}
use native.Mathlib.Omega.{arith}
use Rattle.command.specs.Flaws.{flaw_number}
use Rattle.command.specs.declared.Flaw.{Flaw}
use Rattle.command.specs.declared.Flaw.TheVariants as flaw
use Rattle.command.specs.declared.Setting.{Setting}
use Rattle.command.specs.declared.Setting.TheVariants as setting
use Rattle.command.specs.declared.Command.{Command}
use Rattle.command.specs.declared.Command.TheVariants.{Broken, Note, End, Set, Operate, Coded, Select, Define, Contain, Attribute}
use Rattle.sequence.specs.Leads.{lead_of_flaw, lead_of_setting, lead_of}
use Rattle.sequence.specs.declared.Lead.{Lead}
use Rattle.sequence.specs.declared.Lead.TheVariants as lead

abbrev pub Leads : Command → Lead → Type 0
Leads c (lead.Broken number) = number ≡ 0 → ⊥
Leads c lead.Last = c ≡ End
Leads c (lead.Format g) = c ≡ End → ⊥
Leads c lead.Other = c ≡ End → ⊥

flaw_leads : (x : Flaw) → Leads (Broken x) (lead_of_flaw x)
unfolding lead_of_flaw flaw_number
flaw_leads flaw.NotForm = λ e. omega arith
flaw_leads flaw.Unread = λ e. omega arith
flaw_leads flaw.TooLong = λ e. let z : ◌≡◌ {A = ℕ} 0 1 = cc in omega arith

no_end : (x : Setting) → Set x ≡ End → ⊥
no_end x e = let z : ◌≡◌ {A = ℕ} 0 1 = cc in omega arith

setting_leads : (x : Setting) → Leads (Set x) (lead_of_setting x)
unfolding lead_of_setting
setting_leads setting.Linear = no_end _
setting_leads setting.Clockwise = no_end _
setting_leads setting.Counterclockwise = no_end _
setting_leads setting.SingleQuadrant = no_end _
setting_leads setting.MultiQuadrant = no_end _
setting_leads setting.RegionStart = no_end _
setting_leads setting.RegionEnd = no_end _
setting_leads (setting.Format f) = no_end _
setting_leads setting.Absolute = no_end _
setting_leads setting.Incremental = no_end _
setting_leads setting.Millimetres = no_end _
setting_leads setting.Inches = no_end _
setting_leads setting.CodedMillimetres = no_end _
setting_leads setting.CodedInches = no_end _
setting_leads setting.Halt = no_end _
setting_leads setting.Dark = no_end _
setting_leads setting.Clear = no_end _
setting_leads (setting.Mirror x y) = no_end _
setting_leads (setting.Rotation a rounded) = no_end _
setting_leads (setting.Scale a rounded) = no_end _

pub leads : (c : Command) → Leads c (lead_of c)
unfolding lead_of
leads (Broken f) = flaw_leads f
leads Note = λ e. let z : ◌≡◌ {A = ℕ} 0 1 = cc in omega arith
leads End = refl
leads (Set x) = setting_leads x
leads (Operate o) = λ e. let z : ◌≡◌ {A = ℕ} 0 1 = cc in omega arith
leads (Coded code o) = λ e. let z : ◌≡◌ {A = ℕ} 0 1 = cc in omega arith
leads (Select n) = λ e. let z : ◌≡◌ {A = ℕ} 0 1 = cc in omega arith
leads (Define d) = λ e. let z : ◌≡◌ {A = ℕ} 0 1 = cc in omega arith
leads (Contain b) = λ e. let z : ◌≡◌ {A = ℕ} 0 1 = cc in omega arith
leads (Attribute d) = λ e. let z : ◌≡◌ {A = ℕ} 0 1 = cc in omega arith
