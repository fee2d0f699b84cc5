-- Each command's fault is that of the first row of its table that holds, and each table's numbers rise: so the fault is the lowest rule
-- broken. Every table cites the one law `rising`; what is its own is one line. An operation after a code has two tables.
-- Assumes nothing.
use Prim.Native.Nat.{ℕ, ◌≤◌, ◌<◌}
use mathlib.Core.Path.{◌≡◌, refl}
use mathlib.Core.Bool.{Bool, true, false, not, false≢true}
use mathlib.Core.List.{List, [], ◌∷◌, ◌++◌}
use lib.Dec.{eqb}
use lib.ListN.{length}
use Rattle.base.specs.And.{◌and◌}
use Rattle.base.specs.Choose.{pick}
use Rattle.base.specs.Faults.{Table, first_fault}
use Rattle.command.specs.Flaws.{flaw_number}
use Rattle.command.specs.declared.Flaw.{Flaw}
use Rattle.command.specs.declared.Flaw.TheVariants as flaw
use Rattle.command.specs.declared.Setting.{Setting}
use Rattle.command.specs.declared.Operation.{Operation}
use Rattle.command.specs.declared.Operation.TheVariants as operation
use Rattle.command.specs.declared.Definition.{Definition}
use Rattle.command.specs.declared.Definition.TheVariants as definition
use Rattle.command.specs.declared.Bracket.{Bracket}
use Rattle.command.specs.declared.Bracket.TheVariants as bracket
use Rattle.command.specs.declared.Deed.{Deed}
use Rattle.command.specs.declared.Deed.TheVariants as deed
use Rattle.command.specs.declared.Command.{Command}
use Rattle.command.specs.declared.Command.TheVariants as command
use Rattle.command.specs.declared.Command.TheVariants.{Note, End, Set, Operate, Coded, Select, Define, Contain, Attribute}
use Rattle.graphics.specs.Level.{block, repeat}
use Rattle.operation_rules.specs.Faults.{draw_fault, move_fault, flash_fault}
use Rattle.operation_rules.proofs.Rising.{draw_rises, move_rises, flash_rises}
use Rattle.command_rules.specs.Bounds.{is_repeat}
use Rattle.command_rules.specs.Settings.{setting_rules, setting_fault}
use Rattle.command_rules.proofs.Rising.{
  region_rises,
  select_rises,
  macro_rises,
  block_start_rises,
  closing_rises,
  repeat_start_rises,
  file_attribute_rises,
  end_rises,
  setting_rises,
}
use Rattle.command_rules.specs.Rules.{
  region_fault,
  select_fault,
  aperture_fault,
  macro_fault,
  block_start_fault,
  closing_fault,
  repeat_start_fault,
  file_attribute_fault,
  end_fault,
}
use Rattle.law_reading.specs.State.{Room, State}
use Rattle.law_reading.specs.Apertures.{aperture_with}
use Rattle.law_reading.proofs.Outcomes.{Verdict, fine, nine, ten, outcome_verdict}
use Rattle.law_reading.specs.Steps.{
  left,
  part,
  setting_step,
  draw_step,
  flash_step,
  move_step,
  select_step,
  aperture_step,
  macro_step,
  block_start_step,
  repeat_start_step,
  block_end_step,
  repeat_end_step,
  file_attribute_step,
  operation_step,
  coded_step,
  definition_step,
  bracket_step,
  deed_step,
  step_of,
}
use Rattle.operation_rules.specs.Order.{order, rank_in, rank, rises_from, rises}
use Rattle.law_kept.specs.Order.{Broken, here, further, Lowest}
use Rattle.law_kept.specs.Tables.{ad_rules, am_rules, operation_rules, definition_rules, bracket_rules, deed_rules, rules_of}
use Rattle.law_kept.proofs.Order.{Ruled, rising}
use Rattle.law_kept.proofs.Sooner.{sooner_ruled}

-- AD has one row for either 9 or 10, which does not hold where there is neither
module _ (on taken full : Bool) where
  -- what is broken of the table with a row that does not hold is broken of it without
  without : {n : ℕ} → Broken n ((on, 7) ∷ (taken, 8) ∷ (false, 0) ∷ (full, 17) ∷ []) → Broken n ((on, 7) ∷ (taken, 8) ∷ (full, 17) ∷ [])
  without (here e q) = here e q
  without (further (here e q)) = further (here e q)
  without (further (further (here e q))) = absurd (false≢true e)
  without (further (further (further b))) = further (further b)

  again : {n : ℕ} → Broken n ((on, 7) ∷ (taken, 8) ∷ (full, 17) ∷ []) → Broken n ((on, 7) ∷ (taken, 8) ∷ (false, 0) ∷ (full, 17) ∷ [])
  again (here e q) = here e q
  again (further (here e q)) = further (here e q)
  again (further (further b)) = further (further (further b))

  neither_ruled : Ruled ((on, 7) ∷ (taken, 8) ∷ (false, 0) ∷ (full, 17) ∷ []) (first_fault ((on, 7) ∷ (taken, 8) ∷ (false, 0) ∷ (full, 17) ∷ []))
  unfolding pick rises_from order rank_in ◌and◌
  neither_ruled =
      let l = rising ((on, 7) ∷ (taken, 8) ∷ (full, 17) ∷ []) refl in
      record {
        lowest = record {
          one = λ k. again (l.lowest.one k);
          none = λ e other b. l.lowest.none e other (without b);
          least = λ other b. l.lowest.least other (without b);
        };
        known = λ b. l.known (without b);
      }

  aperture_ruled : {worked : ℕ} → Verdict worked →
      Ruled ((on, 7) ∷ (taken, 8) ∷ (not (eqb worked 0), worked) ∷ (full, 17) ∷ [])
      (first_fault ((on, 7) ∷ (taken, 8) ∷ (not (eqb worked 0), worked) ∷ (full, 17) ∷ []))
  unfolding rises_from order rank_in ◌and◌
  aperture_ruled fine = neither_ruled
  aperture_ruled nine = rising _ refl
  aperture_ruled ten = rising _ refl

module _ (room : Room) (t : List ℕ) (p : ℕ) where
  flaw_ruled : (f : Flaw) → Ruled ((true, flaw_number f) ∷ []) (flaw_number f)
  unfolding flaw_number pick rises_from order rank_in ◌and◌
  flaw_ruled flaw.NotForm = rising _ refl
  flaw_ruled flaw.Unread = rising _ refl
  flaw_ruled flaw.TooLong = rising _ refl

  setting_ruled : (x : Setting) (s : State) → Ruled (setting_rules s.graphics x) (setting_step x s).fault
  unfolding setting_step setting_fault
  setting_ruled x s = rising _ (setting_rises s.graphics x)

  operation_ruled : (o : Operation) (s : State) → Ruled (operation_rules room o s) (operation_step room p o s).fault
  unfolding operation_rules operation_step draw_step move_step flash_step draw_fault move_fault flash_fault
  operation_ruled (operation.Draw x y o) s = rising _ (draw_rises s.graphics s.level (left room s) x y o)
  operation_ruled (operation.Move x y) s = rising _ (move_rises s.graphics x y)
  operation_ruled (operation.Flash x y) s = rising _ (flash_rises s.graphics s.level (left room s) x y)

  coded_ruled : (code : Setting) (o : Operation) (s : State) →
      Ruled (setting_rules s.graphics code ++ operation_rules room o (setting_step code s).next) (coded_step room p code o s).fault
  unfolding coded_step
  coded_ruled code o s = sooner_ruled (setting_ruled code s) (operation_ruled o (setting_step code s).next)

  definition_ruled : (d : Definition) (s : State) → Ruled (definition_rules room t d s) (definition_step room t d s).fault
  unfolding definition_rules ad_rules am_rules definition_step aperture_step macro_step aperture_fault macro_fault
  definition_ruled (definition.Aperture n name ps rounded) s = aperture_ruled _ _ _ (outcome_verdict (part t name) (part t ps) s.macros)
  definition_ruled (definition.Macro name blocks deep rounded) s = rising _ (macro_rises s.graphics _ deep _)

  bracket_ruled : (b : Bracket) (s : State) → Ruled (bracket_rules room b s) (bracket_step room p b s).fault
  unfolding bracket_rules bracket_step block_start_step block_end_step repeat_start_step repeat_end_step block_start_fault closing_fault repeat_start_fault
  bracket_ruled (bracket.BlockStart n) s = rising _ (block_start_rises s.graphics s.level _ _)
  bracket_ruled bracket.BlockEnd s = rising _ (closing_rises s.graphics s.level block)
  bracket_ruled (bracket.RepeatStart nx ny dx dy rounded) s = rising _ (repeat_start_rises s.graphics s.level (is_repeat nx ny dx dy) (eqb (left room s) 0))
  bracket_ruled bracket.RepeatEnd s = rising _ (closing_rises s.graphics s.level repeat)

  deed_ruled : (d : Deed) (s : State) → Ruled (deed_rules t d s) (deed_step t d s).fault
  unfolding deed_rules deed_step file_attribute_step file_attribute_fault region_fault
  deed_ruled (deed.SetFile name value) s = rising _ (file_attribute_rises s.graphics _)
  deed_ruled (deed.SetAperture name value) s = rising _ (region_rises s.graphics)
  deed_ruled (deed.SetObject name value) s = rising _ (region_rises s.graphics)
  deed_ruled (deed.Delete name) s = rising _ (region_rises s.graphics)
  deed_ruled deed.DeleteAll s = rising _ (region_rises s.graphics)

  pub fault_ruled : (c : Command) (s : State) → Ruled (rules_of room t c s) (step_of room t p c s).fault
  unfolding rules_of step_of select_step select_fault end_fault rises_from order rank_in ◌and◌
  fault_ruled (command.Broken f) s = flaw_ruled f
  fault_ruled Note s = rising [] refl
  fault_ruled End s = rising _ (end_rises s.graphics s.level)
  fault_ruled (Set x) s = setting_ruled x s
  fault_ruled (Operate o) s = operation_ruled o s
  fault_ruled (Coded code o) s = coded_ruled code o s
  fault_ruled (Select n) s = rising _ (select_rises s.graphics (aperture_with n s.apertures).set)
  fault_ruled (Define d) s = definition_ruled d s
  fault_ruled (Contain b) s = bracket_ruled b s
  fault_ruled (Attribute d) s = deed_ruled d s

  -- the fault of a command is the lowest of its rules that is broken
  pub fault_lowest : (c : Command) (s : State) → Lowest (rules_of room t c s) (step_of room t p c s).fault
  fault_lowest c s = (fault_ruled c s).lowest

  -- and its number is one of a command's
  pub fault_known : (c : Command) (s : State) → 1 ≤ (step_of room t p c s).fault → rank (step_of room t p c s).fault < length order
  fault_known c s some = (fault_ruled c s).known ((fault_lowest c s).one some)
