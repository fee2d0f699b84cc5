-- How apertures, open blocks and numbers change from command to command: whatever each of the five changes keeps, a reading keeps.
-- Assumes nothing.
use Prim.Native.Nat.{ℕ, ◌<◌}
use mathlib.Core.Path.{◌≡◌, refl, sym, ◌∙◌}
use mathlib.Core.Bool.{Bool, true, false}
use mathlib.Core.List.{List, [], ◌∷◌, ◌++◌}
use lib.Dec.{eqb, lit≤}
use lib.IntN.{ℤ}
use lib.ListN.{length}
use lib.Seq.{slice}
use borrow.Author.Tests.{eqb-true, not-false}
use Rattle.base.proofs.Faults.{unbroken}
use Rattle.law_bounds.proofs.Tables.{neither}
use Rattle.command.specs.declared.Setting.{Setting}
use Rattle.command.specs.declared.Operation.{Operation}
use Rattle.command.specs.declared.Operation.TheVariants as operation
use Rattle.command.specs.declared.Definition.{Definition}
use Rattle.command.specs.declared.Definition.TheVariants as definition
use Rattle.command.specs.declared.Bracket.{Bracket}
use Rattle.command.specs.declared.Bracket.TheVariants as bracket
use Rattle.command.specs.declared.Deed.{Deed}
use Rattle.command.specs.declared.Deed.TheVariants as deed
use Rattle.command.specs.declared.Command.{Command}
use Rattle.command.specs.declared.Command.TheVariants.{Broken, Note, End, Set, Operate, Coded, Select, Define, Contain, Attribute}
use Rattle.sequence.specs.declared.Placed.{Placed}
use Rattle.graphics.specs.declared.Graphics.{Graphics}
use Rattle.graphics.specs.declared.Level.{Level}
use Rattle.command_rules.specs.Rules.{aperture_fault, block_start_fault}
use Rattle.law_reading.specs.State as opened
use Rattle.law_reading.specs.State.{Room, Aperture, Opened, State}
use Rattle.law_reading.specs.Apertures.{is_taken, defined, opening, closing, Outcome, outcome_of}
use Rattle.law_reading.specs.Steps.{
  part,
  passed,
  with_graphics,
  with_level,
  with_opened,
  with_apertures,
  with_macros,
  with_names,
  with_numbers,
  draw_step,
  flash_step,
  select_step,
  aperture_step,
  macro_step,
  block_start_step,
  repeat_start_step,
  block_ends,
  repeat_ends,
  block_end_step,
  repeat_end_step,
  file_attribute_step,
  setting_step,
  move_step,
  operation_step,
  coded_step,
  definition_step,
  bracket_step,
  deed_step,
  step_of,
}
use Rattle.law_kept.specs.Kept.{Keeps, nothing, one}
use Rattle.law_shapes.proofs.Led.{most_numbers}
use Rattle.law_shapes.proofs.Low.{Low, AllLow}

-- what is said of apertures, of what is open and of the numbers
abbrev pub Said : Type 1
Said = List Aperture → List Opened → List ℤ → Type 0

-- an AD, an AB that opens and one that closes, an SR that opens and one that closes keep it
pub record Lasts (P : Said) : Type 0 where
  pub adds : {known : List Aperture} {os : List Opened} {ns : List ℤ} (n : ℕ) (name : List ℕ) (kept : List ℤ) → is_taken n known ≡ false → n < most_numbers →
      P known os ns → P (known ++ defined n name (length ns) kept ∷ []) os (ns ++ kept)
  pub opens : {known : List Aperture} {os : List Opened} {ns : List ℤ} (n : ℕ) (l : Level) → is_taken n known ≡ false → n < most_numbers →
      P known os ns → P (known ++ opening n ∷ []) (opened.block n l ∷ os) ns
  pub closes : {known : List Aperture} {os : List Opened} {ns : List ℤ} (n items height : ℕ) (l : Level) → P known (opened.block n l ∷ os) ns → P (closing n items height known) os ns
  pub repeats : {known : List Aperture} {os : List Opened} {ns : List ℤ} (l : Level) → P known os ns → P known (opened.repeat l ∷ os) ns
  pub repeated : {known : List Aperture} {os : List Opened} {ns : List ℤ} (l : Level) → P known (opened.repeat l ∷ os) ns → P known os ns

-- no fault: the number was free, and the template has no fault
pub ad_free : (g : Graphics) (taken unknown full : Bool) (worked : ℕ) → aperture_fault g (Rattle.base.specs.Or.◌or◌ taken unknown) worked full ≡ 0 → taken ≡ false
unfolding aperture_fault
ad_free g taken unknown full worked none = (neither taken unknown (unbroken (lit≤ tt) (unbroken (lit≤ tt) none).1).0).0

block_free : (g : Graphics) (l : Level) (taken full : Bool) → block_start_fault g l taken full ≡ 0 → taken ≡ false
unfolding block_start_fault
block_free g l taken full none = (unbroken (lit≤ tt) (unbroken (lit≤ tt) none).1).0

module _ (P : Said) (lasts : Lasts P) where
  abbrev Holds : State → Type 0
  Holds s = P s.apertures s.opened s.numbers

  block_ends_lem : (os : List Opened) (s : State) → s.opened ≡ os → Holds s → Holds (block_ends os s)
  unfolding block_ends with_level with_opened with_apertures
  block_ends_lem [] s e h = h
  block_ends_lem (opened.block n around ∷ os) s e h = lasts.closes n _ _ around (rw e at h)
  block_ends_lem (opened.repeat around ∷ os) s e h = h

  repeat_ends_lem : (os : List Opened) (s : State) → s.opened ≡ os → Holds s → Holds (repeat_ends os s)
  unfolding repeat_ends with_level with_opened
  repeat_ends_lem [] s e h = h
  repeat_ends_lem (opened.block n around ∷ os) s e h = h
  repeat_ends_lem (opened.repeat around ∷ os) s e h = lasts.repeated around (rw e at h)

  module _ (room : Room) (t : List ℕ) (p : ℕ) where
    operation_lasts : (o : Operation) (s : State) → Holds s → Holds (operation_step room p o s).next
    unfolding operation_step draw_step move_step flash_step passed with_graphics with_level
    operation_lasts (operation.Draw x y o) s h = h
    operation_lasts (operation.Move x y) s h = h
    operation_lasts (operation.Flash x y) s h = h

    definition_lasts : (d : Definition) (s : State) → Low (Define d) → (definition_step room t d s).fault ≡ 0 → Holds s → Holds (definition_step room t d s).next
    unfolding definition_step aperture_step macro_step with_apertures with_macros with_numbers
    definition_lasts (definition.Aperture n name ps rounded) s low e h = lasts.adds n (part t name) _ (ad_free s.graphics (is_taken n s.apertures) _ _ _ e) low h
    definition_lasts (definition.Macro name blocks deep rounded) s low e h = h

    bracket_lasts : (b : Bracket) (s : State) → Low (Contain b) → (bracket_step room p b s).fault ≡ 0 → Holds s → Holds (bracket_step room p b s).next
    unfolding bracket_step block_start_step block_end_step repeat_start_step repeat_end_step passed with_level with_opened with_apertures
    bracket_lasts (bracket.BlockStart n) s low e h = lasts.opens n s.level (block_free s.graphics s.level _ _ e) low h
    bracket_lasts bracket.BlockEnd s low e h = block_ends_lem s.opened (passed (Contain bracket.BlockEnd) p 0 s) refl h
    bracket_lasts (bracket.RepeatStart nx ny dx dy rounded) s low e h = lasts.repeats s.level h
    bracket_lasts bracket.RepeatEnd s low e h = repeat_ends_lem s.opened (passed (Contain bracket.RepeatEnd) p 0 s) refl h

    deed_lasts : (d : Deed) (s : State) → Holds s → Holds (deed_step t d s).next
    unfolding deed_step file_attribute_step with_names
    deed_lasts (deed.SetFile name value) s h = h
    deed_lasts (deed.SetAperture name value) s h = h
    deed_lasts (deed.SetObject name value) s h = h
    deed_lasts (deed.Delete name) s h = h
    deed_lasts deed.DeleteAll s h = h

    pub step_lasts : (c : Command) (s : State) → Low c → (step_of room t p c s).fault ≡ 0 → Holds s → Holds (step_of room t p c s).next
    unfolding step_of coded_step setting_step select_step with_graphics
    step_lasts (Broken flaw) s low e h = h
    step_lasts Note s low e h = h
    step_lasts End s low e h = h
    step_lasts (Set x) s low e h = h
    step_lasts (Operate o) s low e h = operation_lasts o s h
    step_lasts (Coded code o) s low e h = operation_lasts o (setting_step code s).next h
    step_lasts (Select n) s low e h = h
    step_lasts (Define d) s low e h = definition_lasts d s low e h
    step_lasts (Contain b) s low e h = bracket_lasts b s low e h
    step_lasts (Attribute d) s low e h = deed_lasts d s h

  pub kept_lasts : {room : Room} {file : List ℕ} {s t : State} {cs : List Placed} → AllLow cs → Keeps room file s cs t → Holds s → Holds t
  kept_lasts low nothing h = h
  kept_lasts {room = room} {s = s} low (one {c = c} e rest) h = kept_lasts low.1 rest (step_lasts room _ c.place c.command s low.0 e h)
