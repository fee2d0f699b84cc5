-- The counters of every state that a file reaches are the lengths of what is put out: each step keeps an account that pairs what reading
-- knows with the sizes of the sheet so far.
-- Assumes nothing.
use Prim.Native.Nat.{ℕ}
use mathlib.Core.Path.{◌≡◌, refl, sym, ap, ◌∙◌, subst}
use mathlib.Core.Bool.{Bool, true, false, false≢true}
use mathlib.Core.List.{List}
use lib.Dec.{eqb, lit≤}
use borrow.Author.Tests.{eqb-true, not-false}
use Rattle.book.specs.declared.Book.{Book}
use Rattle.base.specs.And.{◌and◌}
use Rattle.base.specs.Choose.{pick}
use Rattle.base.proofs.Faults.{unbroken}
use Rattle.law_bounds.proofs.Tables.{neither}
use Rattle.command.specs.declared.Setting.{Setting}
use Rattle.command.specs.declared.Setting.TheVariants as setting
use Rattle.command.specs.declared.Operation.{Operation}
use Rattle.command.specs.declared.Operation.TheVariants as operation
use Rattle.command.specs.declared.Definition.{Definition}
use Rattle.command.specs.declared.Definition.TheVariants as definition
use Rattle.command.specs.declared.Bracket.{Bracket}
use Rattle.command.specs.declared.Bracket.TheVariants as bracket
use Rattle.command.specs.declared.Deed.{Deed}
use Rattle.command.specs.declared.Deed.TheVariants as deed
use Rattle.command.specs.declared.Command.{Command}
use Rattle.command.specs.declared.Command.TheVariants.{Broken, Note, End, Set, Operate, Coded, Select, Define, Contain, Attribute}
use Rattle.sequence.specs.declared.Placed.{Placed}
use Rattle.templates.specs.Templates.{kind_of}
use Rattle.graphics.specs.Graphics.{no_aperture, start, with_header, with_notation, with_point, with_aperture, with_mode, with_quadrants, with_transform, with_region}
use Rattle.graphics.specs.Level as level
use Rattle.graphics.specs.declared.Graphics.{Graphics}
use Rattle.graphics.specs.declared.Level.{Level}
use Rattle.graphics.specs.declared.Selected.{Selected}
use Rattle.changes.specs.After.{going_to, after_setting, after_operation, after}
use Rattle.operation_rules.specs.Faults.{draw_items, flash_items}
use Rattle.command_rules.specs.Rules.{block_start_fault, closing_fault}
use Rattle.marks.specs.Marks.{draw_marks, flash_marks, repeat_of, operation_marks, bracket_marks, marks_of}
use Rattle.law_reading.specs.State.{Room, Aperture, State, outermost, begun}
use Rattle.law_reading.specs.Apertures.{block, aperture_from, aperture_with, defined}
use Rattle.law_reading.specs.Steps.{passed, with_graphics, with_level, with_opened, with_apertures, with_macros, with_names, with_numbers, draw_step, flash_step, flash_height, select_step, aperture_step, macro_step, block_start_step, repeat_start_step, block_end_step, repeat_end_step, file_attribute_step, setting_step, move_step, operation_step, coded_step, definition_step, bracket_step, deed_step, step_of}
use Rattle.law_kept.specs.Kept.{Keeps, nothing, one}
use Rattle.law_kept.specs.Counted.{Counts}
use Rattle.law_kept.proofs.Entries.{block_uses, repeat_uses}
use Rattle.law_kept.proofs.Sizes.{count_of, sized, sizes_append}
use Rattle.law_kept.proofs.Found.{found_number}
use Rattle.law_kept.proofs.Account.{Account, Known, draw_size, flash_size, marked_more, counts, added, block_opens, repeat_opens, block_ends_lem, repeat_ends_lem}

-- what the rules of AB and SR say where they are kept
closing_inside : (g : Graphics) (l : Level) (o : ℕ) → closing_fault g l o ≡ 0 → l.inside ≡ o
unfolding closing_fault
closing_inside g l o none = let test = unbroken (lit≤ tt) none in eqb-true _ _ (not-false _ (neither _ _ test.0).1)

taken_free : (g : Graphics) (l : Level) (taken full : Bool) → block_start_fault g l taken full ≡ 0 → taken ≡ false
unfolding block_start_fault
taken_free g l taken full none = (unbroken (lit≤ tt) (unbroken (lit≤ tt) none).1).0

-- no template is a block
kinds : (a b c d : Bool) → eqb (pick a 1 (pick b 2 (pick c 3 (pick d 4 5)))) block ≡ false
unfolding pick
kinds true b c d = refl
kinds false true c d = refl
kinds false false true d = refl
kinds false false false true = refl
kinds false false false false = refl

kind_other : (name : List ℕ) → eqb (kind_of name) block ≡ false
unfolding kind_of
kind_other name = kinds _ _ _ _

setting_keeps : (x : Setting) (g : Graphics) → g.aperture ≡ (after_setting x g).aperture
unfolding after_setting with_header with_notation with_mode with_quadrants with_transform with_region
setting_keeps setting.Linear g = refl
setting_keeps setting.Clockwise g = refl
setting_keeps setting.Counterclockwise g = refl
setting_keeps setting.SingleQuadrant g = refl
setting_keeps setting.MultiQuadrant g = refl
setting_keeps setting.RegionStart g = refl
setting_keeps setting.RegionEnd g = refl
setting_keeps (setting.Format f) g = refl
setting_keeps setting.Absolute g = refl
setting_keeps setting.Incremental g = refl
setting_keeps setting.Millimetres g = refl
setting_keeps setting.Inches g = refl
setting_keeps setting.CodedMillimetres g = refl
setting_keeps setting.CodedInches g = refl
setting_keeps setting.Halt g = refl
setting_keeps setting.Dark g = refl
setting_keeps setting.Clear g = refl
setting_keeps (setting.Mirror x y) g = refl
setting_keeps (setting.Rotation a rounded) g = refl
setting_keeps (setting.Scale a rounded) g = refl

setting_counts : (x : Setting) (s : State) → Known s → Known (setting_step x s).next
unfolding setting_step with_graphics
setting_counts x s k = subst (λ (a : Selected). Account a s.level s.opened s.apertures (sized s.marks)) (setting_keeps x s.graphics) k

module _ (room : Room) (t : List ℕ) (p : ℕ) where
  operation_counts : (o : Operation) (s : State) → Known s → Known (operation_step room p o s).next
  unfolding operation_step draw_step move_step flash_step passed with_graphics with_level after after_operation going_to with_point with_region marks_of operation_marks
  operation_counts (operation.Draw x y o) s k = marked_more s k (draw_marks s.graphics x y o p) (draw_items s.graphics) 0 (draw_size s.graphics x y o p _)
  operation_counts (operation.Move x y) s k = k
  operation_counts (operation.Flash x y) s k =
      marked_more s k (flash_marks s.graphics x y p) (flash_items s.graphics) (flash_height s.graphics.aperture) (flash_size s.graphics x y p _ k.held)

  definition_counts : (d : Definition) (s : State) → Known s → Known (definition_step room t d s).next
  unfolding definition_step aperture_step macro_step with_apertures with_macros with_numbers defined
  definition_counts (definition.Aperture n name ps rounded) s k = added _ (kind_other _) k
  definition_counts (definition.Macro name blocks deep rounded) s k = k

  bracket_counts : (b : Bracket) (s : State) → (bracket_step room p b s).fault ≡ 0 → Known s → Known (bracket_step room p b s).next
  unfolding bracket_step block_start_step block_end_step repeat_start_step repeat_end_step passed with_level with_opened with_apertures after with_point marks_of bracket_marks repeat_of
  bracket_counts (bracket.BlockStart n) s e k =
      subst (Account _ _ _ _) (sym (sizes_append s.marks _ _)) (block_opens k n (taken_free s.graphics s.level _ _ e))
  bracket_counts bracket.BlockEnd s e k =
      let u : State = passed (Contain bracket.BlockEnd) p 0 s in
      subst (Account _ _ _ _) (sym (ap sized (block_uses s.opened u).1 ∙ sizes_append s.marks _ _))
      (block_ends_lem u s.opened (sized s.marks) k (closing_inside s.graphics s.level level.block e))
  bracket_counts (bracket.RepeatStart nx ny dx dy rounded) s e k =
      subst (Account _ _ _ _) (sym (sizes_append s.marks _ _)) (repeat_opens k nx ny _ refl refl)
  bracket_counts bracket.RepeatEnd s e k =
      let u : State = passed (Contain bracket.RepeatEnd) p 0 s in
      subst (Account _ _ _ _) (sym (ap sized (repeat_uses s.opened u).1 ∙ sizes_append s.marks _ _))
      (repeat_ends_lem u s.opened (sized s.marks) k (closing_inside s.graphics s.level level.repeat e))

  deed_counts : (d : Deed) (s : State) → Known s → Known (deed_step t d s).next
  unfolding deed_step file_attribute_step with_names
  deed_counts (deed.SetFile name value) s k = k
  deed_counts (deed.SetAperture name value) s k = k
  deed_counts (deed.SetObject name value) s k = k
  deed_counts (deed.Delete name) s k = k
  deed_counts deed.DeleteAll s k = k

  select_counts : (n : ℕ) (s : State) → Known s → Known (select_step n s).next
  unfolding select_step with_graphics with_aperture aperture_with
  select_counts n s k = record {
    here = k.here;
    around = k.around;
    apart = k.apart;
    closed = k.closed;
    picked = λ e. ap (λ m. (aperture_from 0 m s.apertures).block) (found_number 0 n s.apertures e) ∙ e;
    held = λ e. k.closed n e ∙ ap (λ m. count_of m (sized s.marks).blocks) (sym (found_number 0 n s.apertures e));
  }

  step_counts : (c : Command) (s : State) → (step_of room t p c s).fault ≡ 0 → Known s → Known (step_of room t p c s).next
  unfolding step_of coded_step
  step_counts (Broken flaw) s e k = k
  step_counts Note s e k = k
  step_counts End s e k = k
  step_counts (Set x) s e k = setting_counts x s k
  step_counts (Operate o) s e k = operation_counts o s k
  step_counts (Coded code o) s e k = operation_counts o (setting_step code s).next (setting_counts code s k)
  step_counts (Select n) s e k = select_counts n s k
  step_counts (Define d) s e k = definition_counts d s k
  step_counts (Contain b) s e k = bracket_counts b s e k
  step_counts (Attribute d) s e k = deed_counts d s k

kept_counts : {room : Room} {file : List ℕ} {s t : State} {cs : List Placed} → Keeps room file s cs t → Known s → Known t
kept_counts nothing k = k
kept_counts {room = room} {s = s} (one {c = c} e rest) k = kept_counts rest (step_counts room _ c.place c.command s e k)

begun_known : (book : Book) → Known (begun book)
unfolding begun outermost start no_aperture aperture_with aperture_from
begun_known book = record {
  here = refl;
  around = refl;
  apart = tt;
  closed = λ n e. absurd (false≢true e);
  picked = λ e. absurd (false≢true e);
  held = λ e. absurd (false≢true e);
}

-- every state that kept commands lead to, and those after a code before an operation
module _ (book : Book) {room : Room} {file : List ℕ} {t : State} {cs : List Placed} (k : Keeps room file (begun book) cs t) where
  pub counts_reached : Counts t
  counts_reached = counts t (kept_counts k (begun_known book))

  pub counts_behind : (code : Setting) → Counts (setting_step code t).next
  counts_behind code = counts (setting_step code t).next (setting_counts code t (kept_counts k (begun_known book)))
