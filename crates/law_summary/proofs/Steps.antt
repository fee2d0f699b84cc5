-- Every command that is accepted keeps what a reading knows of its apertures.
-- Assumes nothing.
use Prim.Native.Nat.{ℕ, ◌+◌, ◌≤◌}
use mathlib.Core.Path.{◌≡◌, refl, ap, subst, ◌∙◌}
use mathlib.Core.Bool.{true, false, not, false≢true}
use mathlib.Core.List.{List, ◌∷◌, ◌++◌, []}
use native.Mathlib.Omega.{arith}
use lib.Dec.{eqb, lit≤}
use borrow.Author.Tests.{eq-eqb}
use Rattle.base.specs.And.{◌and◌}
use Rattle.base.specs.Or.{◌or◌}
use Rattle.base.proofs.And.{and_false}
use Rattle.base.proofs.Faults.{unbroken}
use Rattle.law_bounds.proofs.Tables.{neither}
use Rattle.book.specs.declared.Book.{Book}
use Rattle.faults.proofs.Laws.{sooner_first}
use Rattle.command.specs.declared.Setting.{Setting}
use Rattle.command.specs.declared.Operation.{Operation}
use Rattle.command.specs.declared.Operation.TheVariants as operation
use Rattle.command.specs.declared.Definition.{Definition}
use Rattle.command.specs.declared.Definition.TheVariants as definition
use Rattle.command.specs.declared.Bracket.{Bracket}
use Rattle.command.specs.declared.Bracket.TheVariants as bracket
use Rattle.command.specs.declared.Deed.{Deed}
use Rattle.command.specs.declared.Deed.TheVariants as deed
use Rattle.command.specs.declared.Command.{Command}
use Rattle.command.specs.declared.Command.TheVariants.{Broken, Note, End, Set, Operate, Coded, Select, Define, Contain, Attribute}
use Rattle.place.specs.Mark as mark
use Rattle.graphics.specs.Graphics.{start, no_aperture, with_point, with_aperture, with_region}
use Rattle.graphics.specs.declared.Graphics.{Graphics}
use Rattle.changes.specs.After.{going_to, after_operation, after}
use Rattle.command_rules.specs.Rules.{aperture_fault, block_start_fault}
use Rattle.marks.specs.Marks.{operation_marks, bracket_marks, marks_of}
use Rattle.law_reading.specs.State as opened
use Rattle.law_reading.specs.State.{Room, Aperture, Opened, State, begun}
use Rattle.law_reading.specs.Apertures.{aperture_with, defined, opening, closing}
use Rattle.law_reading.specs.Steps.{passed, with_graphics, with_level, with_opened, with_apertures, with_macros, with_names, with_numbers, draw_step, flash_step, select_step, aperture_step, macro_step, block_start_step, repeat_start_step, block_ends, repeat_ends, block_end_step, repeat_end_step, file_attribute_step, setting_step, move_step, operation_step, coded_step, definition_step, bracket_step, deed_step, step_of}
use Rattle.law_summary.specs.Tools.{how_many, of_block, numbered, tools}
use Rattle.law_summary.proofs.Tools.{many_append, many_one, tools_blocks, not_taken, added_distinct, added_numbered, added_tools, closed_numbered, closed_tools, selects, selects_solid}
use Rattle.law_summary.proofs.Knowing.{AllOpen, none, block, repeat, opens, closes, AllMarked, more, marks_append, Knowing, Knows, Grown, tool_stays, marks_stay, open_stays}
use Rattle.law_summary.proofs.Drawing.{setting_aperture, setting_mode, graphics_knows, draw_marked, flash_marked}

-- ---- one aperture more

added : (known : List Aperture) (a : Aperture) → numbered a.number known ≡ 0 → Grown known (known ++ (a ∷ []))
added known a fresh = record { tools_same = λ n s. added_tools known a fresh n s; numbered_same = λ n s. added_numbered known a fresh n s }

aperture_knows : {g : Graphics} {known : List Aperture} {os : List Opened} {ms : List mark.Mark} (a : Aperture) → numbered a.number known ≡ 0 → Knowing g known os ms → Knowing g (known ++ (a ∷ [])) os ms
aperture_knows {g} {known} a fresh k =
    let w = added known a fresh in
    record {
      mode = k.mode;
      chosen = λ s b. tool_stays w g.aperture.number (k.chosen s b);
      solid = k.solid;
      distinct = added_distinct known a fresh k.distinct;
      around = open_stays w k.around;
      marks = marks_stay w k.marks;
    }

-- an open block's
module _ (n : ℕ) (known : List Aperture) (fresh : numbered n known ≡ 0) where
  opening_one : numbered n (known ++ (opening n ∷ [])) ≡ 1
  unfolding opening
  opening_one =
      let all = many_append (λ a. eqb n a.number) known (opening n ∷ []) ∙ ap (λ (k : ℕ). numbered n known + k) (many_one (λ a. eqb n a.number) (opening n)) in
      let w = rw (eq-eqb n n refl) at all in
      omega arith

  opening_none : tools n (known ++ (opening n ∷ [])) ≡ 0
  unfolding opening of_block ◌or◌
  opening_none =
      let all = many_append (λ a. eqb n a.number and not (of_block a)) known (opening n ∷ []) ∙ ap (λ (k : ℕ). tools n known + k) (many_one (λ a. eqb n a.number and not (of_block a)) (opening n)) in
      let w = rw (and_false (eqb n n)) at all in
      let s = tools_blocks n known in
      omega arith

-- ---- a block that closes

closes_block : (n items height : ℕ) (known : List Aperture) → tools n known ≡ 0 → Grown known (closing n items height known)
closes_block n items height known z = record {
  tools_same = λ m s. closed_tools n items height m known z;
  numbered_same = λ m s. closed_numbered n items height m known;
}

block_ends_lem : (os : List Opened) (s : State) → s.opened ≡ os → Knows s → Knows (block_ends os s)
unfolding block_ends with_level with_opened with_apertures
block_ends_lem [] s e k = k
block_ends_lem (opened.block n l ∷ os) s e k = go (subst (AllOpen s.apertures) e k.around)
  where
    go : AllOpen s.apertures (opened.block n l ∷ os) → Knowing s.graphics (closing n s.level.items s.level.height s.apertures) os s.marks
    go (block one z w) =
        let grown = closes_block n s.level.items s.level.height s.apertures z in
        record {
          mode = k.mode;
          chosen = λ s' b. tool_stays grown s.graphics.aperture.number (k.chosen s' b);
          solid = k.solid;
          distinct = λ m. rw (closed_numbered n s.level.items s.level.height m s.apertures) (k.distinct m);
          around = open_stays grown w;
          marks = marks_stay grown k.marks;
        }
block_ends_lem (opened.repeat l ∷ os) s e k = k

repeat_ends_lem : (os : List Opened) (s : State) → s.opened ≡ os → Knows s → Knows (repeat_ends os s)
unfolding repeat_ends with_level with_opened
repeat_ends_lem [] s e k = k
repeat_ends_lem (opened.block n l ∷ os) s e k = k
repeat_ends_lem (opened.repeat l ∷ os) s e k = go (subst (AllOpen s.apertures) e k.around)
  where
    go : AllOpen s.apertures (opened.repeat l ∷ os) → Knowing s.graphics s.apertures os s.marks
    go (repeat w) = record { mode = k.mode; chosen = k.chosen; solid = k.solid; distinct = k.distinct; around = w; marks = k.marks }

-- ---- each command

-- after a command that changes no aperture and leaves marks of known ones
marks_knows : {g g' : Graphics} {known : List Aperture} {os : List Opened} {ms ns : List mark.Mark} → g'.aperture ≡ g.aperture → g'.mode ≡ g.mode →
    Knowing g known os ms → AllMarked known ns → Knowing g' known os (ms ++ ns)
marks_knows e m k w = record {
  mode = rw m k.mode;
  chosen = rw e k.chosen;
  solid = rw e k.solid;
  distinct = k.distinct;
  around = k.around;
  marks = marks_append k.marks w;
}

module _ (room : Room) (t : List ℕ) (p : ℕ) where
  operation_knows : (o : Operation) (s : State) → (operation_step room p o s).fault ≡ 0 → Knows s → Knows (operation_step room p o s).next
  unfolding operation_step draw_step move_step flash_step passed with_graphics with_level after after_operation going_to with_point with_region marks_of operation_marks
  operation_knows (operation.Draw x y o) s f k = marks_knows refl refl k (draw_marked s.graphics s.apertures k.mode k.chosen _ _ x y o p k.solid f)
  operation_knows (operation.Move x y) s f k = graphics_knows refl k.mode k
  operation_knows (operation.Flash x y) s f k = marks_knows refl refl k (flash_marked s.graphics s.apertures k.mode k.chosen _ _ x y p f)

  select_knows : (n : ℕ) (s : State) → Knows s → Knows (select_step n s).next
  unfolding select_step with_graphics with_aperture aperture_with
  select_knows n s k = record {
    mode = k.mode;
    chosen = λ is b.
        let f = selects 0 n s.apertures is b in
        let one = k.distinct n in
        let all = tools_blocks n s.apertures in
        let some = f.1 in
        rw f.0 (omega arith);
    solid = selects_solid 0 n s.apertures;
    distinct = k.distinct;
    around = k.around;
    marks = k.marks;
  }

  definition_knows : (d : Definition) (s : State) → (definition_step room t d s).fault ≡ 0 → Knows s → Knows (definition_step room t d s).next
  unfolding definition_step aperture_step macro_step with_apertures with_macros with_numbers aperture_fault defined
  definition_knows (definition.Aperture n name ps rounded) s f k =
      let taken = (unbroken (lit≤ tt) (unbroken (lit≤ tt) f).1).0 in
      aperture_knows _ (not_taken n s.apertures (neither _ _ taken).0) k
  definition_knows (definition.Macro name blocks deep rounded) s f k = k

  bracket_knows : (b : Bracket) (s : State) → (bracket_step room p b s).fault ≡ 0 → Knows s → Knows (bracket_step room p b s).next
  unfolding bracket_step block_start_step block_end_step repeat_start_step repeat_end_step passed with_level with_opened with_apertures after with_point marks_of bracket_marks block_start_fault opening
  bracket_knows (bracket.BlockStart n) s f k =
      let fresh = not_taken n s.apertures (unbroken (lit≤ tt) (unbroken (lit≤ tt) f).1).0 in
      let w = aperture_knows (opening n) fresh k in
      record {
        mode = k.mode;
        chosen = w.chosen;
        solid = w.solid;
        distinct = w.distinct;
        around = block (opening_one n s.apertures fresh) (opening_none n s.apertures fresh) w.around;
        marks = marks_append w.marks (more opens none);
      }
  bracket_knows bracket.BlockEnd s f k = block_ends_lem s.opened (passed (Contain bracket.BlockEnd) p 0 s) refl (marks_knows refl refl k (more closes none))
  bracket_knows (bracket.RepeatStart nx ny dx dy rounded) s f k = record {
    mode = k.mode;
    chosen = k.chosen;
    solid = k.solid;
    distinct = k.distinct;
    around = repeat k.around;
    marks = marks_append k.marks (more opens none);
  }
  bracket_knows bracket.RepeatEnd s f k = repeat_ends_lem s.opened (passed (Contain bracket.RepeatEnd) p 0 s) refl (marks_knows refl refl k (more closes none))

  deed_knows : (d : Deed) (s : State) → Knows s → Knows (deed_step t d s).next
  unfolding deed_step file_attribute_step with_names
  deed_knows (deed.SetFile name value) s k = k
  deed_knows (deed.SetAperture name value) s k = k
  deed_knows (deed.SetObject name value) s k = k
  deed_knows (deed.Delete name) s k = k
  deed_knows deed.DeleteAll s k = k

  setting_knows : (x : Setting) (s : State) → Knows s → Knows (setting_step x s).next
  unfolding setting_step with_graphics
  setting_knows x s k = graphics_knows (setting_aperture x s.graphics) (setting_mode x s.graphics k.mode) k

  -- of a code and the operation after it neither is at fault
  coded_knows : (x : Setting) (o : Operation) (s : State) → (coded_step room p x o s).fault ≡ 0 → Knows s → Knows (coded_step room p x o s).next
  unfolding coded_step
  coded_knows x o s f k = operation_knows o (setting_step x s).next ((sooner_first _ _).none f).1 (setting_knows x s k)

  pub step_knows : (c : Command) (s : State) → (step_of room t p c s).fault ≡ 0 → Knows s → Knows (step_of room t p c s).next
  unfolding step_of
  step_knows (Broken flaw) s f k = k
  step_knows Note s f k = k
  step_knows End s f k = k
  step_knows (Set x) s f k = setting_knows x s k
  step_knows (Operate o) s f k = operation_knows o s f k
  step_knows (Coded x o) s f k = coded_knows x o s f k
  step_knows (Select n) s f k = select_knows n s k
  step_knows (Define d) s f k = definition_knows d s f k
  step_knows (Contain b) s f k = bracket_knows b s f k
  step_knows (Attribute d) s f k = deed_knows d s k

pub begun_knows : (book : Book) → Knows (begun book)
unfolding begun start no_aperture how_many ◌or◌
begun_knows book = record {
  mode = lit≤ tt;
  chosen = λ s b. absurd (false≢true s);
  solid = λ s. absurd (false≢true s);
  distinct = λ n. lit≤ tt;
  around = none;
  marks = none;
}
