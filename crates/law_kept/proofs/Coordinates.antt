-- What an operation's text says is where it goes: of every recogniser only those of D01, D02 and D03 make operations, and their fields are
-- the coordinates of the text, which in the old book stand after its G code; the format is that of the FS before it, which reading knows.
-- Assumes nothing.
use Rattle.std.specs.Prelude.{Option, ℤ}
use Prim.Native.Nat.{ℕ, ◌+◌, ◌-◌}
use mathlib.Core.Path.{◌≡◌, refl, sym, ap, ◌∙◌, subst}
use mathlib.Core.Bool.{Bool, true, false, cond}
use mathlib.Core.List.{List, ◌∷◌, ◌++◌, append-nil, []}
use lib.Seq.{slice}
use Rattle.base.specs.And.{◌and◌}
use Rattle.book.specs.declared.Book.{Book}
use Rattle.formats.specs.Format.{no_format}
use Rattle.formats.specs.declared.Format.{Format}
use Rattle.points.specs.declared.Point.{Point}
use Rattle.place.specs.Mark as mark
use Rattle.place.specs.Mark.{Mark}
use Rattle.command.specs.declared.Setting.{Setting}
use Rattle.command.specs.declared.Operation.{Operation}
use Rattle.command.specs.declared.Operation.TheVariants as operation
use Rattle.command.specs.declared.Command.{Command}
use Rattle.command.specs.declared.Command.TheVariants.{Operate, Coded}
use Rattle.sequence.specs.declared.Placed.{Placed}
use Rattle.graphics.specs.Graphics.{start, with_point, with_region}
use Rattle.graphics.specs.declared.Current.{Current}
use Rattle.graphics.specs.declared.Graphics.{Graphics}
use Rattle.changes.specs.After.{starts_contour, target, going_to, after_operation, after}
use Rattle.marks.specs.Items as items
use Rattle.marks.specs.Marks.{draw_marks, flash_marks, operation_marks, marks_of}
use Rattle.law_reading.specs.State.{Room, State, begun}
use Rattle.law_reading.specs.Steps.{passed, with_graphics, with_level, draw_step, flash_step, setting_step, move_step, operation_step, coded_step, step_of}
use Rattle.law_kept.specs.Kept.{Keeps, nothing, one, Reached}
use Rattle.law_kept.specs.Coordinates.{Goes, coordinates_in, Draws, Flashes, Puts, Exact}
use Rattle.law_kept.proofs.Cut.{Cut, AllCut, commands_known}
use Rattle.law_kept.proofs.Carried.{setting_point, format_in, step_format}
use Rattle.law_kept.proofs.Spelt.{SpeltAs, Steady, Spelt, spelt}
use Rattle.command.specs.declared.Offset.{Offset}

cut_spelt : {book : Book} {file : List ℕ} {f : Format} {c : Placed} → Cut book file f c → Spelt f (coordinates_in book (slice c.from c.end file)) c.command
cut_spelt {book = book} {file = file} {f = f} {c = c} k =
    let t : List ℕ = slice c.from c.end file in
    subst (Spelt f (coordinates_in book t)) (sym k.says) (spelt f t book k.kind)

-- the command after those that are kept was looked for in the format that reading knows
cut_kept : {book : Book} {room : Room} {file : List ℕ} {s t : State} {before : List Placed} (c : Placed) (after : List Placed) → Keeps room file s before t →
    AllCut book file (format_in s) (before ++ c ∷ after) → Cut book file (format_in t) c
cut_kept c after nothing k = k.0
cut_kept {book = book} {room = room} {file = file} {s = s} c after (one {c = b} {cs = bs} e rest) k =
    cut_kept c after rest
    (subst (λ (f : Format). AllCut book file f (bs ++ c ∷ after)) (sym (step_format room _ b.place _ _ b.command s (cut_spelt k.0))) k.1)

-- what operations leave
draws : (g : Graphics) (x y : Option ℤ) (o : Option Offset) (place : ℕ) → Draws g.point.at (target g x y) (draw_marks g x y o place)
unfolding Draws draw_marks items.drawn items.edge items.contour
draws g x y o place = go g.region.on (starts_contour g.region)
  where
    go : (on first : Bool) → Draws g.point.at (target g x y)
        (cond on (cond first (mark.contour (items.contour g place) ∷ mark.edge (items.edge g (target g x y) o place) ∷ []) (mark.edge (items.edge g (target g x y) o place) ∷ []))
        (mark.draw (items.drawn g (target g x y) o place) ∷ []))
    go true true = (refl, (refl, refl, tt))
    go true false = (refl, refl, tt)
    go false first = (refl, refl, tt)

flashes : (g : Graphics) (x y : Option ℤ) (place : ℕ) → Flashes (target g x y) (flash_marks g x y place)
unfolding Flashes flash_marks items.flashed items.pose
flashes g x y place = go g.aperture.block
  where
    go : (block : Bool) → Flashes (target g x y)
        (cond block (mark.flash g.aperture.number (items.pose g (target g x y)) place ∷ []) (mark.draw (items.flashed g (target g x y) place) ∷ []))
    go true = (refl, tt)
    go false = (refl, tt)

-- an operation at a place, in a state
record Done (room : Room) (f : Format) (u : List ℕ) (p : ℕ) (o : Operation) (s : State) : Type 0 where
  point : Point
  goes : Goes f s.graphics.incremental u s.graphics.point.at point
  marks : List Mark
  left : (operation_step room p o s).next.marks ≡ s.marks ++ marks
  lies : Puts o s.graphics.point.at point marks
  stays : (operation_step room p o s).next.graphics.point.at ≡ point

done : (room : Room) (f : Format) (u : List ℕ) (p : ℕ) (o : Operation) (s : State) → SpeltAs f u o → Done room f u p o s
unfolding operation_step draw_step move_step flash_step passed with_graphics with_level after after_operation going_to with_point with_region marks_of operation_marks Puts target
done room f u p (operation.Draw x y o) s k = record {
  point = target s.graphics x y;
  goes = k s.graphics.incremental s.graphics.point.at;
  marks = draw_marks s.graphics x y o p;
  left = refl;
  lies = draws s.graphics x y o p;
  stays = refl;
}
done room f u p (operation.Move x y) s k = record {
  point = target s.graphics x y;
  goes = k s.graphics.incremental s.graphics.point.at;
  marks = [];
  left = sym (append-nil s.marks);
  lies = refl;
  stays = refl;
}
done room f u p (operation.Flash x y) s k = record {
  point = target s.graphics x y;
  goes = k s.graphics.incremental s.graphics.point.at;
  marks = flash_marks s.graphics x y p;
  left = refl;
  lies = flashes s.graphics x y p;
  stays = refl;
}

module _ {book : Book} {room : Room} {file : List ℕ} {c : Placed} {s : State} (k : Reached book room file c s) where
  told : Spelt (format_in s) (coordinates_in book (slice c.from c.end file)) c.command
  unfolding begun start
  told = cut_spelt (cut_kept c k.after k.kept (subst (AllCut book file no_format) k.order (commands_known book file).0))

  -- an operation alone, and one after a code
  pub exact : (o : Operation) → c.command ≡ Operate o → Exact book room file c o s s
  unfolding step_of
  exact o is =
      let d = done room (format_in s) _ c.place o s (subst (Spelt (format_in s) _) is told) in
      let same = ap (λ (x : Command). (step_of room (slice c.from c.end file) c.place x s).next) is in
      record {
        point = d.point;
        goes = d.goes;
        marks = d.marks;
        left = ap (λ (v : State). v.marks) same ∙ d.left;
        lies = d.lies;
        stays = ap (λ (v : State). v.graphics.point.at) same ∙ d.stays;
      }

  pub exact_coded : (x : Setting) (o : Operation) → c.command ≡ Coded x o → Exact book room file c o s (setting_step x s).next
  unfolding step_of coded_step setting_step with_graphics
  exact_coded x o is =
      let v : State = (setting_step x s).next in
      let u : List ℕ = coordinates_in book (slice c.from c.end file) in
      let spelt : SpeltAs (format_in s) u o × Steady x = subst (Spelt (format_in s) u) is told in
      let d = done room (format_in s) u c.place o v spelt.0 in
      let same = ap (λ (y : Command). (step_of room (slice c.from c.end file) c.place y s).next) is in
      let here : v.graphics.point.at ≡ s.graphics.point.at = ap (λ (q : Current). q.at) (setting_point x s.graphics) in
      record {
        point = d.point;
        goes = subst (λ (q : Point). Goes (format_in s) v.graphics.incremental u q d.point) here d.goes;
        marks = d.marks;
        left = ap (λ (v : State). v.marks) same ∙ d.left;
        lies = subst (λ (q : Point). Puts o q d.point d.marks) here d.lies;
        stays = ap (λ (v : State). v.graphics.point.at) same ∙ d.stays;
      }
