-- `placement_call::assemble` meets its contract: the notes and the sheet make a layer (`layered`), and one law for each way out.
-- Assumes nothing.
use mathlib.Core.Bool.{true, false}
use mathlib.Core.Path.{sym, ◌∙◌}
use lib.ListN.{length}
use Rattle.placement_call.proofs.Answers.{tight_is, component_is, other_layer, short_room, whole_list}
use Rattle.placement_call.proofs.Layers.{roomy, parts_are, layered}
use Rattle.placement_call.proofs.Sheets.{no_fault, it_fits}
use Rattle.placement_call.specs.Placement.{work_of}
use Rattle.placement_call.proofs.assemble.Goals as goal

pub note_all-n-requires : goal.note_all-n-requires
note_all-n-requires c = let w = c.requires.0 in (it_fits _ w.room _ w.state w.accepts, no_fault _ w.room _ w.state w.accepts)

pub returns-then-is_tight : goal.returns-then-is_tight
returns-then-is_tight c =
    λ w. let a = c.args in let v = work_of a.notes.now a.names.now a.roles.now a.pins.now in let k = c.note_all-n.auto in let noted = c.note_all-n.ensures in short_room a.book a.file.now v (length a.out.now) w.state (component_is noted c.if-n.true) (tight_is noted v (sym k.notes) (sym k.names) (sym k.roles) true (sym c.is_tight.ensures ∙ c.if-is_tight.true)) c.requires.1 c.refused.ensures

pub list-requires : goal.list-requires
list-requires c =
    let w = c.requires.0 in let h = c.note_all-n.ensures.holds (roomy _ (sym c.is_tight.ensures ∙ c.if-is_tight.false)) in layered w h c.top_of-top.ensures c.requires.1

pub returns-then-n : goal.returns-then-n
unfolding layered
returns-then-n c =
    λ w. let a = c.args in let v = work_of a.notes.now a.names.now a.roles.now a.pins.now in let k = c.note_all-n.auto in let noted = c.note_all-n.ensures in let t = sym c.is_tight.ensures ∙ c.if-is_tight.false in let h = noted.holds (roomy _ t) in let top = c.top_of-top.ensures in whole_list a.book a.file.now v (length a.out.now) w.state (component_is noted c.if-n.true) (tight_is noted v (sym k.notes) (sym k.names) (sym k.roles) false t) (parts_are w h top) (c.list.ensures (layered w h top c.requires.1))

pub returns : goal.returns
returns c =
    λ w. let a = c.args in let v = work_of a.notes.now a.names.now a.roles.now a.pins.now in let noted = c.note_all-n.ensures in other_layer a.book a.file.now v (length a.out.now) w.state (component_is noted c.if-n.false) c.requires.1 c.refused-2.ensures
