-- `summary_by_aperture::entry_row` meets its contract: each arm is a case of `row_as`, and what is kept of the block that a use flashes lies near enough to be moved.
use Rattle.summary_by_aperture.specs.Walk.{UseReady}
use mathlib.Core.Path.{sym, ◌∙◌}
use Rattle.summary_by_aperture.proofs.entry_row.Goals as goal

pub kept_row-requires : goal.kept_row-requires
kept_row-requires c =
    let ready : UseReady c.args.s.now c.args.r =
    c.requires.uses (sym c.role_of.ensures ∙ c.in-Uses.is) in
    rw c.index.ensures ready.who_in

pub move_row-requires : goal.move_row-requires
move_row-requires c =
    let ready : UseReady c.args.s.now c.args.r =
    c.requires.uses (sym c.role_of.ensures ∙ c.in-Uses.is) in
    let w = ready in (rw c.pose_of.ensures w.pose_in, rw (c.kept_row.ensures, c.index.ensures) w.near)
