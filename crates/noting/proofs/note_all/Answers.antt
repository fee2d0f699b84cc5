use Rattle.noting.proofs.Going.{going_start, going_asks, going_fault, going_last, going_more, going_less}
use native.Mathlib.Omega.{arith}
use mathlib.Core.Path.{refl, sym, ◌∙◌}
use Rattle.noting.proofs.note_all.Goals as goal

pub loop-known-init : goal.loop-known-init
loop-known-init c =
    let p = c.requires in (rw (c.nothing-known.ensures, c.no_format-format.ensures) (going_start _ _ _ _ _ p.0 p.1), refl, refl, refl)

pub shape_of-notes-in-Fault : goal.shape_of-notes-in-Fault
shape_of-notes-in-Fault c = c.loop-known.invariant.1

pub shape_of-names-in-Fault : goal.shape_of-names-in-Fault
shape_of-names-in-Fault c = c.loop-known.invariant.2

pub shape_of-roles-in-Fault : goal.shape_of-roles-in-Fault
shape_of-roles-in-Fault c = c.loop-known.invariant.3

pub returns-in-Fault : goal.returns-in-Fault
returns-in-Fault c = going_fault c.loop-known.invariant.0 (sym c.turn_at-t.ensures ∙ c.in-Fault.is)

pub note_command-requires : goal.note_command-requires
note_command-requires c =
    going_asks c.loop-known.invariant.0

pub shape_of-notes-in-Last : goal.shape_of-notes-in-Last
shape_of-notes-in-Last c =
    c.note_command.auto.notes ∙ c.loop-known.invariant.1

pub shape_of-names-in-Last : goal.shape_of-names-in-Last
shape_of-names-in-Last c =
    c.note_command.auto.names ∙ c.loop-known.invariant.2

pub shape_of-roles-in-Last : goal.shape_of-roles-in-Last
shape_of-roles-in-Last c =
    c.note_command.auto.roles ∙ c.loop-known.invariant.3

pub returns-in-Last : goal.returns-in-Last
returns-in-Last c =
    going_last c.loop-known.invariant.0 c.note_command.ensures (sym c.turn_at-t.ensures ∙ c.in-Last.is)

pub note_command-known-requires : goal.note_command-known-requires
note_command-known-requires c =
    going_asks c.loop-known.invariant.0

pub loop-known-smaller : goal.loop-known-smaller
loop-known-smaller c =
    let l = going_less c.loop-known.invariant.0 c.note_command-known.ensures (sym c.turn_at-t.ensures ∙ c.in-More.is) in
    let a = l.0 in
    let b = l.1 in
    omega arith

pub loop-known-preserved : goal.loop-known-preserved
loop-known-preserved c =
    let i = c.loop-known.invariant in (
      going_more i.0 c.note_command-known.ensures (sym c.turn_at-t.ensures ∙ c.in-More.is),
      c.note_command-known.auto.notes ∙ i.1,
      c.note_command-known.auto.names ∙ i.2,
      c.note_command-known.auto.roles ∙ i.3,
    )
