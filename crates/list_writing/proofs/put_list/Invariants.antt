-- `list_writing::put_list` meets its contract: the loop's invariant is that the entries of the first k items are written.
-- Assumes nothing.
use lib.ListN.{length, take}
use mathlib.Core.Bool.{false}
use mathlib.Core.Path.{◌≡◌}
use Rattle.list_writing.specs.Ready.{Ready}
use Rattle.seeing.specs.Layer.{parts}
use Rattle.law_components.specs.Written.{Wrote}
use Rattle.law_components.specs.Placements.{each, entry_for}
use Rattle.list_writing.proofs.put_list.Given as goal

abbrev pub invariant-loop-k : goal.invariant-loop-k
invariant-loop-k l = (length l.out ≡ length l.initial.out) × ((w : Ready l.w.file.now l.w.e.now l.w.a.now l.w.top l.w.notes.now l.w.operations l.w.roles.now l.w.roled l.w.names.now l.w.pins.now) → Wrote l.initial.out l.out (record { at = 0; full = false }) l.q (each (entry_for (parts w.layer)) (take l.k (parts w.layer))))
