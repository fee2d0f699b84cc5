-- `list_writing::put_pins` meets its contract: the loop's invariant is `Putting`: what is written and what the link still leads to are the whole chain.
-- Assumes nothing.
use lib.ListN.{length}
use Prim.Native.Nat.{ℕ, ◌-◌}
use mathlib.Core.List.{List}
use mathlib.Core.Path.{◌≡◌}
use Rattle.list_writing.proofs.Walks.{Putting}
use Rattle.list_writing.specs.Walks.{Walks, Walking}
use Rattle.seeing.specs.Layer.{Layer, parts}
use Rattle.law_components.specs.Outlines.{at}
use Rattle.law_components.specs.Records.{pin_record}
use Rattle.list_writing.proofs.put_pins.Given as goal

abbrev pub invariant-loop-link : goal.invariant-loop-link
invariant-loop-link l = Walking l.w.pins.now l.w.top.items l.link × (length l.out ≡ length l.initial.out) × ((y : Layer l.w.e.now l.w.a.now l.w.top l.w.notes.now l.w.operations l.w.roles.now l.w.roled) → y.file ≡ l.w.file.now → (ks : List ℕ) → Walks l.w.pins.now l.w.top.items l.first ks → Putting l.w.pins.now l.w.top.items (λ k. pin_record (at (parts y) k)) ks l.initial.out l.out l.initial.q l.q l.link)

abbrev pub decreases-loop-link : goal.decreases-loop-link
decreases-loop-link l = l.link
