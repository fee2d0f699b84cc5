-- `passes::link_pins` meets its contract: the loop's invariant is `Linking`: the items from k on are linked.
-- Assumes nothing.
use lib.ListN.{length}
use Prim.Native.Nat.{◌+◌, ◌-◌, ◌≤◌}
use mathlib.Core.Path.{◌≡◌}
use Rattle.seeing.specs.Layer.{Layer, parts}
use Rattle.passes.proofs.Pins.{Linking}
use Rattle.passes.specs.Links.{Sound}
use Rattle.passes.specs.Marks.{Marked}
use Rattle.passes.proofs.link_pins.Given as goal

abbrev pub invariant-loop-k : goal.invariant-loop-k
invariant-loop-k l = (length l.names ≡ length l.initial.names) × (length l.pins ≡ length l.initial.pins) × (l.links + l.k ≤ l.top.items) × ((y : Layer l.e l.a l.top l.notes l.operations l.roles l.roled) → Sound y → Marked y l.initial.names (length (parts y)) → Linking y l.names l.pins l.links l.k)
