-- The innermost container starts on the stack.
-- Assumes nothing.
use Prim.Native.Nat.{ℕ, ◌≤◌}
use mathlib.Core.List.{List}
use native.Mathlib.Omega.{arith}
use Rattle.place.specs.Parts.{Parts}
use Rattle.place.specs.Mark.{Around, top, within, block, repeat}
use Rattle.law_open_store.specs.Open.{Opened}

pub starts_below : (e a : List ℕ) (room n closed limit : ℕ) (around : Around) (here : Parts) (high start h t bodies : ℕ) →
    Opened e a room n closed limit around here high start h t bodies → start ≤ high
unfolding Opened
starts_below e a room n closed limit top here high start h t bodies o = let z = o.starts in omega arith
starts_below e a room n closed limit (within (block m) before around) here high start h t bodies o = o.0.below
starts_below e a room n closed limit (within (repeat r) before around) here high start h t bodies o = o.0.below
