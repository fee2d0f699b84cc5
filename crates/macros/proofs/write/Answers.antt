-- `macros::write` meets its contract: inside the room the store is `set`; past it `set` changes nothing.
-- Assumes nothing.
use mir.Facts.{to_z-of_z}
use native.Mathlib.Omega.{arith}
use mir.Syntax.{w64}
use Rattle.macros.specs.Pen.{penned}
use lib.Seq.{set_out}
use borrow.Author.Tests.{lt-ltb, le-ltb}
use mathlib.Core.Path.{refl, sym}
use Rattle.macros.proofs.write.Goals as goal

pub returns-then-at-numbers : goal.returns-then-at-numbers
unfolding penned
returns-then-at-numbers c = (rw (to_z-of_z {w = w64} {z = c.args.a.millionths} (record { sfits = omega arith })) refl, rw (lt-ltb _ _ c.if-at-numbers.true) refl)

pub returns : goal.returns
unfolding penned
returns c = (sym (set_out c.args.numbers.now c.args.p.at c.args.a.millionths c.if-at-numbers.false), rw (le-ltb _ _ c.if-at-numbers.false) refl)
