use Rattle.shapes.proofs.Cutting.{behind_is, stands_within, count_starts, count_on, count_broken, count_ends}
use Rattle.shapes.specs.Primitives.{behind}
use native.Mathlib.Omega.{arith}
use mathlib.Core.Path.{◌≡◌, sym, ◌∙◌}
use Prim.Native.Nat.{◌+◌, ◌≤◌}
use Rattle.shapes.proofs.count_of.Goals as goal

pub loop-at-init : goal.loop-at-init
loop-at-init c = (c.requires.0, omega arith, count_starts _)

pub stands-requires : goal.stands-requires
stands-requires c = (c.loop-at-test.true, c.requires.1)

pub primitive_at-p-requires : goal.primitive_at-p-requires
primitive_at-p-requires c = omega (arith, c.loop-at-test.true, c.requires.1)

pub overflow_add-at : goal.overflow_add-at
overflow_add-at c =
    let next : let p = c.primitive_at-p.result in p.first + p.count ≡ behind c.args.numbers.now c.loop-at.at =
    let p = c.primitive_at-p.ensures.0 in
    (λ i. (p i).first + (p i).count) ∙ behind_is c.args.numbers.now c.loop-at.at in
    let moves : let p = c.primitive_at-p.result in (c.loop-at.at + 1 ≤ p.first + p.count) × (p.first + p.count ≤ c.args.end) =
    let w = stands_within c.args.numbers.now c.args.end c.loop-at.at (sym c.stands.ensures ∙ c.if-not-stands.false) in
    let e = next in
    (omega arith, omega arith) in
    omega (arith, moves)

pub overflow_add-k : goal.overflow_add-k
overflow_add-k c = omega (arith, c.loop-at-test.true, c.loop-at.invariant.1, c.requires.1)

pub loop-at-smaller : goal.loop-at-smaller
loop-at-smaller c =
    let next : let p = c.primitive_at-p.result in p.first + p.count ≡ behind c.args.numbers.now c.loop-at.at =
    let p = c.primitive_at-p.ensures.0 in
    (λ i. (p i).first + (p i).count) ∙ behind_is c.args.numbers.now c.loop-at.at in
    let moves : let p = c.primitive_at-p.result in (c.loop-at.at + 1 ≤ p.first + p.count) × (p.first + p.count ≤ c.args.end) =
    let w = stands_within c.args.numbers.now c.args.end c.loop-at.at (sym c.stands.ensures ∙ c.if-not-stands.false) in
    let e = next in
    (omega arith, omega arith) in
    omega (arith, moves, c.loop-at-test.true)

pub loop-at-preserved : goal.loop-at-preserved
loop-at-preserved c =
    let next : let p = c.primitive_at-p.result in p.first + p.count ≡ behind c.args.numbers.now c.loop-at.at =
    let p = c.primitive_at-p.ensures.0 in
    (λ i. (p i).first + (p i).count) ∙ behind_is c.args.numbers.now c.loop-at.at in
    let moves : let p = c.primitive_at-p.result in (c.loop-at.at + 1 ≤ p.first + p.count) × (p.first + p.count ≤ c.args.end) =
    let w = stands_within c.args.numbers.now c.args.end c.loop-at.at (sym c.stands.ensures ∙ c.if-not-stands.false) in
    let e = next in
    (omega arith, omega arith) in
    let a = c.args in let l = c.loop-at in (omega (arith, moves), omega (arith, moves, l.invariant.1), rw next (sym (count_on a.numbers.now a.end l.k l.at c.loop-at-test.true (sym c.stands.ensures ∙ c.if-not-stands.false)) ∙ l.invariant.2))

pub returns-then-not-stands : goal.returns-then-not-stands
returns-then-not-stands c = let a = c.args in let l = c.loop-at in sym (count_broken a.numbers.now a.end l.k l.at c.loop-at-test.true (sym c.stands.ensures ∙ c.if-not-stands.true)) ∙ l.invariant.2

pub returns : goal.returns
returns c = let a = c.args in let l = c.loop-at in sym (count_ends a.numbers.now a.end l.k l.at c.loop-at-test.false) ∙ l.invariant.2
