-- `inspect::flat_ok` meets its contract: without a repeat the bodies' lengths are nothing, and every body is in order.
use Rattle.inspect.proofs.Added.{told}
use Rattle.inspect.proofs.Flat.{flat_wrong, flat_right}
use Rattle.sheet.specs.Valid.{block_length}
use Rattle.base.specs.Run.{sums}
use Rattle.std.proofs.Common.{◌≡◌, ◌+◌, ◌^◌, ◌<◌, ◌≤◌, ◌∙◌, arith, ne_eqb, rules}
use Rattle.inspect.proofs.flat_ok.Goals as goal

pub returns-in_default : goal.returns-in_default
returns-in_default c = let A = c.args in
    let over : A.used < sums (block_length A.a.now) 0 A.n = told _ _ (c.lengths.ensures (block_length A.a.now) (λ i x l m p. search rules)) c.in_default.is in
    flat_wrong _ _ _ _ _ c.requires.3 (λ (q : A.top.len + sums (block_length A.a.now) 0 A.n ≡ A.used). omega arith)

pub overflow_add-top : goal.overflow_add-top
overflow_add-top c =
    let A = c.args in
    let blocks : (c.in-Some.blocks ≡ sums (block_length A.a.now) 0 A.n) × (sums (block_length A.a.now) 0 A.n ≤ A.used) =
    told _ _ (c.lengths.ensures (block_length A.a.now) (λ i x l m p. search rules)) c.in-Some.is in
    let room : A.top.len + A.used < 2 ^ 64 = omega (arith, c.requires) in
    omega (arith, blocks.0, blocks.1, room)

pub returns-then-top-blocks : goal.returns-then-top-blocks
returns-then-top-blocks c =
    let A = c.args in
    let blocks : (c.in-Some.blocks ≡ sums (block_length A.a.now) 0 A.n) × (sums (block_length A.a.now) 0 A.n ≤ A.used) =
    told _ _ (c.lengths.ensures (block_length A.a.now) (λ i x l m p. search rules)) c.in-Some.is in
    c.blocks_ok.ensures ∙ flat_right _ _ _ _ _ c.requires.3 (rw blocks.0 at c.if-top-blocks.true)

pub returns-else-top-blocks : goal.returns-else-top-blocks
returns-else-top-blocks c =
    let A = c.args in
    let blocks : (c.in-Some.blocks ≡ sums (block_length A.a.now) 0 A.n) × (sums (block_length A.a.now) 0 A.n ≤ A.used) =
    told _ _ (c.lengths.ensures (block_length A.a.now) (λ i x l m p. search rules)) c.in-Some.is in
    ne_eqb _ _ c.if-top-blocks.false ∙ flat_wrong _ _ _ _ _ c.requires.3 (rw blocks.0 at c.if-top-blocks.false)
