-- `inspect::lengths_ok` meets its contract: a part that is past the bound makes the sum differ, and three parts within it do not wrap.
use Rattle.inspect.proofs.Added.{told}
use Rattle.sheet.specs.Valid.{block_length, body_length, ok_lengths}
use Rattle.base.specs.Run.{sums}
use Rattle.std.proofs.Common.{◌≡◌, ◌+◌, ◌^◌, ◌<◌, ◌≤◌, sym, arith, ne_eqb, rules}
use Rattle.inspect.proofs.lengths_ok.Goals as goal

pub returns-in_default : goal.returns-in_default
unfolding ok_lengths
returns-in_default c = let A = c.args in
    let over : A.used < sums (block_length A.a.now) 0 A.n = told _ _ (c.lengths.ensures (block_length c.args.a.now) (λ i x l m p. search rules)) c.in_default.is in
    sym (ne_eqb _ _ (λ (q : A.top.len + sums (block_length A.a.now) 0 A.n + sums (body_length A.e.now) A.top.first A.top.len ≡ A.used). omega arith))

pub returns-in_default-lengths : goal.returns-in_default-lengths
unfolding ok_lengths
returns-in_default-lengths c =
    let A = c.args in
    let over : A.used < sums (body_length A.e.now) A.top.first A.top.len = told _ _ (c.lengths-2.ensures (body_length c.args.e.now) (λ i x l m p. search rules)) c.in_default-lengths.is in
    sym (ne_eqb _ _ (λ (q : A.top.len + sums (block_length A.a.now) 0 A.n + sums (body_length A.e.now) A.top.first A.top.len ≡ A.used). omega arith))

pub overflow_add-result : goal.overflow_add-result
overflow_add-result c =
    let blocks : let A = c.args in
    (c.in-Some.blocks ≡ sums (block_length A.a.now) 0 A.n) × (sums (block_length A.a.now) 0 A.n ≤ A.used) =
    told _ _ (c.lengths.ensures (block_length c.args.a.now) (λ i x l m p. search rules)) c.in-Some.is in
    let rooms : let A = c.args in A.top.len + A.used + A.used < 2 ^ 64 =
    omega (arith, c.requires) in
    omega (arith, blocks.0, blocks.1, rooms)

pub overflow_add-result-2 : goal.overflow_add-result-2
overflow_add-result-2 c =
    let blocks : let A = c.args in
    (c.in-Some.blocks ≡ sums (block_length A.a.now) 0 A.n) × (sums (block_length A.a.now) 0 A.n ≤ A.used) =
    told _ _ (c.lengths.ensures (block_length c.args.a.now) (λ i x l m p. search rules)) c.in-Some.is in
    let bodies : let A = c.args in
    (c.in-Some-lengths.bodies ≡ sums (body_length A.e.now) A.top.first A.top.len) × (sums (body_length A.e.now) A.top.first A.top.len ≤ A.used) =
    told _ _ (c.lengths-2.ensures (body_length c.args.e.now) (λ i x l m p. search rules)) c.in-Some-lengths.is in
    let rooms : let A = c.args in A.top.len + A.used + A.used < 2 ^ 64 =
    omega (arith, c.requires) in
    omega (arith, blocks.0, blocks.1, bodies.0, bodies.1, rooms)

pub returns : goal.returns
unfolding ok_lengths
returns c =
    let blocks : let A = c.args in
    (c.in-Some.blocks ≡ sums (block_length A.a.now) 0 A.n) × (sums (block_length A.a.now) 0 A.n ≤ A.used) =
    told _ _ (c.lengths.ensures (block_length c.args.a.now) (λ i x l m p. search rules)) c.in-Some.is in
    let bodies : let A = c.args in
    (c.in-Some-lengths.bodies ≡ sums (body_length A.e.now) A.top.first A.top.len) × (sums (body_length A.e.now) A.top.first A.top.len ≤ A.used) =
    told _ _ (c.lengths-2.ensures (body_length c.args.e.now) (λ i x l m p. search rules)) c.in-Some-lengths.is in
    rw (blocks.0, bodies.0)
