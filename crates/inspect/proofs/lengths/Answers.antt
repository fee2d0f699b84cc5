-- `inspect::lengths` meets its contract: the sum so far stays within the bound, or no sum after it does.
use Rattle.std.proofs.Common.{◌≡◌, ◌+◌, ◌-◌, arith}
use Rattle.inspect.proofs.Added.{added_none, added_more, added_over, added_all}
use Rattle.inspect.proofs.lengths.Goals as goal

pub loop-i-init : goal.loop-i-init
loop-i-init g c = (omega arith, λ G h. let z : c.args.first - c.args.first ≡ 0 = omega arith in rw z (added_none G c.args.first c.args.bound))

pub returns-then-more-bound : goal.returns-then-more-bound
returns-then-more-bound g c = λ G h.
    let A = c.args in
    let l = c.loop-i in
    let q : A.first + (l.i - A.first) ≡ l.i = omega arith in
    added_over G A.first _ _ _ (l.invariant.1 G h) _ (rw q (h l.i _ (omega arith) (omega arith) c.length-more.ensures)) A.n (omega arith) c.if-more-bound.true

pub loop-i-preserved : goal.loop-i-preserved
loop-i-preserved g c = (
  omega arith,
  λ G h.
      let A = c.args in
      let l = c.loop-i in
      let q : A.first + (l.i - A.first) ≡ l.i = omega arith in
      let r : l.i + 1 - A.first ≡ l.i - A.first + 1 = omega arith in
      rw r (added_more G A.first _ _ _ (l.invariant.1 G h) _ (rw q (h l.i _ (omega arith) (omega arith) c.length-more.ensures)) c.if-more-bound.false),
)

pub returns : goal.returns
returns g c = λ G h. added_all G c.args.first _ _ _ (c.loop-i.invariant.1 G h) c.args.n (omega arith)
