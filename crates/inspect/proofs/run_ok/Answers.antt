use Rattle.std.proofs.Common.{◌≡◌, true, sym, ◌∙◌, arith, eq-eqb, ne_eqb}
use Rattle.inspect.proofs.Passed.{passed_none, passed_all, passed_wrong, passed_over, passed_more}
use Rattle.inspect.proofs.Flat.{no_repeat_none, no_repeat_more}
use Rattle.base.proofs.And.{and_i, ands}
use borrow.Author.Tests.{not-true}
use Rattle.inspect.proofs.run_ok.Goals.{then-not-entry_ok-via-then-not-entry_ok, then-not-entry_ok-via-else-not-entry_ok+then-r-so_far, then-flat, else-flat}
use Rattle.inspect.proofs.run_ok.Goals as goal

pub loop-i-init : goal.loop-i-init
loop-i-init c = (passed_none _ _ _ _, λ f. no_repeat_none _ _)

pub size_of-size-requires : goal.size_of-size-requires
size_of-size-requires c = (c.requires.1, sym c.entry_ok.ensures ∙ c.if-not-entry_ok.false)

pub overflow_sub-k : goal.overflow_sub-k
overflow_sub-k c = c.loop-i.invariant.0.few

pub returns-then-not-entry_ok : goal.returns-then-not-entry_ok
returns-then-not-entry_ok c =
    let wrong = passed_wrong _ _ _ _ _ _ c.loop-i.invariant.0 _ c.whole_entry-r.ensures c.loop-i-test.true in
    elim c.then-not-entry_ok.branch [
      | then-not-entry_ok-via-then-not-entry_ok w ↦ let k = sym c.entry_ok.ensures ∙ w.if-not-entry_ok.true in (wrong (simp (k, ands)), λ f. cc)
      | then-not-entry_ok-via-else-not-entry_ok+then-r-so_far w ↦
          let k = sym c.entry_ok.ensures ∙ w.if-not-entry_ok.false in
          (wrong (simp (k, ands) (ne_eqb _ _ w.if-r-so_far.true)), λ f. cc)
    ]

pub returns-then-size-k : goal.returns-then-size-k
returns-then-size-k c =
    (passed_over _ _ _ _ _ _ c.loop-i.invariant.0 _ c.whole_entry-r.ensures c.loop-i-test.true _ c.size_of-size.ensures c.if-size-k.true, λ f. cc)

pub loop-i-preserved : goal.loop-i-preserved
loop-i-preserved c =
    let l = c.loop-i in
    let here = c.whole_entry-r.ensures in
    let tested = and_i _ _ (sym c.entry_ok.ensures ∙ c.if-not-entry_ok.false) (eq-eqb _ _ c.if-r-so_far.false) in (
      passed_more _ _ _ _ _ _ l.invariant.0 _ here c.loop-i-test.true _ c.size_of-size.ensures tested c.if-size-k.false,
      elim c.if-flat.branch [
        | then-flat w ↦ λ f. no_repeat_more _ _ l.i _ here (l.invariant.1 w.if-flat.true) (not-true _ (sym w.flat-is ∙ f))
        | else-flat w ↦ λ f. cc
      ],
    )

pub returns-then-so_far-k : goal.returns-then-so_far-k
returns-then-so_far-k c = let l = c.loop-i in (
  sym (eq-eqb _ _ c.if-so_far-k.true) ∙ passed_all _ _ _ _ _ _ l.invariant.0 c.loop-i-test.false,
  λ f.
      let q : l.i ≡ c.args.k.len = let m = l.invariant.0.inside in omega arith in
      let g : l.flat ≡ true = cc in
      rw (← q) (l.invariant.1 g),
)

pub returns-else-so_far-k : goal.returns-else-so_far-k
returns-else-so_far-k c = (sym (ne_eqb _ _ c.if-so_far-k.false) ∙ passed_all _ _ _ _ _ _ c.loop-i.invariant.0 c.loop-i-test.false, λ f. cc)
