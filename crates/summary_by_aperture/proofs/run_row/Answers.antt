use mathlib.Core.Path.{◌≡◌, sym, ◌∙◌}
use native.Mathlib.Omega.{arith}
use Rattle.summary_by_aperture.specs.Walk.{run_row}
use Rattle.summary_by_aperture.proofs.Walk.{merges_none, merges_more, merges_idle, idle_none}
use Rattle.summary_by_aperture.proofs.run_row.Goals as goal

pub loop-i-init : goal.loop-i-init
loop-i-init c = (omega arith, c.no_row-so_far.ensures ∙ sym (merges_none _ _))

pub is_idle-requires : goal.is_idle-requires
is_idle-requires c = let w = c.requires.inside in omega arith

pub loop-i-preserved-then-is_idle : goal.loop-i-preserved-then-is_idle
loop-i-preserved-then-is_idle c = (omega arith, c.loop-i.invariant.1 ∙ merges_idle _ _ _ (idle_none _ _ _ (sym c.is_idle.ensures ∙ c.if-is_idle.true)))

pub entry_at-r-requires : goal.entry_at-r-requires
entry_at-r-requires c = let w = c.requires.inside in omega arith

pub entry_row-requires : goal.entry_row-requires
entry_row-requires c =
    rw c.entry_at-r.ensures (c.requires.each c.loop-i.i c.loop-i-test.true)

pub merge-so_far-requires : goal.merge-so_far-requires
merge-so_far-requires c =
    let w = c.requires.counts in (rw c.loop-i.invariant.1 (w.few c.loop-i.i c.loop-i.invariant.0), rw (c.entry_row.ensures, c.entry_at-r.ensures) (w.one_few c.loop-i.i c.loop-i-test.true))

pub loop-i-preserved : goal.loop-i-preserved
loop-i-preserved c =
    (omega arith, rw (c.loop-i.invariant.1, c.entry_row.ensures, c.entry_at-r.ensures) at c.merge-so_far.ensures ∙ merges_more _ _ _)

pub returns : goal.returns
unfolding run_row
returns c = let e : c.loop-i.i ≡ c.args.k.len = omega arith in rw e at c.loop-i.invariant.1
