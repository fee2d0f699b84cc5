-- `summary_by_aperture::is_idle` meets its contract: the two words are those of the entry.
use Rattle.summary_by_aperture.proofs.Walk.{idle_aperture, idle_regions}
use Rattle.std.proofs.Common.{ℕ, eqb, not, le-leb, sym, ap, ◌∙◌}
use borrow.Author.Tests.{lt-leb}
use Rattle.base.proofs.And.{ands}
use Rattle.summary_by_aperture.proofs.is_idle.Goals.{then-kind-le4, else-kind-le4}
use Rattle.summary_by_aperture.proofs.is_idle.Goals as goal

pub returns-after-kind-le4 : goal.returns-after-kind-le4
returns-after-kind-le4 c =
    let A = c.args in
    let k8 = le-leb _ _ (rw c.word_at-kind.ensures at c.if-draws.true) in
    elim c.if-kind-le4.branch [
      | then-kind-le4 w ↦
          let k4 = le-leb _ _ (rw c.word_at-kind.ensures at w.if-kind-le4.true) in
          rw (c.in-Aperture.is, idle_aperture A.e.now A.i c.in-Aperture.n) (simp (k8, k4, ands) (ap not (w.result-is ∙ ap (λ (x : ℕ). eqb x c.in-Aperture.n) c.word_at-who.ensures)))
      | else-kind-le4 w ↦
          let k4 = lt-leb _ _ (rw c.word_at-kind.ensures at w.if-kind-le4.false) in
          rw (c.in-Aperture.is, idle_aperture A.e.now A.i c.in-Aperture.n) (simp (k8, k4, ands) (ap not (w.result-is ∙ lt-leb _ _ w.if-kind-le4.false)))
    ]

pub returns-else-draws : goal.returns-else-draws
returns-else-draws c =
    let A = c.args in
    let k8 = lt-leb _ _ (rw c.word_at-kind.ensures at c.if-draws.false) in
    rw (c.in-Aperture.is, idle_aperture A.e.now A.i c.in-Aperture.n) (simp (k8, ands) (lt-leb _ _ c.if-draws.false))

pub returns-in-Regions : goal.returns-in-Regions
returns-in-Regions c = rw (c.in-Regions.is, c.word_at-kind.ensures) (sym (idle_regions _ _))
