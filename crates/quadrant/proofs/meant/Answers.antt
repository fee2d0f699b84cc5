-- `quadrant::meant` meets its contract: the centre that is judged is start plus I and J with their signs.
use Prim.Native.Nat.{◌*◌, ◌^◌}
use mathlib.Core.Path.{sym, ap, subst, ◌∙◌}
use native.Mathlib.Omega.{arith}
use Rattle.points.specs.Points.{Within, shift}
use Rattle.points.specs.declared.Point.{Point}
use Rattle.points.proofs.Laws.{shift_within}
use Rattle.quadrant.specs.Candidates.{Judged}
use Rattle.quadrant.proofs.Within.{within_more, offset_within, offset_is}
use Rattle.quadrant.proofs.meant.Goals as goal

pub shifted-requires : goal.shifted-requires
shifted-requires c =
    let p = c.requires in
    let offset = offset_is c.args.left c.args.down c.with_sign.ensures.0 c.with_sign-2.ensures.0 p.i_bound.0 p.i_bound.1 in
    record {
      within = within_more (10 ^ 12) (10 ^ 16) _ (omega arith) p.within;
      within_2 = subst (λ (q : Point). Within (10 ^ 16) q) (sym offset) (within_more (10 ^ 12) (10 ^ 16) _ (omega arith) (offset_within (10 ^ 12) _ _ _ _ p.i_bound.0 p.i_bound.1));
    }

pub judge-requires : goal.judge-requires
judge-requires c =
    let p = c.requires in
    let offset = offset_is c.args.left c.args.down c.with_sign.ensures.0 c.with_sign-2.ensures.0 p.i_bound.0 p.i_bound.1 in
    let centre = c.shifted.ensures ∙ ap (shift c.args.start) offset in
    record {
      within = p.within;
      within_2 = p.within_2;
      within_3 = subst (λ (q : Point). Within (2 * 10 ^ 12) q) (sym centre) (shift_within (10 ^ 12) (10 ^ 12) _ _ p.within (offset_within (10 ^ 12) _ _ _ _ p.i_bound.0 p.i_bound.1));
    }

pub returns : goal.returns
returns c =
    let p = c.requires in
    let offset = offset_is c.args.left c.args.down c.with_sign.ensures.0 c.with_sign-2.ensures.0 p.i_bound.0 p.i_bound.1 in
    subst (λ (q : Point). Judged c.args.clockwise c.args.start c.args.end q c.judge.result) (c.shifted.ensures ∙ ap (shift c.args.start) offset) c.judge.ensures
