-- `quadrant::judge` meets its contract: the vectors from the centre are short enough, and the callees' answers are the parts of the rule.
use Prim.Native.Nat.{◌*◌, ◌^◌}
use Rattle.points.specs.Points.{Within}
use Rattle.quadrant.proofs.Within.{seen_within, dot_small}
use Rattle.quadrant.proofs.judge.Goals as goal

pub spanning-keep-requires : goal.spanning-keep-requires
spanning-keep-requires c =
    let to_start : Within (3 * 10 ^ 12) c.seen_from-s.result =
    rw c.seen_from-s.ensures (seen_within (2 * 10 ^ 12) (10 ^ 12) _ _ c.requires.within_3 c.requires.within) in
    let to_end : Within (3 * 10 ^ 12) c.seen_from-e.result =
    rw c.seen_from-e.ensures (seen_within (2 * 10 ^ 12) (10 ^ 12) _ _ c.requires.within_3 c.requires.within_2) in
    record {
      within = to_start;
      within_2 = to_end;
    }

pub dot-requires : goal.dot-requires
dot-requires c =
    let to_start : Within (3 * 10 ^ 12) c.seen_from-s.result =
    rw c.seen_from-s.ensures (seen_within (2 * 10 ^ 12) (10 ^ 12) _ _ c.requires.within_3 c.requires.within) in
    record {
      within = to_start;
      within_2 = to_start;
    }

pub dot-requires-2 : goal.dot-requires-2
dot-requires-2 c =
    let to_end : Within (3 * 10 ^ 12) c.seen_from-e.result =
    rw c.seen_from-e.ensures (seen_within (2 * 10 ^ 12) (10 ^ 12) _ _ c.requires.within_3 c.requires.within_2) in
    record {
      within = to_end;
      within_2 = to_end;
    }

pub apart-gap-requires : goal.apart-gap-requires
apart-gap-requires c =
    let to_start : Within (3 * 10 ^ 12) c.seen_from-s.result =
    rw c.seen_from-s.ensures (seen_within (2 * 10 ^ 12) (10 ^ 12) _ _ c.requires.within_3 c.requires.within) in
    let to_end : Within (3 * 10 ^ 12) c.seen_from-e.result =
    rw c.seen_from-e.ensures (seen_within (2 * 10 ^ 12) (10 ^ 12) _ _ c.requires.within_3 c.requires.within_2) in
    record {
      x_bound = rw c.dot.ensures (dot_small _ _ to_start to_start);
      y_bound = rw c.dot-2.ensures (dot_small _ _ to_end to_end);
    }
