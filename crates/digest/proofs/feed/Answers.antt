-- `digest::feed` meets its contract: a short run goes byte by byte, a longer one in three parts (`fed_parts`).
use Rattle.std.proofs.Common.{◌≡◌, ◌-◌, ◌%◌, ◌^◌, ◌<◌, ◌≤◌, length, drop, arith, length-drop, take_all, rules}
use Rattle.digest.specs.Runs.{empty}
use Rattle.digest.proofs.Runs.{fed_parts}
use Rattle.digest.proofs.feed.Goals as goal

pub returns : goal.returns
unfolding empty
returns c =
    let size : length c.args.s.rest ≡ 64 =
    search rules in
    let fits : c.args.s.length < 2 ^ 64 =
    search rules in
    let a = c.args in
    let lead = (64 - a.s.length % 64) % 64 in
    let t = a.t.now in
    let end = length t - (length t - lead) % 64 in
    let short : length (drop end t) ≤ length t - end = simp length-drop (omega arith) in
    rw (
      c.feed_bytes-2.ensures,
      c.feed_blocks.ensures,
      c.feed_bytes-a.ensures,
      take_all (length t - end) (drop end t) short,
    )
    (fed_parts a.s t lead end fits size (omega arith) (omega arith) (omega arith) (omega arith))
