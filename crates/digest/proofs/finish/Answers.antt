-- `digest::finish` meets its contract: the padding is one run more and the length field another, and both together are `tail`.
use Rattle.std.proofs.Common.{sym, ap, ◌∙◌}
use Rattle.digest.specs.Md5.{padding, length_of, tail, output}
use Rattle.digest.specs.Runs.{finished}
use Rattle.digest.proofs.Bytes.{le_eight}
use Rattle.digest.proofs.Runs.{fed_append}
use Rattle.digest.proofs.Padding.{first_padding, length_field}
use Rattle.digest.proofs.finish.Goals as goal

pub returns : goal.returns
unfolding finished tail
returns c =
    let a = c.args in
    rw (
      c.output_of.ensures,
      c.feed-q.ensures,
      c.to_le_bytes.ensures ∙ le_eight _,
      c.feed-p.ensures,
      first_padding a.s.length,
      length_field a.s.length,
    )
    (ap (λ q. output q.words) (sym (fed_append a.s (padding a.s.length) (length_of a.s.length))))
