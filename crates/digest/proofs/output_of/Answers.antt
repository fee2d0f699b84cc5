-- `digest::output_of` meets its contract: four bytes of each word, each four in their place.
use Rattle.std.proofs.Common.{◌∙◌}
use Rattle.digest.specs.Bytes.{bytes_of}
use Rattle.digest.specs.Md5.{output}
use Rattle.digest.proofs.Bytes.{le_four}
use Rattle.digest.proofs.output_of.Goals as goal

pub returns : goal.returns
unfolding output bytes_of
returns c =
    let w = c.args.w in
    rw (
      c.copy_from_slice-4.ensures.after ∙ c.to_le_bytes-4.ensures ∙ le_four w.d,
      c.copy_from_slice-3.ensures.after ∙ c.to_le_bytes-3.ensures ∙ le_four w.c,
      c.copy_from_slice-2.ensures.after ∙ c.to_le_bytes-2.ensures ∙ le_four w.b,
      c.copy_from_slice.ensures.after ∙ c.to_le_bytes.ensures ∙ le_four w.a,
    )
