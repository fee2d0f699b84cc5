-- `templates::kind_of` meets its contract: each row is one of `kind_of`.
use Rattle.templates.specs.Templates.{kind_of}
use Rattle.templates.proofs.kind_of.Goals as goal

pub returns : goal.returns
unfolding kind_of
returns c =
    simp (
      c.row.ensures,
      c.is-4.ensures,
      c.row-r.ensures,
      c.is-3.ensures,
      c.row-o.ensures,
      c.is-2.ensures,
      c.row-p.ensures,
      c.is.ensures,
    )
